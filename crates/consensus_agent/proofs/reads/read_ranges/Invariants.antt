use Rattle.std.proofs.Common.{take}
use Rattle.std.specs.Prelude.{IsTrue}
use Rattle.cl_base.specs.Looks.{Same}
use Rattle.consensus_agent.specs.Disks.{Looked}
use Rattle.consensus_agent.proofs.Reading.{AllRead}
use Rattle.consensus_agent.proofs.reads.read_ranges.Given as goal

abbrev pub invariant-loop-range : goal.invariant-loop-range
invariant-loop-range g l = record {
  whole : IsTrue l.disk.whole;
  looked : Looked g.D.Disk.state g.D.Disk.tells g.D.Disk.is_honest l.initial.disk l.disk;
  same : IsTrue (g.D.Disk.tells l.initial.disk.disk) → Same (g.D.Disk.state l.initial.disk.disk) (g.D.Disk.state l.disk.disk);
  read : AllRead (g.D.Disk.tells l.initial.disk.disk) l.initial.disk.kept.log (take l.range-index l.ranges) l.batches;
}
