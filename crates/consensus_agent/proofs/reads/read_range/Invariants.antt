use Rattle.std.proofs.Common.{◌-◌}
use Rattle.std.specs.Prelude.{IsTrue}
use Rattle.cl_base.specs.Looks.{Same}
use Rattle.consensus_agent.specs.Disks.{Looked}
use Rattle.consensus_agent.specs.Reads.{IsReadOn}
use Rattle.consensus_agent.proofs.reads.read_range.Given as goal

abbrev pub invariant-loop-index : goal.invariant-loop-index
invariant-loop-index g l = record {
  whole : IsTrue l.disk.whole;
  looked : Looked g.D.Disk.state g.D.Disk.tells g.D.Disk.is_honest l.initial.disk l.disk;
  same : IsTrue (g.D.Disk.tells l.initial.disk.disk) → Same (g.D.Disk.state l.initial.disk.disk) (g.D.Disk.state l.disk.disk);
  read : IsReadOn (g.D.Disk.tells l.initial.disk.disk) l.initial.disk.kept.log l.first (l.index - l.first) l.initial.batches l.batches;
}
