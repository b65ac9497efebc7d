use Rattle.std.proofs.Common.{◌≡◌, ◌-◌, ◌≤◌}
use Rattle.std.specs.Prelude.{IsTrue, []}
use Rattle.consensus_agent.specs.Disks.{Looked}
use Rattle.consensus_agent.specs.Quiet.{Quiet}
use Rattle.consensus_agent.specs.Reads.{IsReadOn}
use Rattle.consensus_agent.specs.Starts.{IsNew}
use Rattle.consensus_agent.proofs.mounting.read_ahead.Given as goal

abbrev pub invariant-loop-index : goal.invariant-loop-index
invariant-loop-index g l = record {
  state : l.module.state ≡ l.initial.module.state;
  taken : l.module.consumed ≡ l.initial.module.consumed;
  low : l.initial.module.consumed ≤ l.index;
  fresh : IsNew l.module;
  looked : Looked g.D.Disk.state g.D.Disk.tells g.D.Disk.is_honest l.initial.disk l.disk;
  quiet : Quiet g.D.Disk.fault_count g.D.Disk.state g.D.Disk.tells l.initial.disk l.disk;
  whole : IsTrue l.disk.whole;
  read : IsReadOn (g.D.Disk.tells l.initial.disk.disk) l.initial.disk.kept.log l.initial.module.consumed (l.index - l.initial.module.consumed) [] l.module.ahead.entries;
}
