use Rattle.std.proofs.Common.{◌≡◌, length, take}
use Rattle.std.specs.Prelude.{IsTrue, unwrap_or}
use Rattle.service_phases.specs.Pairs.{Each}
use Rattle.service_phases.specs.Phases.{IsAt}
use Rattle.consensus_agent.specs.Disks.{Looked}
use Rattle.consensus_agent.specs.Quiet.{Quiet}
use Rattle.consensus_agent.specs.Restored.{GoOn}
use Rattle.consensus_agent.proofs.mounting.restored_services.Given as goal

abbrev pub invariant-loop-kind : goal.invariant-loop-kind
invariant-loop-kind g l = record {
  services : Each (IsAt (unwrap_or l.entries 0)) l.containers.items;
  many : length l.containers.items ≡ l.kind-index;
  looked : Looked g.D.Disk.state g.D.Disk.tells g.D.Disk.is_honest l.initial.disk l.disk;
  quiet : Quiet g.D.Disk.fault_count g.D.Disk.state g.D.Disk.tells l.initial.disk l.disk;
  kept : l.disk.kept ≡ l.initial.disk.kept;
  whole : IsTrue l.disk.whole;
  on : IsTrue (g.D.Disk.tells l.initial.disk.disk) → GoOn l.initial.disk.kept (g.D.Disk.state l.initial.disk.disk).files (unwrap_or l.entries 0) (take l.kind-index l.kinds) 0 l.containers.items;
}
