use Rattle.service_phases.specs.Pairs.{Each}
use Rattle.lanes.specs.Jobs.{IsIdle}
use Rattle.lanes.proofs.member.open_lanes.Given as goal

abbrev pub invariant-loop : goal.invariant-loop
invariant-loop g l = Each IsIdle l.lanes.items
