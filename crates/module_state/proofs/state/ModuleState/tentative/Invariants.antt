use Rattle.std.proofs.Common.{◌≡◌, drop}
use Rattle.module_state.specs.Module.{tentative}
use Rattle.module_state.proofs.state.ModuleState.tentative.Given as goal

abbrev pub invariant-loop-event : goal.invariant-loop-event
invariant-loop-event l = tentative l.state (drop l.event-index l.ahead) ≡ tentative l.self l.ahead
