use Rattle.std.proofs.Common.{◌≡◌, drop}
use Rattle.module_state.specs.Allowed.{rings}
use Rattle.module_state.proofs.due.has_rung.Given as goal

abbrev pub invariant-loop-event : goal.invariant-loop-event
invariant-loop-event l = rings l.name (drop l.event-index l.ahead) ≡ rings l.name l.ahead
