use Rattle.std.proofs.Common.{◌≡◌, drop}
use Rattle.module_state.specs.Due.{alive_at}
use Rattle.module_state.proofs.due.alive_at.Given as goal

abbrev pub invariant-loop-pair : goal.invariant-loop-pair
invariant-loop-pair l = alive_at l.id (drop l.pair-index l.alive) ≡ alive_at l.id l.alive
