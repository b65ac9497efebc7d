use Rattle.std.proofs.Common.{◌≡◌, ◌++◌, drop, map}
use Rattle.sbe_local.specs.Pieces.{piece_spelling_of}
use Rattle.module_state.specs.Recorded.{timer_pieces}
use Rattle.module_state.proofs.records.add_timers.Given as goal

abbrev pub invariant-loop-timer : goal.invariant-loop-timer
invariant-loop-timer l = l.found ++ map piece_spelling_of (timer_pieces (drop l.timer-index l.timer-items)) ≡ l.initial.found ++ map piece_spelling_of (timer_pieces l.timer-items)
