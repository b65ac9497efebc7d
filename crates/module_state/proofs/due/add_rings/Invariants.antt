use Rattle.std.proofs.Common.{◌≡◌, ◌++◌, drop, filter}
use Rattle.module_state.specs.Due.{is_quiet, rings_of}
use Rattle.module_state.proofs.due.add_rings.Given as goal

abbrev pub invariant-loop-timer : goal.invariant-loop-timer
invariant-loop-timer l = l.found ++ rings_of l.moment.term l.moment.now (filter (is_quiet l.ahead) (drop l.timer-index l.timer-items)) ≡ l.initial.found ++ rings_of l.moment.term l.moment.now (filter (is_quiet l.ahead) l.timer-items)
