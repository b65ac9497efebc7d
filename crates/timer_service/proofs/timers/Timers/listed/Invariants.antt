use Rattle.std.proofs.Common.{◌≡◌, ◌++◌}
use Rattle.timer_service.proofs.timers.Timers.listed.Given as goal

abbrev pub invariant-loop-corr : goal.invariant-loop-corr
invariant-loop-corr l = record {
  next : (goal.iterator-loop-corr).can_next l.corr-iterator;
  ends : (goal.iterator-loop-corr).is_finite l.corr-iterator;
  so_far : l.found ++ l.corr-iterator ≡ l.self;
}
