use Rattle.std.proofs.Common.{◌≡◌, ◌≤◌, ◌+◌, ◌++◌, length, drop}
use Rattle.entry_log.specs.Log.{RisesFrom, last, place, place_from}
use Rattle.log_segment.proofs.kept.KeptLog.push_all.Given as goal

abbrev pub invariant-loop-entry : goal.invariant-loop-entry
invariant-loop-entry l = record {
  log : l.self ++ drop l.entry-index l.entries ≡ l.initial.self ++ l.entries;
  count : length l.self ≡ length l.initial.self + l.entry-index;
  rises : RisesFrom (last l.self) (drop l.entry-index l.entries);
  room : place_from (place l.self) (drop l.entry-index l.entries) ≤ 16777216;
}
