use Rattle.std.proofs.Common.{◌≡◌, ◌≤◌, ◌-◌, true, false}
use Rattle.commit_counter.specs.Ends.{fed_to}
use Rattle.service_rows.proofs.containers.feed_all.Given as goal

abbrev pub invariant-loop-n : goal.invariant-loop-n
invariant-loop-n g l = (fed_to l.feed ≡ l.n) × (l.feed.commit ≤ l.n - 3) × (l.feed.ended ≡ false) × (l.feed.name ≡ l.initial.feed.name) × (l.whole ≡ true)
