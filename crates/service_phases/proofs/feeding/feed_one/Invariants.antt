use Rattle.std.proofs.Common.{◌≡◌}
use Rattle.commit_counter.specs.Ends.{fed_to}
use Rattle.service_phases.specs.Feeds.{TakesMore}
use Rattle.service_phases.proofs.feeding.feed_one.Given as goal

abbrev pub invariant-loop-index : goal.invariant-loop-index
invariant-loop-index g l = TakesMore l.first l.entries l.initial.feed l.feed × (fed_to l.feed ≡ l.index)
