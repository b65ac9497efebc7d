use Rattle.std.proofs.Common.{length}
use Rattle.service_phases.proofs.feeding.+publish_each.Given as goal

abbrev pub decreases-publish_each : goal.decreases-publish_each
decreases-publish_each l = length l.feeds.now
