use Rattle.std.proofs.Common.{length}
use Rattle.service_phases.proofs.finishing.+finish_each.Given as goal

abbrev pub decreases-finish_each : goal.decreases-finish_each
decreases-finish_each l = length l.feeds.now
