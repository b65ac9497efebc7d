use Rattle.std.proofs.Common.{length}
use Rattle.service_phases.proofs.feeding.+have_pushed.Given as goal

abbrev pub decreases-have_pushed : goal.decreases-have_pushed
decreases-have_pushed l = length l.feeds.now
