use Rattle.std.proofs.Common.{length}
use Rattle.service_phases.proofs.finishing.+have_published.Given as goal

abbrev pub decreases-have_published : goal.decreases-have_published
decreases-have_published l = length l.feeds.now
