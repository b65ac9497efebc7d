use Rattle.std.proofs.Common.{length}
use Rattle.service_phases.proofs.finishing.+have_taken.Given as goal

abbrev pub decreases-have_taken : goal.decreases-have_taken
decreases-have_taken l = length l.feeds.now
