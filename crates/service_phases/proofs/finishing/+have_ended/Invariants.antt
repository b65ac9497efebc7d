use Rattle.std.proofs.Common.{length}
use Rattle.service_phases.proofs.finishing.+have_ended.Given as goal

abbrev pub decreases-have_ended : goal.decreases-have_ended
decreases-have_ended l = length l.served.now
