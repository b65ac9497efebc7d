use Rattle.std.proofs.Common.{length}
use Rattle.service_phases.proofs.feeding.+wanted.Given as goal

abbrev pub decreases-wanted : goal.decreases-wanted
decreases-wanted l = length l.feeds.now
