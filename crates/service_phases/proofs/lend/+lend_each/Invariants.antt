use Rattle.std.proofs.Common.{length}
use Rattle.service_phases.proofs.lend.+lend_each.Given as goal

abbrev pub decreases-lend_each : goal.decreases-lend_each
decreases-lend_each l = length l.kept.now.items
