use Rattle.std.proofs.Common.{◌-◌}
use Rattle.log_segment.proofs.scan.+look_later.Given as goal

abbrev pub decreases-look_later : goal.decreases-look_later
decreases-look_later g l = 47 - l.frame
