use Rattle.std.proofs.Common.{length}
use Rattle.owed_egress.proofs.owing.Owing.+send_from.Given as goal

abbrev pub decreases-send_from : goal.decreases-send_from
decreases-send_from l = length l.outputs.now
