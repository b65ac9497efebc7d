use Rattle.cluster_backup.proofs.Bringing.{within_log}
use Rattle.cluster_backup.proofs.snapshots.is_within.Goals as goal

pub returns : goal.returns
returns c = λ log is. within_log log c.args.index.now c.place.result c.args.position is c.place.ensures
