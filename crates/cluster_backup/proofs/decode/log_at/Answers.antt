use Rattle.std.proofs.Common.{arith}
use Rattle.cluster_backup.specs.Laws.{counted_long}
use Rattle.cluster_backup.specs.declared.part.Part.TheVariants as part
use Rattle.cluster_backup.proofs.decode.log_at.Goals as goal

pub get_i64-requires : goal.get_i64-requires
get_i64-requires c = omega (arith, counted_long part.Event c.args.bytes.now c.requires.free)
