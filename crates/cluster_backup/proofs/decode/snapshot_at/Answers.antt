use Rattle.std.proofs.Common.{arith}
use Rattle.cluster_backup.specs.Laws.{counted_long}
use Rattle.cluster_backup.specs.declared.part.Part.TheVariants as part
use Rattle.cluster_backup.proofs.decode.snapshot_at.Goals as goal

pub get_i64-requires : goal.get_i64-requires
get_i64-requires c = omega (arith, counted_long part.Piece c.args.bytes.now c.requires.free)

pub get_i64-requires-2 : goal.get_i64-requires-2
get_i64-requires-2 c = omega (arith, counted_long part.Piece c.args.bytes.now c.requires.free)

pub get_i64-requires-3 : goal.get_i64-requires-3
get_i64-requires-3 c = omega (arith, counted_long part.Piece c.args.bytes.now c.requires.free)

pub get_i64-requires-4 : goal.get_i64-requires-4
get_i64-requires-4 c = omega (arith, counted_long part.Piece c.args.bytes.now c.requires.free)

pub get_i32-requires : goal.get_i32-requires
get_i32-requires c = omega (arith, counted_long part.Piece c.args.bytes.now c.requires.free)
