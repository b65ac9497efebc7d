use Rattle.std.proofs.Common.{rules}
use Rattle.snapshot_pieces.proofs.Framed.{one_between}
use Rattle.snapshot_pieces.proofs.read.restore_service.Goals as goal

pub returns-clause-restored : goal.returns-clause-restored
returns-clause-restored c = (
  c.in_ok-bytes.bytes,
  one_between _ _ _ c.args.pieces.now c.in_ok-expect_marker.ensures.ok c.in_ok-bytes.ensures.state c.in_ok-expect_marker-2.ensures.ok c.in_ok-expect_end.ensures.ok,
  search rules,
)
