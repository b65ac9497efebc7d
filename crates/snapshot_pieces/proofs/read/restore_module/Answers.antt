use Rattle.std.proofs.Common.{◌≡◌, ◌<◌, ℕ, length, sym, ap, ◌∙◌, arith}
use Rattle.std.specs.Prelude.{Ok, slice_range}
use Rattle.std.proofs.lemmas.Option.{slice_get_within}
use Rattle.module_state.specs.Restored.{restored}
use Rattle.snapshot_pieces.proofs.Again.{between_same}
use Rattle.snapshot_pieces.proofs.Framed.{between_range}
use Rattle.snapshot_pieces.proofs.read.restore_module.Goals as goal

pub returns-clause-restored : goal.returns-clause-restored
returns-clause-restored c =
    let there : 0 < length c.args.pieces.now = slice_get_within c.args.pieces.now 0 _ c.in_ok-expect_marker.ensures.ok in (
      slice_range c.args.pieces.now 1 c.count_to_marker-end.result,
      between_range _ _ c.args.pieces.now c.count_to_marker-end.result c.in_ok-expect_marker.ensures.ok c.in_ok-expect_marker-2.ensures.ok c.in_ok-expect_end.ensures.ok (c.count_to_marker-end.ensures.front there),
      c.in-Ok.ensures.ok,
    )

pub returns-clause-same : goal.returns-clause-same
returns-clause-same c records m is good =
    let got = returns-clause-restored c in
    let same : records ≡ got.0 = between_same _ _ records got.0 (sym is ∙ got.1) in
    let one : restored c.args.services records ≡ Ok c.in-Ok.module = ap (restored c.args.services) same ∙ got.2 in
    cc
