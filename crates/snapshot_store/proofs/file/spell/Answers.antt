use Rattle.std.proofs.Common.{◌∙◌, ap, sym, take, ◌++◌}
use Rattle.wire_prims.specs.Strict.{counted}
use Rattle.snapshot_store.specs.Snapshots.{spelled}
use Rattle.snapshot_store.proofs.Pieces.{spelled_step}
use Rattle.snapshot_store.proofs.file.spell.Goals as goal

pub loop-piece-preserved : goal.loop-piece-preserved
loop-piece-preserved c =
    c.in_ok-put_counted.ensures
    ∙ ap (λ l. l ++ counted c.as_slice.result.now) c.loop-piece.invariant
    ∙ ap (λ l. spelled (take c.loop-piece.piece-index c.args.pieces.now) ++ counted l) c.as_slice.ensures
    ∙ sym (spelled_step c.args.pieces.now c.loop-piece.piece-index c.piece-item.result c.loop-piece-test.true c.piece-item.is)
