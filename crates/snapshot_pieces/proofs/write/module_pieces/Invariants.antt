use Rattle.std.proofs.Common.{◌≡◌, ◌∷◌, ◌++◌}
use Rattle.sbe_local.specs.declared.piece.Mark.TheVariants.{Begin}
use Rattle.snapshot_pieces.specs.Pieces.{marker_of}
use Rattle.snapshot_pieces.proofs.write.module_pieces.Given as goal

abbrev pub invariant-loop-piece : goal.invariant-loop-piece
invariant-loop-piece l = l.pieces ≡ marker_of l.origin Begin ∷ l.yielded
