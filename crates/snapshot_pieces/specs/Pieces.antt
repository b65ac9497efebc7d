-- The pieces of a snapshot's file.
use Rattle.std.specs.Prelude.{ℕ, ◌≤◌, ◌^◌, pos, negsuc, ◌≤ℤ◌, List, [], ◌∷◌, ◌++◌}
use Rattle.sbe_local.specs.declared.piece.Mark.{Mark}
use Rattle.sbe_local.specs.declared.piece.Mark.TheVariants.{Begin, End}
use Rattle.sbe_local.specs.declared.piece.Piece.TheVariants as pieces
use Rattle.sbe_local.specs.Pieces.{piece_spelling_of}
use Rattle.snapshot_pieces.specs.declared.origin.Origin.{Origin}

-- the numbers of an origin are in their ranges
pub record IsOrigin (o : Origin) : Type 0 where
  pub low : negsuc 0 ≤ℤ o.service
  pub high : o.service ≤ℤ pos 2
  pub position : o.position ≤ 2 ^ 62
  pub term_low : pos 0 ≤ℤ o.term
  pub term_high : o.term ≤ℤ pos (2 ^ 62)

-- the marker at one end of a snapshot
abbrev pub marker_of : Origin → Mark → List ℕ
marker_of o m = piece_spelling_of (pieces.Marker o.service (pos o.position) o.term m)

-- these pieces between the two markers
abbrev pub between : Origin → List (List ℕ) → List (List ℕ)
between o ps = marker_of o Begin ∷ (ps ++ marker_of o End ∷ [])

-- the pieces of a service's snapshot, with its records
abbrev pub service_pieces_of : Origin → List ℕ → List (List ℕ)
service_pieces_of o records = between o (piece_spelling_of (pieces.ServiceState records) ∷ [])
