-- What the file of a snapshot has.
use Rattle.std.specs.Prelude.{◌≡◌, ◌⊎◌, ℕ, ◌+◌, ◌<◌, ◌≤◌, ◌^◌, Some, None, List, [], ◌∷◌, ◌++◌, length, take, drop, ⊤}
use Rattle.wire_prims.specs.Fields.{u32_at}
use Rattle.wire_prims.specs.Strict.{counted}
use Rattle.wire_prims.specs.declared.fault.Bad.{Bad}
use Rattle.sbe_local.specs.Pieces.{first_fault_piece}

-- each piece, with its length before it
abbrev pub spelled : List (List ℕ) → List ℕ
spelled [] = []
spelled (p ∷ ps) = counted p ++ spelled ps

-- a piece of a snapshot, of fewer than 2^32 bytes
abbrev pub IsPiece : List ℕ → Type 0
IsPiece p = (first_fault_piece p ≡ None) × (length p < 2 ^ 32)

abbrev pub ArePieces : List (List ℕ) → Type 0
ArePieces [] = ⊤
ArePieces (p ∷ ps) = IsPiece p × ArePieces ps

-- What begins at a place of the file is no piece, and it is first wrong at another place: the file's end where the length
-- or the piece isn't all there, else the piece's first fault.
abbrev pub IsWrongPiece : ℕ → List ℕ → ℕ → Type 0
IsWrongPiece at file place =
    ((length file < at + 4) × (place ≡ length file))
    ⊎ (((at + 4 ≤ length file) × (length file < at + 4 + u32_at at file) × (place ≡ length file))
    ⊎ ((at + 4 + u32_at at file ≤ length file) × ((b : Bad) × (first_fault_piece (take (u32_at at file) (drop (at + 4) file)) ≡ Some b) × (place ≡ at + 4 + b.place))))

-- the file has these pieces, and then what isn't a piece
pub record IsWrongAt (file : List ℕ) (place : ℕ) : Type 0 where
  pub pieces : List (List ℕ)
  pub strict : ArePieces pieces
  pub front : take (length (spelled pieces)) file ≡ spelled pieces
  pub rest : length (spelled pieces) < length file
  pub wrong : IsWrongPiece (length (spelled pieces)) file place
