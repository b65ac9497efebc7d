-- What was written is read again.
use Rattle.std.proofs.Common.{◌≡◌, ◌⊎◌, ℕ, ◌^◌, ◌<◌, ◌≤◌, List, [], ◌∷◌, ◌++◌, length, Option, Some, refl, sym, ap, ◌∙◌, arith}
use Rattle.std.specs.Prelude.{Result, Ok, Err, slice_get}
use Rattle.wire_prims.specs.declared.fault.DecodeFault.{DecodeFault}
use Rattle.wire_prims.specs.declared.fault.DecodeFault.TheVariants as faults
use Rattle.sbe_local.specs.Pieces.{HasPieceSpelling, piece_spelling_of}
use Rattle.sbe_local.specs.declared.piece.Mark.TheVariants.{Begin, End}
use Rattle.sbe_local.specs.declared.piece.Piece.{Piece}
use Rattle.sbe_local.specs.declared.piece.Piece.TheVariants.{ServiceState}
use Rattle.snapshot_pieces.specs.declared.origin.Origin.{Origin}
use Rattle.snapshot_pieces.specs.Pieces.{marker_of, service_pieces_of}

abbrev some : List ℕ → Option (List ℕ)
some x = Some x

some_is : (a b : List ℕ) → some a ≡ some b → a ≡ b
some_is a b e = cc

-- ---- the pieces of a service, by number

pub first_is : (o : Origin) (r : List ℕ) (ps : List (List ℕ)) → ps ≡ service_pieces_of o r → slice_get ps 0 ≡ some (marker_of o Begin)
first_is o r ps is = ap (λ (l : List (List ℕ)). slice_get l 0) is

pub second_is : (o : Origin) (r : List ℕ) (ps : List (List ℕ)) → ps ≡ service_pieces_of o r → slice_get ps 1 ≡ some (piece_spelling_of (ServiceState r))
second_is o r ps is = ap (λ (l : List (List ℕ)). slice_get l 1) is

pub third_is : (o : Origin) (r : List ℕ) (ps : List (List ℕ)) → ps ≡ service_pieces_of o r → slice_get ps 2 ≡ some (marker_of o End)
third_is o r ps is = ap (λ (l : List (List ℕ)). slice_get l 2) is

pub three_are : (o : Origin) (r : List ℕ) (ps : List (List ℕ)) → ps ≡ service_pieces_of o r → length ps ≤ 3
three_are o r ps is = let e : length ps ≡ 3 = ap (λ (l : List (List ℕ)). length l) is in omega arith

-- ---- a piece that is read

abbrev Only : Result Piece DecodeFault → List ℕ → Type 0
Only r x = (p : Piece) → HasPieceSpelling p → piece_spelling_of p ≡ x → (r ≡ Ok p) ⊎ (r ≡ Err faults.NoMemory)

pub state_read : (ps : List (List ℕ)) (x b : List ℕ) (r : Result Piece DecodeFault) → some x ≡ slice_get ps 1 → Only r x → length b < 2 ^ 31 → slice_get ps 1 ≡ some (piece_spelling_of (ServiceState b))
    → (r ≡ Ok (ServiceState b)) ⊎ (r ≡ Err faults.NoMemory)
state_read ps x b r at only short is =
    let same : piece_spelling_of (ServiceState b) ≡ x = sym (some_is x (piece_spelling_of (ServiceState b)) (at ∙ is)) in
    only (ServiceState b) (omega arith) same

-- ---- pieces between the same markers are the same

pub between_same : (a b : List ℕ) (xs ys : List (List ℕ)) → a ∷ (xs ++ b ∷ []) ≡ a ∷ (ys ++ b ∷ []) → xs ≡ ys
between_same a b xs ys e = fronts b xs ys (tails a (xs ++ b ∷ []) (ys ++ b ∷ []) e) where
  tails : (a : List ℕ) (us vs : List (List ℕ)) → a ∷ us ≡ a ∷ vs → us ≡ vs
  tails a us vs e = cc

  fronts : (b : List ℕ) (xs ys : List (List ℕ)) → xs ++ b ∷ [] ≡ ys ++ b ∷ [] → xs ≡ ys
  fronts b [] [] e = refl
  fronts b [] (y ∷ []) e = absurd (cc)
  fronts b [] (y ∷ (z ∷ ys)) e = absurd (cc)
  fronts b (x ∷ []) [] e = absurd (cc)
  fronts b (x ∷ (z ∷ xs)) [] e = absurd (cc)
  fronts b (x ∷ xs) (y ∷ ys) e =
      let head : x ≡ y = cc in
      let tail : xs ++ b ∷ [] ≡ ys ++ b ∷ [] = cc in
      (λ i. head i ∷ fronts b xs ys tail i)
