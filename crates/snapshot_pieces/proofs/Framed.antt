-- Pieces between two markers.
use Rattle.std.proofs.Common.{◌≡◌, ℕ, zero, suc, ◌+◌, ◌-◌, ◌<◌, ◌≤◌, List, [], ◌∷◌, ◌++◌, length, take, drop, Option, Some, None, refl, sym, ap, subst, ◌∙◌, arith, zero-add, add-one, sub-one}
use Rattle.std.specs.Prelude.{slice_get, slice_range}
use Rattle.std.proofs.lemmas.List.{nil_from_length}

abbrev some : List ℕ → Option (List ℕ)
some x = Some x

some_is : (a b : List ℕ) → some a ≡ some b → a ≡ b
some_is a b e = cc

-- a list that ends with what stands at n is what stands before, and that
last_of : (b : List ℕ) (ps : List (List ℕ)) (n : ℕ) → slice_get ps n ≡ Some b → length ps ≤ suc n → ps ≡ take n ps ++ b ∷ []
last_of b [] n e h = absurd cc
last_of b (p ∷ ps) zero e h =
    let none : length ps ≡ 0 = omega arith in
    ap (λ r. p ∷ r) (nil_from_length ps none) ∙ ap (λ x. x ∷ []) (some_is p b e)
last_of b (p ∷ ps) (suc n) e h =
    let few : length ps ≤ suc n = omega arith in
    ap (λ r. p ∷ r) (last_of b ps n e few)

-- what stands between the first and the last
pub between_them : (a b : List ℕ) (ps : List (List ℕ)) (n : ℕ) → slice_get ps 0 ≡ Some a → slice_get ps (suc n) ≡ Some b → length ps ≤ suc (suc n) → ps ≡ a ∷ (take n (drop 1 ps) ++ b ∷ [])
between_them a b [] n first end h = absurd cc
between_them a b (p ∷ ps) n first end h =
    let few : length ps ≤ suc n = omega arith in
    ap (λ x. x ∷ ps) (some_is p a first) ∙ ap (λ r. a ∷ r) (last_of b ps n end few)

-- one piece between them
pub one_between : (a m b : List ℕ) (ps : List (List ℕ)) → slice_get ps 0 ≡ Some a → slice_get ps 1 ≡ Some m → slice_get ps 2 ≡ Some b → length ps ≤ 3 → ps ≡ a ∷ (m ∷ [] ++ b ∷ [])
one_between a m b [] first middle end h = absurd cc
one_between a m b (p ∷ []) first middle end h = absurd cc
one_between a m b (p ∷ q ∷ ps) first middle end h =
    let few : length ps ≤ 1 = omega arith in
    ap (λ x. x ∷ q ∷ ps) (some_is p a first) ∙ ap (λ x. a ∷ x ∷ ps) (some_is q m middle) ∙ ap (λ r. a ∷ m ∷ r) (last_of b ps 0 end few)

-- what stands from the second piece up to the one at n
pub between_range : (a b : List ℕ) (ps : List (List ℕ)) (n : ℕ) → slice_get ps 0 ≡ Some a → slice_get ps n ≡ Some b → length ps ≤ n + 1 → 0 < n → ps ≡ a ∷ (slice_range ps 1 n ++ b ∷ [])
between_range a b ps zero first end h lt = absurd (omega arith)
between_range a b ps (suc n) first end h lt =
    let e : n ≡ suc n - 1 = omega arith in
    let few : length ps ≤ suc (suc n) = omega arith in
    subst (λ k. ps ≡ a ∷ (take k (drop 1 ps) ++ b ∷ [])) e (between_them a b ps n first end few)
