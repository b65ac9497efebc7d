-- The part of a list between two points is what stands at an index.
use Rattle.std.proofs.Common.{◌≡◌, ℕ, zero, suc, ◌≤◌, ◌==◌, Bool, true, false, ltb, leb, List, [], ◌∷◌, length, take, drop, refl, ap, sym, ◌∙◌, arith}
use Rattle.std.specs.Prelude.{filter}
use Rattle.std.specs.List.{AllWithin}
use Rattle.std.proofs.lemmas.Bool.Decides.{nat_tests}

module _ {A : Type 0} where
  abbrev at : ℕ → ℕ × A → Bool
  at i o = o.0 == i

  abbrev before : ℕ → ℕ × A → Bool
  before i o = ltb o.0 i

  abbrev through : ℕ → ℕ × A → Bool
  through i o = leb o.0 i

  tail_within : (P : ℕ × A → Type 0) (x : ℕ × A) (xs : List (ℕ × A)) (n : ℕ) → AllWithin P (x ∷ xs) 0 (suc n) → AllWithin P xs 0 n
  tail_within P x xs n h = λ k d low high. h (suc k) d (omega arith) (omega arith)

  not_before : (i : ℕ) (o : ℕ × A) → before i o ≡ false → through i o ≡ true → at i o ≡ true
  not_before i o h k = grind (arith, nat_tests)

  not_at : (i : ℕ) (o : ℕ × A) → through i o ≡ false → at i o ≡ false
  not_at i o h = grind (arith, nat_tests)

  not_yet : (i : ℕ) (o : ℕ × A) → before i o ≡ true → at i o ≡ false
  not_yet i o h = grind (arith, nat_tests)

  one_in : (p : ℕ × A → Bool) (x : ℕ × A) (xs : List (ℕ × A)) → p x ≡ true → filter p (x ∷ xs) ≡ x ∷ filter p xs
  one_in p x xs h = simp h

  one_out : (p : ℕ × A → Bool) (x : ℕ × A) (xs : List (ℕ × A)) → p x ≡ false → filter p (x ∷ xs) ≡ filter p xs
  one_out p x xs h = simp h

  past : (i : ℕ) (ys : List (ℕ × A)) → AllWithin (λ o. through i o ≡ false) ys 0 (length ys) → filter (at i) ys ≡ []
  past i [] h = refl
  past i (y ∷ ys) h = one_out (at i) y ys (not_at i y (h 0 y (omega arith) (omega arith))) ∙ past i ys (tail_within (λ o. through i o ≡ false) y ys (length ys) h)

  from_here : (i : ℕ) (ys : List (ℕ × A)) (count : ℕ) → count ≤ length ys → AllWithin (λ o. before i o ≡ false) ys 0 (length ys) → AllWithin (λ o. through i o ≡ true) ys 0 count → AllWithin (λ o. through i o ≡ false) ys count (length ys)
      → take count ys ≡ filter (at i) ys
  from_here i ys zero few b t f = sym (past i ys f)
  from_here i [] (suc n) few b t f = absurd (omega arith)
  from_here i (y ∷ ys) (suc n) few b t f =
      let here = not_before i y (b 0 y (omega arith) (omega arith)) (t 0 y (omega arith) (omega arith)) in
      let rest = from_here i ys n (omega arith) (tail_within (λ o. before i o ≡ false) y ys (length ys) b) (tail_within (λ o. through i o ≡ true) y ys n t) (λ k d low high. f (suc k) d (omega arith) (omega arith)) in
      ap (λ l. y ∷ l) rest ∙ sym (one_in (at i) y ys here)

  -- what stands from the first that isn't before the index, up to the first that is past it
  pub at_points : (i : ℕ) (os : List (ℕ × A)) (first count : ℕ) → first ≤ length os → count ≤ length (drop first os)
      → AllWithin (λ o. ltb o.0 i ≡ true) os 0 first → AllWithin (λ o. ltb o.0 i ≡ false) os first (length os)
      → AllWithin (λ o. leb o.0 i ≡ true) (drop first os) 0 count → AllWithin (λ o. leb o.0 i ≡ false) (drop first os) count (length (drop first os))
      → take count (drop first os) ≡ filter (λ o. o.0 == i) os
  at_points i os zero count low high b n t f = from_here i os count high n t f
  at_points i [] (suc k) count low high b n t f = absurd (omega arith)
  at_points i (x ∷ xs) (suc k) count low high b n t f =
      at_points i xs k count (omega arith) high (tail_within (λ o. before i o ≡ true) x xs k b) (λ j d lo hi. n (suc j) d (omega arith) (omega arith)) t f
      ∙ sym (one_out (at i) x xs (not_yet i x (b 0 x (omega arith) (omega arith))))
