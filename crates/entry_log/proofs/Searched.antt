-- What a search by halves finds in an index.
use Rattle.std.proofs.Common.{◌≡◌, ℕ, zero, suc, ◌<◌, ◌≤◌, true, false, List, [], ◌∷◌, length, take, get_or, refl, ap, subst, arith, ℤ, ◌≤ℤ◌}
use Rattle.std.specs.Prelude.{nat_le, int_le}
use Rattle.std.specs.List.{AllWithin}
use Rattle.std.specs.List.Sorted.{IsNonDecreasingBy, IsPartitionedBy}
use Rattle.std.proofs.lemmas.Int.{ints}
use Rattle.entry_log.specs.Log.{end_after}
use Rattle.entry_log.specs.Shape.{Shape, ends_by_from, terms_to, TermsRiseFrom}
use Rattle.entry_log.specs.declared.index.Stop.{Stop}
use Rattle.entry_log.specs.Index.{shape_at, EndsFrom}
use Rattle.entry_log.specs.PlaceLaws.{end_after-up}

-- P from the second element on is P of the rest
AllWithin-rest : {X : Type 0} (P : X → Type 0) (x : X) (xs : List X) (low high : ℕ) → AllWithin P (x ∷ xs) (suc low) (suc high) → AllWithin P xs low high
AllWithin-rest P x xs low high f = λ k d a b. f (suc k) d (omega (arith, a)) (omega (arith, b))

AllWithin-from_first : {X : Type 0} (P : X → Type 0) (x : X) (xs : List X) (high : ℕ) → AllWithin P (x ∷ xs) 0 (suc high) → AllWithin P xs 0 high
AllWithin-from_first P x xs high f = λ k d a b. f (suc k) d (omega arith) (omega (arith, b))

-- ends don't fall
end-low : (p : ℕ) (stops : List Stop) (j : ℕ) (d : Stop) → EndsFrom p stops → j < length stops → p ≤ (get_or stops j d).end
end-low p [] j d e h = absurd (omega (arith, h))
end-low p (s ∷ ss) zero d e h = let a = end_after-up p s.event_len in let b = e.0 in omega (arith, a, b)
end-low p (s ∷ ss) (suc j) d e h = let a = end_after-up p s.event_len in let b = e.0 in let c = end-low s.end ss j d e.1 (omega (arith, h)) in omega (arith, a, b, c)

ends_rise-cons : (s : Stop) (ss : List Stop) → ((j : ℕ) (d : Stop) → j < length ss → s.end ≤ (get_or ss j d).end) → IsNonDecreasingBy (λ (x : Stop). x.end) ss → (i j : ℕ) (d : Stop) → i ≤ j → j < length (s ∷ ss)
    → (get_or (s ∷ ss) i d).end ≤ (get_or (s ∷ ss) j d).end
ends_rise-cons s ss low rest zero zero d a b = omega arith
ends_rise-cons s ss low rest zero (suc j) d a b = low j d (omega (arith, b))
ends_rise-cons s ss low rest (suc i) zero d a b = absurd (omega (arith, a))
ends_rise-cons s ss low rest (suc i) (suc j) d a b = rest i j d (omega (arith, a)) (omega (arith, b))

pub ends_rise : (p : ℕ) (stops : List Stop) → EndsFrom p stops → IsNonDecreasingBy (λ (s : Stop). s.end) stops
ends_rise p [] e = λ i j d a b. absurd (omega (arith, b))
ends_rise p (s ∷ ss) e = λ i j d a b. ends_rise-cons s ss (λ k d' l. end-low s.end ss k d' e.1 l) (ends_rise s.end ss e.1) i j d a b

-- the point where ends pass a place counts the entries that end by it
pub ends_by-point : (p at : ℕ) (stops : List Stop) (i : ℕ) → EndsFrom p stops → i ≤ length stops → AllWithin (λ (s : Stop). nat_le s.end at ≡ true) stops 0 i → AllWithin (λ (s : Stop). nat_le s.end at ≡ false) stops i (length stops)
    → i ≡ ends_by_from p at (shape_at stops)
ends_by-point p at [] i e h lo hi = omega (arith, h)
ends_by-point p at (s ∷ ss) zero e h lo hi =
    let no : nat_le (end_after p s.event_len) at ≡ false = subst (λ q. nat_le q at ≡ false) e.0 (hi 0 s (omega arith) (omega arith)) in
    rw no refl
ends_by-point p at (s ∷ ss) (suc i) e h lo hi =
    let yes : nat_le (end_after p s.event_len) at ≡ true = subst (λ q. nat_le q at ≡ true) e.0 (lo 0 s (omega arith) (omega arith)) in
    let rest = ends_by-point s.end at ss i e.1 (omega (arith, h)) (AllWithin-from_first (λ (x : Stop). nat_le x.end at ≡ true) s ss i lo) (AllWithin-rest (λ (x : Stop). nat_le x.end at ≡ false) s ss i (length ss) hi) in
    let rest' : i ≡ ends_by_from (end_after p s.event_len) at (shape_at ss) = subst (λ q. i ≡ ends_by_from q at (shape_at ss)) e.0 rest in
    rw yes (omega (arith, rest'))

-- terms don't fall
term-low : (t : ℤ) (stops : List Stop) (j : ℕ) (d : Stop) → TermsRiseFrom t (shape_at stops) → j < length stops → t ≤ℤ (get_or stops j d).term
term-low t [] j d r h = absurd (omega (arith, h))
term-low t (s ∷ ss) zero d r h = r.0
term-low t (s ∷ ss) (suc j) d r h = let a = r.0 in let b = term-low s.term ss j d r.1 (omega (arith, h)) in omega (arith, ints, a, b)

le_by : (u a b : ℤ) → a ≤ℤ b → int_le b u ≡ true → int_le a u ≡ true
le_by u a b h e = grind (arith, ints, h, e)

terms_part-cons : (u : ℤ) (s : Stop) (ss : List Stop) → ((j : ℕ) (d : Stop) → j < length ss → s.term ≤ℤ (get_or ss j d).term) → IsPartitionedBy (λ (x : Stop). int_le x.term u) ss → (i j : ℕ) (d : Stop) → i ≤ j → j < length (s ∷ ss)
    → int_le (get_or (s ∷ ss) j d).term u ≡ true → int_le (get_or (s ∷ ss) i d).term u ≡ true
terms_part-cons u s ss low rest zero zero d a b e = e
terms_part-cons u s ss low rest zero (suc j) d a b e = le_by u s.term (get_or ss j d).term (low j d (omega (arith, b))) e
terms_part-cons u s ss low rest (suc i) zero d a b e = absurd (omega (arith, a))
terms_part-cons u s ss low rest (suc i) (suc j) d a b e = rest i j d (omega (arith, a)) (omega (arith, b)) e

pub terms_part : (u t : ℤ) (stops : List Stop) → TermsRiseFrom t (shape_at stops) → IsPartitionedBy (λ (s : Stop). int_le s.term u) stops
terms_part u t [] r = λ i j d a b. absurd (omega (arith, b))
terms_part u t (s ∷ ss) r = λ i j d a b e. terms_part-cons u s ss (λ k d' l. term-low s.term ss k d' r.1 l) (terms_part u s.term ss r.1) i j d a b e

-- the point where terms pass u ends the longest prefix whose terms are at most u
pub terms_to-point : (u : ℤ) (stops : List Stop) (i : ℕ) → i ≤ length stops → AllWithin (λ (s : Stop). int_le s.term u ≡ true) stops 0 i → AllWithin (λ (s : Stop). int_le s.term u ≡ false) stops i (length stops)
    → terms_to u (shape_at stops) ≡ take i (shape_at stops)
terms_to-point u [] zero h lo hi = refl
terms_to-point u [] (suc i) h lo hi = refl
terms_to-point u (s ∷ ss) zero h lo hi = rw (hi 0 s (omega arith) (omega arith)) refl
terms_to-point u (s ∷ ss) (suc i) h lo hi =
    rw (lo 0 s (omega arith) (omega arith))
    (ap (λ (xs : Shape). record { term = s.term; len = s.event_len } ∷ xs)
    (terms_to-point u ss i (omega (arith, h)) (AllWithin-from_first (λ (x : Stop). int_le x.term u ≡ true) s ss i lo) (AllWithin-rest (λ (x : Stop). int_le x.term u ≡ false) s ss i (length ss) hi)))
