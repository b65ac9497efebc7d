-- The answer to a Canvass.
use Rattle.std.proofs.Common.{◌≡◌, ◌⊎◌, inl, inr, Bool, true, false, [], ◌∷◌, refl, sym, ap, ◌∙◌, subst, arith, ℤ, negsuc, ◌≤ℤ◌, ◌<ℤ◌, if◌then◌else◌}
use Rattle.std.specs.Prelude.{int_le, ◌||◌}
use Rattle.std.proofs.lemmas.Int.{ints}
use Rattle.cl_base.specs.declared.entry.Entry.{Entry}
use Rattle.entry_log.specs.Log.{Log, same_term}
use Rattle.entry_log.specs.Shape.{Shape, entry_shape, shape_of, end_of, last_term_from, last_term_of, terms_to, has_term, up_to_last_of, end_of_term, TermsRiseFrom, end_from-shape_of, last_term_from-shape_of}
use Rattle.entry_log.specs.TermLaws.{or_right, or_left, or_false, same, differ, has_term-below, last_term-low, last_term-high, up_to_last_of-none, terms_to-none}
use Rattle.log_replication.specs.Replication.{IsAnswer, upto, answer_term, answer_end}

cons_if : (b : Bool) (x : Entry) (l : Log) (m : Shape) → shape_of l ≡ m → shape_of (if b then x ∷ l else []) ≡ (if b then entry_shape x ∷ m else [])
cons_if true x l m e = ap (λ (s : Shape). entry_shape x ∷ s) e
cons_if false x l m e = refl

-- the shape of what has terms up to u
pub shape_of-upto : (u : ℤ) (log : Log) → shape_of (upto u log) ≡ terms_to u (shape_of log)
shape_of-upto u [] = refl
shape_of-upto u (x ∷ xs) = cons_if (int_le x.term u) x (upto u xs) (terms_to u (shape_of xs)) (shape_of-upto u xs)

pub answer_term-shape : (f : ℤ) (log : Log) (xs : Shape) → shape_of log ≡ xs → last_term_of (terms_to f xs) ≡ answer_term log f
answer_term-shape f log xs e =
    ap (λ (s : Shape). last_term_of (terms_to f s)) (sym e) ∙ ap last_term_of (sym (shape_of-upto f log)) ∙ last_term_from-shape_of (negsuc 0) (upto f log)

pub answer_end-shape : (f : ℤ) (log : Log) (xs : Shape) → shape_of log ≡ xs → end_of (terms_to f xs) ≡ answer_end log f
answer_end-shape f log xs e =
    ap (λ (s : Shape). end_of (terms_to f s)) (sym e) ∙ ap end_of (sym (shape_of-upto f log)) ∙ end_from-shape_of 0 (upto f log)

-- the last of the terms up to f is in the log, or the one before it
has_term-last : (f t : ℤ) (xs : Shape) → (same_term t (last_term_from t (terms_to f xs)) || has_term (last_term_from t (terms_to f xs)) xs) ≡ true
has_term-last f t [] = or_left (same_term t t) false (same t t refl)
has_term-last f t (x ∷ xs) = at (int_le x.term f) refl (has_term-last f x.term xs)
  where
    at : (b : Bool) → int_le x.term f ≡ b → (same_term x.term (last_term_from x.term (terms_to f xs)) || has_term (last_term_from x.term (terms_to f xs)) xs) ≡ true
        → (same_term t (last_term_from t (terms_to f (x ∷ xs))) || has_term (last_term_from t (terms_to f (x ∷ xs))) (x ∷ xs)) ≡ true
    at true h more =
        let go : terms_to f (x ∷ xs) ≡ x ∷ terms_to f xs = ap (λ b. if b then x ∷ terms_to f xs else []) h in
        let l = last_term_from x.term (terms_to f xs) in
        subst (λ (s : Shape). (same_term t (last_term_from t s) || has_term (last_term_from t s) (x ∷ xs)) ≡ true) (sym go) (or_right (same_term t l) (has_term l (x ∷ xs)) more)
    at false h more =
        subst (λ (s : Shape). (same_term t (last_term_from t s) || has_term (last_term_from t s) (x ∷ xs)) ≡ true) (sym (terms_to-none f x xs h)) (or_left (same_term t t) (has_term t (x ∷ xs)) (same t t refl))

-- up to the last entry of that term stands what has terms up to f
up_to_last_of-last : (f t : ℤ) (xs : Shape) → TermsRiseFrom t xs → t ≤ℤ f → up_to_last_of (last_term_from t (terms_to f xs)) xs ≡ terms_to f xs
up_to_last_of-last f t [] r h = refl
up_to_last_of-last f t (x ∷ xs) r h = at (int_le x.term f) refl (up_to_last_of-last f x.term xs r.1)
  where
    at : (b : Bool) → int_le x.term f ≡ b → (x.term ≤ℤ f → up_to_last_of (last_term_from x.term (terms_to f xs)) xs ≡ terms_to f xs)
        → up_to_last_of (last_term_from t (terms_to f (x ∷ xs))) (x ∷ xs) ≡ terms_to f (x ∷ xs)
    at true e more =
        let go : terms_to f (x ∷ xs) ≡ x ∷ terms_to f xs = ap (λ b. if b then x ∷ terms_to f xs else []) e in
        let l = last_term_from x.term (terms_to f xs) in
        let step : up_to_last_of l (x ∷ xs) ≡ x ∷ terms_to f xs =
        ap (λ b. if b then x ∷ up_to_last_of l xs else []) (has_term-last f x.term xs) ∙ ap (λ (s : Shape). x ∷ s) (more (grind (arith, ints, e))) in
        subst (λ (s : Shape). up_to_last_of (last_term_from t s) (x ∷ xs) ≡ s) (sym go) step
    at false e more =
        let high : t <ℤ x.term = grind (arith, ints, e, h) in
        let none : has_term t (x ∷ xs) ≡ false = or_false (same_term x.term t) (has_term t xs) (differ x.term t high) (has_term-below t x.term xs r.1 high) in
        subst (λ (s : Shape). up_to_last_of (last_term_from t s) (x ∷ xs) ≡ s) (sym (terms_to-none f x xs e)) (up_to_last_of-none t (x ∷ xs) none)

-- no term at most f is above it
greatest : (f t u : ℤ) (xs : Shape) → TermsRiseFrom t xs → has_term u xs ≡ true → u ≤ℤ f → u ≤ℤ last_term_from t (terms_to f xs)
greatest f t u [] r e h = absurd (cc)
greatest f t u (x ∷ xs) r e h = at (int_le x.term f) refl (greatest f x.term u xs r.1)
  where
    deeper : (b : Bool) → has_term u xs ≡ b → (has_term u xs ≡ true → u ≤ℤ f → u ≤ℤ last_term_from x.term (terms_to f xs)) → u ≤ℤ last_term_from x.term (terms_to f xs)
    deeper true i more = more i h
    deeper false i more =
        let s : (same_term x.term u || false) ≡ true = rw i at e in
        let low = last_term-low f x.term xs r.1 in
        grind (arith, ints, s, low)

    at : (b : Bool) → int_le x.term f ≡ b → (has_term u xs ≡ true → u ≤ℤ f → u ≤ℤ last_term_from x.term (terms_to f xs)) → u ≤ℤ last_term_from t (terms_to f (x ∷ xs))
    at true i more =
        let go : terms_to f (x ∷ xs) ≡ x ∷ terms_to f xs = ap (λ b. if b then x ∷ terms_to f xs else []) i in
        subst (λ (s : Shape). u ≤ℤ last_term_from t s) (sym go) (deeper (has_term u xs) refl more)
    at false i more =
        let high : u <ℤ x.term = grind (arith, ints, i, h) in
        let none : (same_term x.term u || has_term u xs) ≡ false = or_false (same_term x.term u) (has_term u xs) (differ x.term u high) (has_term-below u x.term xs r.1 high) in
        absurd (cc)

-- what has terms up to f gives the answer
pub is_answer : (f : ℤ) (xs : Shape) → TermsRiseFrom (negsuc 0) xs → IsAnswer xs f (last_term_of (terms_to f xs)) (end_of (terms_to f xs))
is_answer f [] r = record { there = inr (refl, refl); greatest = λ t e h. greatest f (negsuc 0) t [] r e h }
is_answer f (x ∷ xs) r = record { there = at (int_le x.term f) refl; greatest = λ t e h. greatest f (negsuc 0) t (x ∷ xs) r e h }
  where
    at : (b : Bool) → int_le x.term f ≡ b
        → ((has_term (last_term_of (terms_to f (x ∷ xs))) (x ∷ xs) ≡ true) × (last_term_of (terms_to f (x ∷ xs)) ≤ℤ f) × (end_of (terms_to f (x ∷ xs)) ≡ end_of_term (last_term_of (terms_to f (x ∷ xs))) (x ∷ xs)))
        ⊎ ((last_term_of (terms_to f (x ∷ xs)) ≡ negsuc 0) × (end_of (terms_to f (x ∷ xs)) ≡ 0))
    at true e =
        let go : terms_to f (x ∷ xs) ≡ x ∷ terms_to f xs = ap (λ b. if b then x ∷ terms_to f xs else []) e in
        let upto_f : x.term ≤ℤ f = grind (arith, ints, e) in
        let below = r.0 in
        let l : negsuc 0 ≤ℤ f = omega (arith, ints, upto_f, below) in
        inl (
          subst (λ (s : Shape). has_term (last_term_of s) (x ∷ xs) ≡ true) (sym go) (has_term-last f x.term xs),
          last_term-high f (negsuc 0) (x ∷ xs) l,
          ap end_of (sym (up_to_last_of-last f (negsuc 0) (x ∷ xs) r l)),
        )
    at false e = inr (ap last_term_of (terms_to-none f x xs e), ap end_of (terms_to-none f x xs e))
