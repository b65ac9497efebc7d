-- The last entry of a term, in a log whose terms don't fall.
use Rattle.std.proofs.Common.{◌≡◌, ◌≢◌, Bool, true, false, [], ◌∷◌, refl, sym, ap, ◌∙◌, arith, ℤ, negsuc, ◌≤ℤ◌, ◌<ℤ◌, if◌then◌else◌}
use Rattle.std.specs.Prelude.{int_le, ◌||◌, ◌&&◌}
use Rattle.std.proofs.lemmas.Int.{ints}
use Rattle.entry_log.specs.Log.{same_term}
use Rattle.entry_log.specs.Shape.{EntryShape, Shape, end_of, last_term_from, terms_to, has_term, up_to_last_of, end_of_term, TermsRiseFrom}

pub choice : {X : Type 0} (P : X → Type 0) (b : Bool) (x y : X) → (b ≡ true → P x) → (b ≡ false → P y) → P (if b then x else y)
choice P true x y f g = f refl
choice P false x y f g = g refl

pub or_right : (a b : Bool) → b ≡ true → (a || b) ≡ true
or_right true b e = refl
or_right false b e = e

pub or_left : (a b : Bool) → a ≡ true → (a || b) ≡ true
or_left a b e = ap (λ z. z || b) e

pub or_false : (a b : Bool) → a ≡ false → b ≡ false → (a || b) ≡ false
or_false a b e f = ap (λ z. z || b) e ∙ f

pub same : (a b : ℤ) → a ≡ b → same_term a b ≡ true
same a b e = let l : int_le a b ≡ true = grind (arith, ints, e) in let r : int_le b a ≡ true = grind (arith, ints, e) in ap (λ z. z && int_le b a) l ∙ r

pub differ : (a b : ℤ) → b <ℤ a → same_term a b ≡ false
differ a b h = let l : int_le a b ≡ false = grind (arith, ints, h) in ap (λ z. z && int_le b a) l

-- a term that is below a log's isn't in it
pub has_term-below : (u t : ℤ) (xs : Shape) → TermsRiseFrom t xs → u <ℤ t → has_term u xs ≡ false
has_term-below u t [] r h = refl
has_term-below u t (x ∷ xs) r h =
    let a = r.0 in
    let low : u <ℤ x.term = omega (arith, ints, a, h) in
    or_false (same_term x.term u) (has_term u xs) (differ x.term u low) (has_term-below u x.term xs r.1 low)

-- where the terms up to u end in u, u is there
has_term-last : (u t : ℤ) (xs : Shape) → last_term_from t (terms_to u xs) ≡ u → (same_term t u || has_term u xs) ≡ true
has_term-last u t [] e = or_left (same_term t u) false (same t u e)
has_term-last u t (x ∷ xs) e = at (int_le x.term u) refl (has_term-last u x.term xs)
  where
    at : (b : Bool) → int_le x.term u ≡ b → (last_term_from x.term (terms_to u xs) ≡ u → (same_term x.term u || has_term u xs) ≡ true) → (same_term t u || has_term u (x ∷ xs)) ≡ true
    at true h more = or_right (same_term t u) (has_term u (x ∷ xs)) (more (rw h at e))
    at false h more = or_left (same_term t u) (has_term u (x ∷ xs)) (same t u (rw h at e))

pub up_to_last_of-none : (u : ℤ) (xs : Shape) → has_term u xs ≡ false → up_to_last_of u xs ≡ []
up_to_last_of-none u [] e = refl
up_to_last_of-none u (x ∷ xs) e = rw e refl

pub terms_to-none : (u : ℤ) (x : EntryShape) (xs : Shape) → int_le x.term u ≡ false → terms_to u (x ∷ xs) ≡ []
terms_to-none u x xs e = rw e refl

-- and then all up to its last entry is what has terms up to u
pub up_to_last_of-terms_to : (u t : ℤ) (xs : Shape) → TermsRiseFrom t xs → last_term_from t (terms_to u xs) ≡ u → up_to_last_of u xs ≡ terms_to u xs
up_to_last_of-terms_to u t [] r e = refl
up_to_last_of-terms_to u t (x ∷ xs) r e = at (int_le x.term u) refl (up_to_last_of-terms_to u x.term xs r.1)
  where
    at : (b : Bool) → int_le x.term u ≡ b → (last_term_from x.term (terms_to u xs) ≡ u → up_to_last_of u xs ≡ terms_to u xs) → up_to_last_of u (x ∷ xs) ≡ terms_to u (x ∷ xs)
    at true h more =
        let e' : last_term_from x.term (terms_to u xs) ≡ u = rw h at e in
        ap (λ b. if b then x ∷ up_to_last_of u xs else []) (has_term-last u x.term xs e') ∙ ap (λ (l : Shape). x ∷ l) (more e') ∙ sym (ap (λ b. if b then x ∷ terms_to u xs else []) h)
    at false h more =
        let high : u <ℤ x.term = grind (arith, ints, h) in
        let none : (same_term x.term u || has_term u xs) ≡ false = or_false (same_term x.term u) (has_term u xs) (differ x.term u high) (has_term-below u x.term xs r.1 high) in
        up_to_last_of-none u (x ∷ xs) none ∙ sym (terms_to-none u x xs h)

pub last_term-low : (u t : ℤ) (xs : Shape) → TermsRiseFrom t xs → t ≤ℤ last_term_from t (terms_to u xs)
last_term-low u t [] r = omega (arith, ints)
last_term-low u t (x ∷ xs) r = choice (λ (l : Shape). t ≤ℤ last_term_from t l) (int_le x.term u) (x ∷ terms_to u xs) [] (λ h. let a = r.0 in let b = last_term-low u x.term xs r.1 in omega (arith, ints, a, b)) (λ h. omega (arith, ints))

pub last_term-high : (u t : ℤ) (xs : Shape) → t ≤ℤ u → last_term_from t (terms_to u xs) ≤ℤ u
last_term-high u t [] h = h
last_term-high u t (x ∷ xs) h = choice (λ (l : Shape). last_term_from t l ≤ℤ u) (int_le x.term u) (x ∷ terms_to u xs) [] (λ e. last_term-high u x.term xs (grind (arith, ints, e))) (λ e. h)

-- where u is there, the terms up to u end in it
pub last_term-has : (u t : ℤ) (xs : Shape) → TermsRiseFrom t xs → has_term u xs ≡ true → last_term_from t (terms_to u xs) ≡ u
last_term-has u t [] r e = absurd (cc)
last_term-has u t (x ∷ xs) r e = at (int_le x.term u) refl (last_term-has u x.term xs r.1)
  where
    deeper : (b : Bool) → has_term u xs ≡ b → int_le x.term u ≡ true → (has_term u xs ≡ true → last_term_from x.term (terms_to u xs) ≡ u) → last_term_from x.term (terms_to u xs) ≡ u
    deeper true f h more = more f
    deeper false f h more =
        let s : (same_term x.term u || false) ≡ true = rw f at e in
        let upto : x.term ≤ℤ u = grind (arith, ints, h) in
        let low = last_term-low u x.term xs r.1 in
        let high = last_term-high u x.term xs upto in
        grind (arith, ints, s, low, high)

    at : (b : Bool) → int_le x.term u ≡ b → (has_term u xs ≡ true → last_term_from x.term (terms_to u xs) ≡ u) → last_term_from t (terms_to u (x ∷ xs)) ≡ u
    at true h more = rw h (deeper (has_term u xs) refl h more)
    at false h more =
        let high : u <ℤ x.term = grind (arith, ints, h) in
        let none : (same_term x.term u || has_term u xs) ≡ false = or_false (same_term x.term u) (has_term u xs) (differ x.term u high) (has_term-below u x.term xs r.1 high) in
        absurd (cc)

-- where the terms up to u don't end in u, no entry is of u
pub end_of_term-none : (u : ℤ) (xs : Shape) → TermsRiseFrom (negsuc 0) xs → last_term_from (negsuc 0) (terms_to u xs) ≢ u → end_of_term u xs ≡ 0
end_of_term-none u xs r other = at (has_term u xs) refl
  where
    at : (b : Bool) → has_term u xs ≡ b → end_of_term u xs ≡ 0
    at true e = absurd (other (last_term-has u (negsuc 0) xs r e))
    at false e = ap end_of (up_to_last_of-none u xs e)
