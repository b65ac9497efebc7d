-- What a follower keeps.
use Rattle.std.proofs.Common.{◌≡◌, ℕ, zero, suc, ◌+◌, ◌≤◌, min, Bool, true, false, ◌&&◌, [], ◌∷◌, length, take, refl, sym, ap, ◌∙◌, subst, arith, ℤ, negsuc, if◌then◌else◌}
use Rattle.std.specs.Prelude.{int_le, nat_le}
use Rattle.std.proofs.lemmas.Int.{ints}
use Rattle.std.proofs.lemmas.Bool.Decides.{nat_tests}
use Rattle.std.proofs.lemmas.List.{take-take, take-map}
use Rattle.entry_log.specs.Log.{Log, end_after, last}
use Rattle.entry_log.specs.Shape.{Shape, entry_shape, shape_of, end_from, ends_by_from, ends_by, last_term_of, terms_to, last_term_from-shape_of}
use Rattle.entry_log.specs.PlaceLaws.{end_from-up}
use Rattle.entry_log.specs.TermLaws.{choice}
use Rattle.log_replication.specs.Replication.{TermsWithin, IsKept, kept_from}

TermsWithin-terms_to : (u : ℤ) (xs : Shape) → TermsWithin u (terms_to u xs)
TermsWithin-terms_to u [] = tt
TermsWithin-terms_to u (x ∷ xs) = choice (TermsWithin u) (int_le x.term u) (x ∷ terms_to u xs) [] (λ h. (grind (arith, ints, h), TermsWithin-terms_to u xs)) (λ h. tt)

TermsWithin-take : (u : ℤ) (n : ℕ) (xs : Shape) → TermsWithin u xs → TermsWithin u (take n xs)
TermsWithin-take u zero [] w = tt
TermsWithin-take u (suc n) [] w = tt
TermsWithin-take u zero (x ∷ xs) w = tt
TermsWithin-take u (suc n) (x ∷ xs) w = (w.0, TermsWithin-take u n xs w.1)

-- a prefix whose terms are at most u is no longer than the longest
terms-longest : (u : ℤ) (m : ℕ) (xs : Shape) → m ≤ length xs → TermsWithin u (take m xs) → m ≤ length (terms_to u xs)
terms-longest u zero xs h w = omega arith
terms-longest u (suc m) [] h w = absurd (omega (arith, h))
terms-longest u (suc m) (x ∷ xs) h w =
    choice (λ (s : Shape). suc m ≤ length s) (int_le x.term u) (x ∷ terms_to u xs) [] (λ e. let more = terms-longest u m xs (omega (arith, h)) w.1 in omega (arith, more))
    (λ e. absurd (let a = w.0 in grind (arith, ints, a, e)))

cond_count : (P : ℕ → Type 0) (b : Bool) (k : ℕ) → (b ≡ true → P (1 + k)) → (b ≡ false → P 0) → P (if b then 1 + k else 0)
cond_count P true k f g = f refl
cond_count P false k f g = g refl

-- the entries that end by e end by e together
ends_by-place : (p e n : ℕ) (xs : Shape) → p ≤ e → n ≤ ends_by_from p e xs → end_from p (take n xs) ≤ e
ends_by-place p e zero [] h i = h
ends_by-place p e zero (x ∷ xs) h i = h
ends_by-place p e (suc n) [] h i = absurd (omega (arith, i))
ends_by-place p e (suc n) (x ∷ xs) h i =
    cond_count (λ k. suc n ≤ k → end_from (end_after p x.len) (take n xs) ≤ e) (nat_le (end_after p x.len) e) (ends_by_from (end_after p x.len) e xs)
    (λ b j. ends_by-place (end_after p x.len) e n xs (grind (arith, nat_tests, b)) (omega (arith, j))) (λ b j. absurd (omega (arith, j))) i

ends_by-longest : (p e m : ℕ) (xs : Shape) → m ≤ length xs → end_from p (take m xs) ≤ e → m ≤ ends_by_from p e xs
ends_by-longest p e zero xs h i = omega arith
ends_by-longest p e (suc m) [] h i = absurd (omega (arith, h))
ends_by-longest p e (suc m) (x ∷ xs) h i =
    cond_count (λ k. suc m ≤ k) (nat_le (end_after p x.len) e) (ends_by_from (end_after p x.len) e xs)
    (λ b. let more = ends_by-longest (end_after p x.len) e m xs (omega (arith, h)) i in omega (arith, more))
    (λ b. absurd (let up = end_from-up (end_after p x.len) (take m xs) in grind (arith, nat_tests, b, up, i)))

-- the lesser of both counts
pub is_kept : (xs : Shape) (u : ℤ) (e a : ℕ) → a ≤ length xs → terms_to u xs ≡ take a xs → a ≡ length (terms_to u xs) → ends_by e xs ≤ length xs → IsKept xs u e (min a (ends_by e xs))
is_kept xs u e a ha pre len hb =
    let n = min a (ends_by e xs) in
    let low : n ≤ a = omega arith in
    record {
      within = omega (arith, ha);
      terms = subst (TermsWithin u) (ap (take n) pre ∙ take-take n a xs low) (TermsWithin-take u n (terms_to u xs) (TermsWithin-terms_to u xs));
      ends = ends_by-place 0 e n xs (omega arith) (omega arith);
      longest = λ m h w i. let b = terms-longest u m xs h w in let c = ends_by-longest 0 e m xs h i in omega (arith, len, b, c);
    }

-- what is kept of a log, by its shape
pub kept_from-take : (p : ℕ) (u : ℤ) (e : ℕ) (log : Log) → take (min (length (terms_to u (shape_of log))) (ends_by_from p e (shape_of log))) log ≡ kept_from p u e log
kept_from-take p u e [] = refl
kept_from-take p u e (x ∷ xs) =
    at (int_le x.term u) (nat_le (end_after p (length x.bytes)) e) (terms_to u (shape_of xs)) (ends_by_from (end_after p (length x.bytes)) e (shape_of xs)) (kept_from (end_after p (length x.bytes)) u e xs) (kept_from-take (end_after p (length x.bytes)) u e xs)
  where
    at : (b c : Bool) (s : Shape) (k : ℕ) (l : Log) → take (min (length s) k) xs ≡ l → take (min (length (if b then entry_shape x ∷ s else [])) (if c then 1 + k else 0)) (x ∷ xs) ≡ (if b && c then x ∷ l else [])
    at true true s k l h =
        let n : min (suc (length s)) (1 + k) ≡ suc (min (length s) k) = omega arith in
        rw n (ap (λ (m : Log). x ∷ m) h)
    at true false s k l h = let n : min (suc (length s)) 0 ≡ 0 = omega arith in rw n refl
    at false true s k l h = let n : min 0 (1 + k) ≡ 0 = omega arith in rw n refl
    at false false s k l h = refl

-- and its last term
pub last_term_of-take : (log : Log) (xs : Shape) (n : ℕ) → shape_of log ≡ xs → last_term_of (take n xs) ≡ last (take n log)
last_term_of-take log xs n e = ap (λ (s : Shape). last_term_of (take n s)) (sym e) ∙ ap last_term_of (take-map entry_shape n log) ∙ last_term_from-shape_of (negsuc 0) (take n log)
