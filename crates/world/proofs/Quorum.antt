-- Two quorums share a member.
use Rattle.std.proofs.Common.{◌≡◌, ◌⊎◌, inl, inr, ℕ, zero, suc, ◌+◌, ◌<◌, ◌≤◌, Bool, true, false, List, [], ◌∷◌, length, set, replicate, get_or-set_other, refl, sym, ap, ◌∙◌, arith, add-zero, add-suc, ◌-◌}
use Rattle.std.specs.Prelude.{if◌then◌else◌, slice_index_or}
use Rattle.std.proofs.lemmas.Bool.{cases_eq}
use Rattle.std.proofs.lemmas.List.Sums.{sum_by-cons}
use Rattle.std.proofs.lemmas.Bool.Decides.{nat_tests}
use Rattle.election.specs.Rows.{vote_count}
use Rattle.entry_log.specs.Quorum.{is_quorum}
use Rattle.world.specs.Safe.{count_below}

-- among the numbers below n, two tests count no more than n together, or some number passes both
pub shared_or_few : (n : ℕ) (p q : ℕ → Bool) → ((k : ℕ) × (p k ≡ true) × (q k ≡ true)) ⊎ (count_below n p + count_below n q ≤ n)
shared_or_few zero p q = inr (omega arith)
shared_or_few (suc n) p q = elim (shared_or_few n p q) [ inl s ↦ inl s | inr few ↦ one_more n p q (p n) (q n) refl refl few ]
  where
    one_more : (n : ℕ) (p q : ℕ → Bool) (a b : Bool) → p n ≡ a → q n ≡ b → count_below n p + count_below n q ≤ n → ((k : ℕ) × (p k ≡ true) × (q k ≡ true)) ⊎ (count_below (suc n) p + count_below (suc n) q ≤ suc n)
    one_more n p q true true e f few = inl (n, e, f)
    one_more n p q true false e f few = inr (rw (e, f) (omega arith))
    one_more n p q false true e f few = inr (rw (e, f) (omega arith))
    one_more n p q false false e f few = inr (rw (e, f) (omega arith))

-- two quorums share a member
pub shared : (n : ℕ) (p q : ℕ → Bool) → is_quorum n (count_below n p) ≡ true → is_quorum n (count_below n q) ≡ true → (k : ℕ) × (p k ≡ true) × (q k ≡ true)
shared n p q a b = elim (shared_or_few n p q) [ inl s ↦ s | inr few ↦ absurd (grind (arith, nat_tests, few, a, b)) ]

count_below-more : (n k : ℕ) (p : ℕ → Bool) → count_below n p ≤ count_below (n + k) p
count_below-more n zero p = rw add-zero (omega arith)
count_below-more n (suc k) p = rw add-suc (omega (arith, count_below-more n k p))

pub count_below-up : (n m : ℕ) (p : ℕ → Bool) → n ≤ m → count_below n p ≤ count_below m p
count_below-up n m p h = let e : n + (m - n) ≡ m = omega arith in rw e at (count_below-more n (m - n) p)

-- a test that only numbers below n pass counts no more than those
pub count_below-within : (l n : ℕ) (p : ℕ → Bool) → ((k : ℕ) → p k ≡ true → k < n) → count_below l p ≤ count_below n p
count_below-within zero n p h = omega arith
count_below-within (suc l) n p h = at l n p h (p l) refl (count_below-within l n p h)
  where
    at : (l n : ℕ) (p : ℕ → Bool) → ((k : ℕ) → p k ≡ true → k < n) → (b : Bool) → p l ≡ b → count_below l p ≤ count_below n p → count_below (suc l) p ≤ count_below n p
    at l n p h true e few = count_below-up (suc l) n p (h l e)
    at l n p h false e few = rw e (omega (arith, few))

count_below-front : (n : ℕ) (p : ℕ → Bool) → count_below (suc n) p ≡ (if p 0 then 1 else 0) + count_below n (λ k. p (suc k))
count_below-front zero p = omega arith
count_below-front (suc n) p = omega (arith, count_below-front n p)

pub vote_count-below : (votes : List Bool) → vote_count votes ≡ count_below (length votes) (λ k. slice_index_or votes k false)
vote_count-below [] = refl
vote_count-below (v ∷ votes) = sum_by-cons (λ (b : Bool). if b then 1 else 0) v votes ∙ ap (λ z. (if v then 1 else 0) + z) (vote_count-below votes) ∙ sym (count_below-front (length votes) (λ k. slice_index_or (v ∷ votes) k false))

-- a quorum of votes is a quorum of members
pub is_quorum-votes : (n : ℕ) (votes : List Bool) → ((k : ℕ) → slice_index_or votes k false ≡ true → k < n) → is_quorum n (vote_count votes) ≡ true → is_quorum n (count_below n (λ k. slice_index_or votes k false)) ≡ true
is_quorum-votes n votes h q =
    let few = count_below-within (length votes) n (λ k. slice_index_or votes k false) h in
    grind (arith, nat_tests, vote_count-below votes, few, q)

none_set : (n k : ℕ) → slice_index_or (replicate n false) k false ≡ false
none_set zero k = refl
none_set (suc n) zero = refl
none_set (suc n) (suc k) = none_set n k

pub one_set : (n j k : ℕ) → slice_index_or (set (replicate n false) j true) k false ≡ true → k ≡ j
one_set n j k h = elim (cases_eq k j) [
  | inl e ↦ e
  | inr ne ↦ absurd (let e = get_or-set_other (replicate n false) j k true false ne in let f = none_set n k in cc)
]
