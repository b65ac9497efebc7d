-- What a quorum of reports reach.
use Rattle.std.proofs.Common.{◌≡◌, ◌⊎◌, inl, inr, ℕ, ◌+◌, ◌<◌, ◌≤◌, max, Bool, true, false, List, [], ◌∷◌, length, refl, sym, ap, ◌∙◌, subst, arith, cond, zero-add}
use Rattle.std.specs.Prelude.{nat_le, fold, filter, count_by}
use Rattle.std.proofs.lemmas.Bool.Decides.{nat_tests}
use Rattle.std.proofs.lemmas.List.Sums.{sum_by-cons}
use Rattle.entry_log.specs.Quorum.{is_quorum}
use Rattle.log_replication.specs.Commits.{is_reached, IsQuorumPosition, quorum_position}

-- one of a list
abbrev pub Among : ℕ → List ℕ → Type 0
Among r [] = ⊥
Among r (x ∷ xs) = (x ≡ r) ⊎ Among r xs

fold_max-up : (a : ℕ) (xs : List ℕ) → a ≤ fold max a xs
fold_max-up a [] = omega arith
fold_max-up a (x ∷ xs) = let h = fold_max-up (max a x) xs in omega (arith, h)

either : (p : ℕ → Bool) (a r x : ℕ) (xs : List ℕ) (b : Bool) → ((c : ℕ) → r ≤ fold max c (filter p xs)) → r ≤ fold max a (cond b (x ∷ filter p xs) (filter p xs))
either p a r x xs true more = more (max a x)
either p a r x xs false more = more a

-- what passes is at most the greatest that passes
fold_max-bound : (p : ℕ → Bool) (a r : ℕ) (xs : List ℕ) → Among r xs → p r ≡ true → r ≤ fold max a (filter p xs)
fold_max-bound p a r [] m e = absurd m
fold_max-bound p a r (x ∷ xs) (inl same) e =
    let y : p x ≡ true = ap p same ∙ e in
    subst (λ b. r ≤ fold max a (cond b (x ∷ filter p xs) (filter p xs))) (sym y) (let h = fold_max-up (max a x) (filter p xs) in omega (arith, h, same))
fold_max-bound p a r (x ∷ xs) (inr m) e = either p a r x xs (p x) (λ b. fold_max-bound p b r xs m e)

max_passes : (p : ℕ → Bool) (a x : ℕ) → p a ≡ true → p x ≡ true → p (max a x) ≡ true
max_passes p a x e f = at (nat_le a x) refl
  where
    at : (b : Bool) → nat_le a x ≡ b → p (max a x) ≡ true
    at true h = let m : max a x ≡ x = grind (arith, nat_tests, h) in ap p m ∙ f
    at false h = let m : max a x ≡ a = grind (arith, nat_tests, h) in ap p m ∙ e

-- the greatest of what passes passes, where what it begins with does
fold_max-passes : (p : ℕ → Bool) (a : ℕ) (xs : List ℕ) → p a ≡ true → p (fold max a (filter p xs)) ≡ true
fold_max-passes p a [] e = e
fold_max-passes p a (x ∷ xs) e = at (p x) refl (λ c h. fold_max-passes p c xs h)
  where
    at : (b : Bool) → p x ≡ b → ((c : ℕ) → p c ≡ true → p (fold max c (filter p xs)) ≡ true) → p (fold max a (cond b (x ∷ filter p xs) (filter p xs))) ≡ true
    at true f more = more (max a x) (max_passes p a x e f)
    at false f more = more a e

count-yes : (q x : ℕ) (xs : List ℕ) → nat_le q x ≡ true → count_by (λ y. nat_le q y) (x ∷ xs) ≡ 1 + count_by (λ y. nat_le q y) xs
count-yes q x xs e = sum_by-cons (λ y. cond (nat_le q y) 1 0) x xs ∙ ap (λ b. cond b 1 0 + count_by (λ y. nat_le q y) xs) e

count-no : (q x : ℕ) (xs : List ℕ) → nat_le q x ≡ false → count_by (λ y. nat_le q y) (x ∷ xs) ≡ count_by (λ y. nat_le q y) xs
count-no q x xs e = sum_by-cons (λ y. cond (nat_le q y) 1 0) x xs ∙ ap (λ b. cond b 1 0 + count_by (λ y. nat_le q y) xs) e ∙ zero-add (count_by (λ y. nat_le q y) xs)

count-cons : (q x : ℕ) (xs : List ℕ) → count_by (λ y. nat_le q y) (x ∷ xs) ≡ cond (nat_le q x) 1 0 + count_by (λ y. nat_le q y) xs
count-cons q x xs = sum_by-cons (λ y. cond (nat_le q y) 1 0) x xs

-- each report reaches 0
count-all : (xs : List ℕ) → count_by (λ r. nat_le 0 r) xs ≡ length xs
count-all [] = refl
count-all (x ∷ xs) = let y : nat_le 0 x ≡ true = grind (arith, nat_tests) in let h = count-all xs in count-yes 0 x xs y ∙ omega (arith, h)

cond_le : (b c : Bool) → (b ≡ true → c ≡ true) → cond b 1 0 ≤ cond c 1 0
cond_le true c f = subst (λ z. 1 ≤ cond z 1 0) (sym (f refl)) (omega arith)
cond_le false c f = omega arith

-- fewer reach a higher place
count-down : (q r : ℕ) (xs : List ℕ) → q ≤ r → count_by (λ x. nat_le r x) xs ≤ count_by (λ x. nat_le q x) xs
count-down q r [] h = omega arith
count-down q r (x ∷ xs) h =
    let more = count-down q r xs h in
    let here = cond_le (nat_le r x) (nat_le q x) (λ e. grind (arith, nat_tests, h, e)) in
    let a = count-cons r x xs in
    let b = count-cons q x xs in
    omega (arith, more, here, a, b)

-- of two that q is at most, the lesser
pick : (q x : ℕ) (xs : List ℕ) → nat_le q x ≡ true → (r : ℕ) → Among r xs → q ≤ r → count_by (λ y. nat_le q y) xs ≤ count_by (λ y. nat_le r y) xs → (b : Bool) → nat_le r x ≡ b
    → (count_by (λ y. nat_le q y) (x ∷ xs) ≡ 0) ⊎ ((r : ℕ) × (Among r (x ∷ xs)) × (q ≤ r) × (count_by (λ y. nat_le q y) (x ∷ xs) ≤ count_by (λ y. nat_le r y) (x ∷ xs)))
pick q x xs e r m low n true f = inr (r, inr m, low, (let a = count-yes q x xs e in let b = count-yes r x xs f in omega (arith, n, a, b)))
pick q x xs e r m low n false f =
    let self : nat_le x x ≡ true = grind (arith, nat_tests) in
    let down = count-down x r xs (grind (arith, nat_tests, f)) in
    inr (x, inl refl, grind (arith, nat_tests, e), (let a = count-yes q x xs e in let b = count-yes x x xs self in omega (arith, n, down, a, b)))

-- where some report reaches q, one of them is reached by as many as q is
least : (q : ℕ) (xs : List ℕ) → (count_by (λ x. nat_le q x) xs ≡ 0) ⊎ ((r : ℕ) × (Among r xs) × (q ≤ r) × (count_by (λ x. nat_le q x) xs ≤ count_by (λ x. nat_le r x) xs))
least q [] = inl refl
least q (x ∷ xs) = at (nat_le q x) refl (least q xs)
  where
    at : (b : Bool) → nat_le q x ≡ b → (count_by (λ y. nat_le q y) xs ≡ 0) ⊎ ((r : ℕ) × (Among r xs) × (q ≤ r) × (count_by (λ y. nat_le q y) xs ≤ count_by (λ y. nat_le r y) xs))
        → (count_by (λ y. nat_le q y) (x ∷ xs) ≡ 0) ⊎ ((r : ℕ) × (Among r (x ∷ xs)) × (q ≤ r) × (count_by (λ y. nat_le q y) (x ∷ xs) ≤ count_by (λ y. nat_le r y) (x ∷ xs)))
    at false e (inl none) = inl (count-no q x xs e ∙ none)
    at false e (inr w) = inr (w.0, inr w.1, w.2, (let n = w.3 in let a = count-no q x xs e in let b = count-cons w.0 x xs in omega (arith, n, a, b)))
    at true e (inl none) =
        let self : nat_le x x ≡ true = grind (arith, nat_tests) in
        inr (x, inl refl, grind (arith, nat_tests, e), (let a = count-yes q x xs e in let b = count-yes x x xs self in omega (arith, none, a, b)))
    at true e (inr w) = pick q x xs e w.0 w.1 w.2 w.3 (nat_le w.0 x) refl

quorum-some : (n k : ℕ) → is_quorum n k ≡ true → 0 < k
quorum-some n k h = grind (arith, nat_tests, h)

quorum-up : (n k m : ℕ) → k ≤ m → is_quorum n k ≡ true → is_quorum n m ≡ true
quorum-up n k m h e = grind (arith, nat_tests, h, e)

-- the function is the greatest number that a quorum reach
pub is_quorum_position : (reports : List ℕ) → 0 < length reports → IsQuorumPosition reports (quorum_position reports)
is_quorum_position reports some = record {
  reached = fold_max-passes (is_reached reports) 0 reports (rw (count-all reports) (grind (arith, nat_tests, some)));
  greatest = λ p e. at p e (least p reports);
}
  where
    at : (p : ℕ) → is_reached reports p ≡ true → (count_by (λ x. nat_le p x) reports ≡ 0) ⊎ ((r : ℕ) × (Among r reports) × (p ≤ r) × (count_by (λ x. nat_le p x) reports ≤ count_by (λ x. nat_le r x) reports)) → p ≤ quorum_position reports
    at p e (inl none) = absurd (let s = quorum-some (length reports) (count_by (λ x. nat_le p x) reports) e in omega (arith, none, s))
    at p e (inr w) =
        let passes : is_reached reports w.0 ≡ true = quorum-up (length reports) (count_by (λ x. nat_le p x) reports) (count_by (λ x. nat_le w.0 x) reports) w.3 e in
        let bound = fold_max-bound (is_reached reports) 0 w.0 reports w.1 passes in
        let low = w.2 in
        omega (arith, bound, low)
