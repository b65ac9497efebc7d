-- Sets in order are known by their terms and positions.
use Rattle.std.specs.Prelude.{nat_lt, int_lt, if◌then◌else◌, ◌==◌, ◌&&◌, ◌||◌, ◌<ℤ◌}
use Rattle.std.proofs.Common.{◌≡◌, ◌⊎◌, inl, inr, ⊎_elim, ℕ, zero, suc, ℤ, pos, ◌<◌, Bool, true, false, List, [], ◌∷◌, ◌++◌, length, get_or, refl, sym, ap, ◌∙◌, subst, arith}
use Rattle.std.proofs.lemmas.Bool.{and_parts, and_from, or_cases, both_ways, ltb-true, eqb-true, lt-ltb, eq-eqb}
use Rattle.std.proofs.lemmas.Int.{ints}
use Rattle.recording_log.specs.declared.entry.SnapshotAt.{SnapshotAt}
use Rattle.recording_log.specs.Listed.{IsBefore, Rise, IsAmong}
use Rattle.run_report.specs.Text.{set_line, set_lines}
use Rattle.cluster_tool.specs.Sets.{is_before, put_in}

-- of one term and position
abbrev pub Same : SnapshotAt → SnapshotAt → Type 0
Same a b = (a.term ≡ b.term) × (a.position ≡ b.position)

-- one of these is of this term and position
abbrev pub In : ℤ → ℕ → List SnapshotAt → Type 0
In t p [] = ⊥
In t p (s ∷ ss) = ((s.term ≡ t) × (s.position ≡ p)) ⊎ In t p ss

-- a set is before each of these, and each is before those behind it
abbrev pub After : SnapshotAt → List SnapshotAt → Type 0
After a [] = Unit {0}
After a (s ∷ ss) = IsBefore a s × After a ss

abbrev pub Sorted : List SnapshotAt → Type 0
Sorted [] = Unit {0}
Sorted (s ∷ ss) = After s ss × Sorted ss

-- a set is before those of this term and position
abbrev Below : SnapshotAt → ℤ → ℕ → Type 0
Below a t p = (a.position < p) ⊎ ((a.position ≡ p) × (a.term <ℤ t))

-- ---- the order

less_true : (s t : ℤ) → int_lt s t ≡ true → s <ℤ t
less_true s t is = grind (arith, ints, is)

less_from : (s t : ℤ) → s <ℤ t → int_lt s t ≡ true
less_from s t less = grind (arith, ints, less)

is_before_true : (a b : SnapshotAt) → is_before a b ≡ true → IsBefore a b
is_before_true a b is = ⊎_elim
    (λ less. inl (ltb-true a.position b.position less))
    (λ same. let both = and_parts (a.position == b.position) (int_lt a.term b.term) same in inr (eqb-true a.position b.position both.0, less_true a.term b.term both.1))
    (or_cases (nat_lt a.position b.position) (a.position == b.position && int_lt a.term b.term) is)

orders : (p q : ℕ) (s t : ℤ) → ((p < q) ⊎ ((p ≡ q) × (s <ℤ t))) ⊎ (((q < p) ⊎ ((q ≡ p) × (t <ℤ s))) ⊎ ((s ≡ t) × (p ≡ q)))
orders p q s t = grind (arith, ints)

before_then : (p q r : ℕ) (s t u : ℤ) → (p < q) ⊎ ((p ≡ q) × (s <ℤ t)) → (q < r) ⊎ ((q ≡ r) × (t <ℤ u)) → (p < r) ⊎ ((p ≡ r) × (s <ℤ u))
before_then p q r s t u one two = grind (arith, ints)

never_itself : (p q : ℕ) (s t : ℤ) → (p < q) ⊎ ((p ≡ q) × (s <ℤ t)) → s ≡ t → p ≡ q → ⊥
never_itself p q s t before e f = grind (arith, ints)

never_both : (p q : ℕ) (s t : ℤ) → (p < q) ⊎ ((p ≡ q) × (s <ℤ t)) → (q < p) ⊎ ((q ≡ p) × (t <ℤ s)) → ⊥
never_both p q s t one two = grind (arith, ints)

or_left : (x y : Bool) → x ≡ true → (x || y) ≡ true
or_left x y is = ap (λ (b : Bool). b || y) is

or_right : (x y : Bool) → y ≡ true → (x || y) ≡ true
or_right true y is = refl
or_right false y is = is

-- ---- a set put among others

module _ (s t : SnapshotAt) (ts : List SnapshotAt) (P : List SnapshotAt → Type 0)
    (first : IsBefore s t → P (s ∷ t ∷ ts)) (later : IsBefore t s → P (t ∷ put_in s ts)) (same : Same s t → P (t ∷ ts)) where
  by : (b c : Bool) → is_before s t ≡ b → is_before t s ≡ c → P (if b then s ∷ t ∷ ts else (if c then t ∷ put_in s ts else t ∷ ts))
  by true c e f = first (is_before_true s t e)
  by false true e f = later (is_before_true t s f)
  by false false e f = ⊎_elim (λ is. absurd (told s t is e)) (λ o. ⊎_elim (λ is. absurd (told t s is f)) same o) (orders s.position t.position s.term t.term)
    where
      told : (a b : SnapshotAt) → IsBefore a b → is_before a b ≡ false → ⊥
      told a b (inl less) not_before = both_ways (is_before a b) not_before (or_left (nat_lt a.position b.position) (a.position == b.position && int_lt a.term b.term) (lt-ltb a.position b.position less))
      told a b (inr alike) not_before =
          both_ways (is_before a b) not_before (or_right (nat_lt a.position b.position) (a.position == b.position && int_lt a.term b.term) (and_from (a.position == b.position) (int_lt a.term b.term) (eq-eqb a.position b.position alike.0) (less_from a.term b.term alike.1)))

  pub put_cases : P (put_in s (t ∷ ts))
  put_cases = by (is_before s t) (is_before t s) refl refl

pub after_put : (a s : SnapshotAt) (ts : List SnapshotAt) → IsBefore a s → After a ts → After a (put_in s ts)
after_put a s [] before after = (before, tt)
after_put a s (t ∷ ts) before after = put_cases s t ts (After a) (λ is. (before, after)) (λ is. (after.0, after_put a s ts before after.1)) (λ is. after)

after_more : (a b : SnapshotAt) (ts : List SnapshotAt) → IsBefore a b → After b ts → After a ts
after_more a b [] before after = tt
after_more a b (t ∷ ts) before after = (before_then a.position b.position t.position a.term b.term t.term before after.0, after_more a b ts before after.1)

pub sorted_put : (s : SnapshotAt) (ts : List SnapshotAt) → Sorted ts → Sorted (put_in s ts)
sorted_put s [] sorted = (tt, tt)
sorted_put s (t ∷ ts) sorted = put_cases s t ts Sorted
    (λ is. ((is, after_more s t ts is sorted.0), sorted))
    (λ is. (after_put t s ts is sorted.0, sorted_put s ts sorted.1))
    (λ is. sorted)

pub in_put : (s : SnapshotAt) (ts : List SnapshotAt) → In s.term s.position (put_in s ts)
in_put s [] = inl (refl, refl)
in_put s (t ∷ ts) = put_cases s t ts (In s.term s.position) (λ is. inl (refl, refl)) (λ is. inr (in_put s ts)) (λ is. inl (sym is.0, sym is.1))

pub in_old : (s : SnapshotAt) (ts : List SnapshotAt) (t : ℤ) (p : ℕ) → In t p ts → In t p (put_in s ts)
in_old s [] t p is = absurd is
in_old s (u ∷ ts) t p is = put_cases s u ts (In t p) (λ first. inr is) (λ later. ⊎_elim (λ here. inl here) (λ behind. inr (in_old s ts t p behind)) is) (λ same. is)

pub in_only : (s : SnapshotAt) (ts : List SnapshotAt) (t : ℤ) (p : ℕ) → In t p (put_in s ts) → ((s.term ≡ t) × (s.position ≡ p)) ⊎ In t p ts
in_only s [] t p = λ is. is
in_only s (u ∷ ts) t p = put_cases s u ts (λ l. In t p l → ((s.term ≡ t) × (s.position ≡ p)) ⊎ In t p (u ∷ ts))
    (λ first is. is)
    (λ later is. ⊎_elim (λ here. inr (inl here)) (λ behind. ⊎_elim (λ here. inl here) (λ old. inr (inr old)) (in_only s ts t p behind)) is)
    (λ same is. inr is)

-- ---- lists in order with the same terms and positions

abbrev Alike : List SnapshotAt → List SnapshotAt → Type 0
Alike [] [] = Unit {0}
Alike [] (y ∷ ys) = ⊥
Alike (x ∷ xs) [] = ⊥
Alike (x ∷ xs) (y ∷ ys) = Same x y × Alike xs ys

below_in : (a : SnapshotAt) (ss : List SnapshotAt) (t : ℤ) (p : ℕ) → After a ss → In t p ss → Below a t p
below_in a [] t p after is = absurd is
below_in a (s ∷ ss) t p after (inl is) = subst (λ u. Below a u p) is.0 (subst (λ q. Below a s.term q) is.1 after.0)
below_in a (s ∷ ss) t p after (inr is) = below_in a ss t p after.1 is

heads : (x y : SnapshotAt) (xs ys : List SnapshotAt) → After x xs → After y ys → In x.term x.position (y ∷ ys) → In y.term y.position (x ∷ xs) → Same x y
heads x y xs ys one two (inl is) there = (sym is.0, sym is.1)
heads x y xs ys one two (inr is) (inl also) = also
heads x y xs ys one two (inr is) (inr also) = absurd (never_both x.position y.position x.term y.term (below_in x xs y.term y.position one also) (below_in y ys x.term x.position two is))

-- behind two heads that are the same
behind : (x y : SnapshotAt) (xs ys : List SnapshotAt) (t : ℤ) (p : ℕ) → Same x y → After x xs → In t p xs → In t p (y ∷ ys) → In t p ys
behind x y xs ys t p same after is (inl here) = absurd (never_itself x.position p x.term t (below_in x xs t p after is) (same.0 ∙ here.0) (same.1 ∙ here.1))
behind x y xs ys t p same after is (inr there) = there

alike : (xs ys : List SnapshotAt) → Sorted xs → Sorted ys → ((t : ℤ) (p : ℕ) → In t p xs → In t p ys) → ((t : ℤ) (p : ℕ) → In t p ys → In t p xs) → Alike xs ys
alike [] [] one two f g = tt
alike [] (y ∷ ys) one two f g = g y.term y.position (inl (refl, refl))
alike (x ∷ xs) [] one two f g = f x.term x.position (inl (refl, refl))
alike (x ∷ xs) (y ∷ ys) one two f g =
    let same = heads x y xs ys one.0 two.0 (f x.term x.position (inl (refl, refl))) (g y.term y.position (inl (refl, refl))) in (
      same,
      alike xs ys one.1 two.1
          (λ t p is. behind x y xs ys t p same one.0 is (f t p (inr is)))
          (λ t p is. behind y x ys xs t p (sym same.0, sym same.1) two.0 is (g t p (inr is))),
    )

line_alike : (x y : SnapshotAt) → Same x y → set_line x ≡ set_line y
unfolding set_line
line_alike x y same = cc

lines_alike : (xs ys : List SnapshotAt) → Alike xs ys → set_lines xs ≡ set_lines ys
lines_alike [] [] is = refl
lines_alike [] (y ∷ ys) is = absurd is
lines_alike (x ∷ xs) [] is = absurd is
lines_alike (x ∷ xs) (y ∷ ys) is = λ i. line_alike x y is.0 i ++ lines_alike xs ys is.1 i

as_many : (xs ys : List SnapshotAt) → Alike xs ys → length xs ≡ length ys
as_many [] [] is = refl
as_many [] (y ∷ ys) is = absurd is
as_many (x ∷ xs) [] is = absurd is
as_many (x ∷ xs) (y ∷ ys) is = ap suc (as_many xs ys is.1)

-- lists in order with the same terms and positions are listed the same
pub listed_alike : (xs ys : List SnapshotAt) → Sorted xs → Sorted ys → ((t : ℤ) (p : ℕ) → In t p xs → In t p ys) → ((t : ℤ) (p : ℕ) → In t p ys → In t p xs) → (set_lines xs ≡ set_lines ys) × (length xs ≡ length ys)
listed_alike xs ys one two f g = let is = alike xs ys one two f g in (lines_alike xs ys is, as_many xs ys is)

-- ---- lists by index

pub rise_sorted : (ss : List SnapshotAt) → Rise ss → Sorted ss
rise_sorted [] rise = tt
rise_sorted (s ∷ ss) rise =
    (all_after ss (λ k d below. rise 0 (suc k) d (omega arith) (omega arith)), rise_sorted ss (λ i j d less below. rise (suc i) (suc j) d (omega arith) (omega arith)))
  where
    all_after : (ts : List SnapshotAt) → ((k : ℕ) (d : SnapshotAt) → k < length ts → IsBefore s (get_or ts k d)) → After s ts
    all_after [] each = tt
    all_after (t ∷ ts) each = (each 0 t (omega arith), all_after ts (λ k d below. each (suc k) d (omega arith)))

pub among_in : (ss : List SnapshotAt) (t : ℤ) (p : ℕ) → IsAmong t (pos p) ss → In t p ss
among_in ss t p among = at ss among.index among.within among.term_there among.position_there
  where
    at : (ts : List SnapshotAt) (i : ℕ) → i < length ts → ((d : SnapshotAt) → (get_or ts i d).term ≡ t) → ((d : SnapshotAt) → pos (get_or ts i d).position ≡ pos p) → In t p ts
    at [] i below term position = absurd (omega arith)
    at (s ∷ ts) zero below term position = let is = position s in inl (term s, cc)
    at (s ∷ ts) (suc i) below term position = inr (at ts i (omega arith) term position)
