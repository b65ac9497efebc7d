-- The latest of the valid sets of snapshots, as the last one in order.
use Rattle.std.proofs.Common.{◌≡◌, inl, inr, ℕ, Bool, true, false, List, [], ◌∷◌, refl, sym, ap, ◌∙◌, subst, arith, Some, None, Option}
use Rattle.std.specs.Prelude.{Contains}
use Rattle.std.proofs.lemmas.Int.{ints}
use Rattle.std.proofs.lemmas.Bool.Decides.{nat_tests}
use Rattle.entry_log.specs.Durable.{SnapshotEntry, SnapshotSet, has_set, is_later, with_set, sets_in, sets_of, last_set, latest_set}
use Rattle.world.proofs.Effects.{if-cases, none_in}
use Rattle.agreement.proofs.Snaps2.{Every, cons-cases, last_set-every, with_set-every}

abbrev pub set_of : SnapshotEntry → SnapshotSet
set_of s = record { position = s.position; term = s.term }

not-self : (a : SnapshotSet) → is_later a a ≡ false
not-self a = by (is_later a a) refl
  where
    by : (b : Bool) → is_later a a ≡ b → b ≡ false
    by false e = refl
    by true e = absurd (grind (arith, ints, nat_tests, e))

not-both : (a b : SnapshotSet) → is_later a b ≡ true → is_later b a ≡ false
not-both a b h = by (is_later b a) refl
  where
    by : (c : Bool) → is_later b a ≡ c → c ≡ false
    by false e = refl
    by true e = absurd (grind (arith, ints, nat_tests, h, e))

later-trans : (a b c : SnapshotSet) → is_later a b ≡ true → is_later b c ≡ true → is_later a c ≡ true
later-trans a b c h k = by (is_later a c) refl
  where
    by : (d : Bool) → is_later a c ≡ d → d ≡ true
    by true e = refl
    by false e = absurd (grind (arith, ints, nat_tests, h, k, e))

same-set : (a b : SnapshotSet) → a.position ≡ b.position → a.term ≡ b.term → a ≡ b
same-set a b p t = λ i. record { position = p i; term = t i }

neither : (a b : SnapshotSet) → is_later a b ≡ false → is_later b a ≡ false → a ≡ b
neither a b h k = same-set a b (grind (arith, ints, nat_tests, h, k)) (grind (arith, ints, nat_tests, h, k))

-- ---- the sets in order

-- each set is later than those before it
abbrev Rising : List SnapshotSet → Type 0
Rising [] = Unit {0}
Rising (a ∷ bs) = Every (λ b. is_later b a ≡ true) bs × Rising bs

every-weaker : (P Q : SnapshotSet → Type 0) (bs : List SnapshotSet) → ((b : SnapshotSet) → P b → Q b) → Every P bs → Every Q bs
every-weaker P Q [] so all = tt
every-weaker P Q (b ∷ bs) so all = (so b all.0, every-weaker P Q bs so all.1)

with_set-rising : (a : SnapshotSet) (bs : List SnapshotSet) → Rising bs → Rising (with_set a bs)
with_set-rising a [] r = (tt, tt)
with_set-rising a (b ∷ bs) r =
    if-cases Rising (is_later a b) _ _
    (λ h. (with_set-every (λ c. is_later c b ≡ true) a bs h r.0, with_set-rising a bs r.1))
    (λ h. if-cases Rising (is_later b a) _ _
    (λ k. ((k, every-weaker (λ c. is_later c b ≡ true) (λ c. is_later c a ≡ true) bs (λ c l. later-trans c b a l k) r.0), r))
    (λ k. r))

sets_in-rising : (services : ℕ) (all es : List SnapshotEntry) → Rising (sets_in services all es)
sets_in-rising services all [] = tt
sets_in-rising services all (x ∷ xs) =
    if-cases Rising (has_set services all x.term x.position) _ _
    (λ h. with_set-rising (set_of x) (sets_in services all xs) (sets_in-rising services all xs))
    (λ h. sets_in-rising services all xs)

-- none is later than the last
last-latest : (bs : List SnapshotSet) (b : SnapshotSet) → Rising bs → last_set bs ≡ Some b → Every (λ c. is_later c b ≡ false) bs
last-latest [] b r e = tt
last-latest (a ∷ []) b r e = (subst (λ (c : SnapshotSet). is_later a c ≡ false) (some-same a b e) (not-self a), tt)
  where
    some-same : (x y : SnapshotSet) → Some x ≡ Some y → x ≡ y
    some-same x y is = cc
last-latest (a ∷ c ∷ cs) b r e = (not-both b a (last_set-every (λ d. is_later d a ≡ true) (c ∷ cs) b r.0 e), last-latest (c ∷ cs) b r.1 e)

none-last : (bs : List SnapshotSet) → last_set bs ≡ None → Every (λ c. ⊥) bs
none-last [] e = tt
none-last (a ∷ []) e = absurd (cc)
none-last (a ∷ c ∷ cs) e = absurd ((none-last (c ∷ cs) e).0)

-- ---- what holds of each set in order holds of the set of each entry

with_set-all : (P : SnapshotSet → Type 0) (a : SnapshotSet) (bs : List SnapshotSet) → Every P (with_set a bs) → P a × Every P bs
with_set-all P a [] all = all
with_set-all P a (b ∷ bs) all =
    if-cases (λ (l : List SnapshotSet). Every P l → P a × Every P (b ∷ bs)) (is_later a b) _ _
    (λ h q. let r = with_set-all P a bs q.1 in (r.0, (q.0, r.1)))
    (λ h. if-cases (λ (l : List SnapshotSet). Every P l → P a × Every P (b ∷ bs)) (is_later b a) _ _ (λ k q. q) (λ k q. (subst P (sym (neither a b h k)) q.0, q)))
    all

sets_in-all : (P : SnapshotSet → Type 0) (services : ℕ) (all es : List SnapshotEntry) → Every P (sets_in services all es) → (s : SnapshotEntry) → Contains es s → has_set services all s.term s.position ≡ true → P (set_of s)
sets_in-all P services all [] every s has whole = absurd (none_in s has)
sets_in-all P services all (x ∷ xs) every s has whole =
    if-cases (λ (l : List SnapshotSet). Every P l → P (set_of s)) (has_set services all x.term x.position) (with_set (set_of x) (sets_in services all xs)) (sets_in services all xs)
    (λ h q. let r = with_set-all P (set_of x) (sets_in services all xs) q in
    elim (cons-cases x s xs has) [ inl e ↦ subst (λ (y : SnapshotEntry). P (set_of y)) e r.0 | inr k ↦ sets_in-all P services all xs r.1 s k whole ])
    (λ h q. elim (cons-cases x s xs has) [ inl e ↦ absurd (differ (sym h ∙ subst (λ (y : SnapshotEntry). has_set services all y.term y.position ≡ true) (sym e) whole)) | inr k ↦ sets_in-all P services all xs q s k whole ])
    every
  where
    differ : false ≡ true → ⊥
    differ is = cc

-- where there is no latest set, no entry's set is whole
pub no-latest : (services : ℕ) (all : List SnapshotEntry) → latest_set services all ≡ None → (s : SnapshotEntry) → Contains all s → has_set services all s.term s.position ≡ true → ⊥
no-latest services all none s has whole = sets_in-all (λ c. ⊥) services all all (none-last (sets_of services all) none) s has whole

-- no entry's whole set is later than the latest
pub latest-last : (services : ℕ) (all : List SnapshotEntry) (b : SnapshotSet) → latest_set services all ≡ Some b → (s : SnapshotEntry) → Contains all s → has_set services all s.term s.position ≡ true → is_later (set_of s) b ≡ false
latest-last services all b is s has whole = sets_in-all (λ c. is_later c b ≡ false) services all all (last-latest (sets_of services all) b (sets_in-rising services all all) is) s has whole

-- which is whole itself
sets-whole : (services : ℕ) (all es : List SnapshotEntry) → Every (λ b. has_set services all b.term b.position ≡ true) (sets_in services all es)
sets-whole services all [] = tt
sets-whole services all (x ∷ xs) =
    let whole : SnapshotSet → Type 0 = λ b. has_set services all b.term b.position ≡ true in
    if-cases (Every whole) (has_set services all x.term x.position) _ _
    (λ h. with_set-every whole (set_of x) (sets_in services all xs) h (sets-whole services all xs))
    (λ h. sets-whole services all xs)

pub latest-whole : (services : ℕ) (all : List SnapshotEntry) (b : SnapshotSet) → latest_set services all ≡ Some b → has_set services all b.term b.position ≡ true
latest-whole services all b e = last_set-every (λ c. has_set services all c.term c.position ≡ true) (sets_of services all) b (sets-whole services all all) e

-- the latest set is one that is whole, and that no whole one is later than
pub latest-is : (services : ℕ) (all : List SnapshotEntry) (s : SnapshotEntry) → Contains all s → has_set services all s.term s.position ≡ true
    → ((b : SnapshotSet) → has_set services all b.term b.position ≡ true → is_later b (set_of s) ≡ false) → latest_set services all ≡ Some (set_of s)
latest-is services all s has whole last = by (latest_set services all) refl
  where
    by : (o : Option SnapshotSet) → latest_set services all ≡ o → o ≡ Some (set_of s)
    by None e = absurd (no-latest services all e s has whole)
    by (Some b) e = ap Some (neither b (set_of s) (last b (latest-whole services all b e)) (latest-last services all b e s has whole))
