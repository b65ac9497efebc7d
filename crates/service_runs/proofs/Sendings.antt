-- What a phase's end puts and sends.
use Rattle.std.proofs.Common.{◌≡◌, inl, inr, ℕ, zero, suc, ◌+◌, ◌<◌, ◌≤◌, Bool, true, ◌&&◌, List, [], ◌∷◌, ◌++◌, take, refl, sym, ap, ◌∙◌, subst, arith, ℤ, Some, None, Option, if◌then◌else◌}
use Rattle.std.specs.Prelude.{Contains, slice_get, nat_lt, nat_le}
use Rattle.std.proofs.lemmas.Bool.Decides.{nat_tests}
use Rattle.std.proofs.lemmas.List.Elements.{Contains-append_cases}
use Rattle.cl_base.specs.declared.entry.Entry.{Entry}
use Rattle.entry_log.specs.Log.{Log}
use Rattle.log_replication.specs.Prefixes.{Leads}
use Rattle.world.proofs.Rows.{and_true}
use Rattle.world.proofs.Effects.{if-cases, none_in, only_in}
use Rattle.agreement.proofs.Snaps2.{cons-cases, cons-later, cons-here, same_term-is}
use Rattle.service_runs.specs.Hosts.{Rules, Due, Output, actions, due_for, services_due, due_of, due_in, numbered, by_seat, of_term, sent_at, sent_in}
use Rattle.service_runs.proofs.Held.{DueOk, IsSame, Once}

services_due-ok : (r : Rules) (before : Log) (x : Entry) (q : ℕ) (d : Due) → Contains (services_due r before x q) d → (seat : ℕ) × (seat ≤ q) × (d ≡ due_for r before x seat)
services_due-ok r before x zero d has = absurd (none_in d has)
services_due-ok r before x (suc q) d has = elim (Contains-append_cases (services_due r before x q) (due_for r before x (suc q) ∷ []) d has) [
  | inl a ↦ let z = services_due-ok r before x q d a in (z.0, (let h = z.1 in omega (arith, h)), z.2)
  | inr b ↦ (suc q, omega arith, sym (only_in (due_for r before x (suc q)) d b))
]

due_of-ok : (r : Rules) (log : Log) (n : ℕ) (o : Option Entry) (d : Due) → slice_get log n ≡ o → Contains (due_of r (take n log) o) d → DueOk r log (suc n) d
due_of-ok r log n None d e has = absurd (none_in d has)
due_of-ok r log n (Some x) d e has =
    let before = take n log in
    if-cases (λ l. Contains l d → DueOk r log (suc n) d) (r.is_action x && nat_lt (actions r before) 256) (services_due r before x r.services ++ due_for r before x 0 ∷ []) []
    (λ b h.
    let p = and_true (r.is_action x) (nat_lt (actions r before) 256) b in
    let few : actions r before < 256 = (let a = p.1 in grind (arith, nat_tests, a)) in
    elim (Contains-append_cases (services_due r before x r.services) (due_for r before x 0 ∷ []) d h) [
      | inl a ↦ let z = services_due-ok r before x r.services d a in (n, x, z.0, omega arith, e, p.0, z.1, z.2, few)
      | inr c ↦ (n, x, 0, omega arith, e, p.0, omega arith, sym (only_in (due_for r before x 0) d c), few)
    ])
    (λ b h. absurd (none_in d h)) has

pub due_in-ok : (r : Rules) (log : Log) (from n : ℕ) (d : Due) → Contains (due_in r log from n) d → DueOk r log n d
due_in-ok r log from zero d has = absurd (none_in d has)
due_in-ok r log from (suc n) d has = elim (Contains-append_cases (due_in r log from n) (if nat_le from n then due_of r (take n log) (slice_get log n) else []) d has) [
  | inl a ↦ let z = due_in-ok r log from n d a in (z.0, z.1, z.2, (let h = z.3 in omega (arith, h)), z.4, z.5, z.6, z.7, z.8)
  | inr b ↦ if-cases (λ l. Contains l d → DueOk r log (suc n) d) (nat_le from n) (due_of r (take n log) (slice_get log n)) [] (λ t h. due_of-ok r log n (slice_get log n) d refl h) (λ t h. absurd (none_in d h)) b
]

abbrev NumberedOk : ℕ → ℕ → ℕ → ℕ → List (List ℕ) → Output → Type 0
NumberedOk m n seat j bs o = (o.member ≡ m) × (o.entry ≡ n) × (o.seat ≡ seat) × (i : ℕ) × (o.number ≡ j + i) × (slice_get bs i ≡ Some o.bytes)

numbered-ok : (m n seat j : ℕ) (bs : List (List ℕ)) (o : Output) → Contains (numbered m n seat j bs) o → NumberedOk m n seat j bs o
numbered-ok m n seat j [] o has = absurd (none_in o has)
numbered-ok m n seat j (b ∷ bs) o has = elim (cons-cases (record { member = m; entry = n; seat = seat; number = j; bytes = b }) o (numbered m n seat (suc j) bs) has) [
  | inl e ↦ subst (NumberedOk m n seat j (b ∷ bs)) e (refl, refl, refl, 0, omega arith, refl)
  | inr h ↦ let z = numbered-ok m n seat (suc j) bs o h in (z.0, z.1, z.2, suc z.3, (let a = z.4 in omega (arith, a)), z.5)
]

abbrev SeatOk : Rules → ℕ → Log → ℕ → ℕ → Output → Type 0
SeatOk r m log n q o = (o.member ≡ m) × (o.entry ≡ n) × (o.seat < q) × (slice_get (r.owed (take (suc n) log) o.seat) o.number ≡ Some o.bytes)

by_seat-ok : (r : Rules) (m : ℕ) (log : Log) (n q : ℕ) (o : Output) → Contains (by_seat r m log n q) o → SeatOk r m log n q o
by_seat-ok r m log n zero o has = absurd (none_in o has)
by_seat-ok r m log n (suc q) o has = elim (Contains-append_cases (by_seat r m log n q) (numbered m n q 0 (r.owed (take (suc n) log) q)) o has) [
  | inl a ↦ let z = by_seat-ok r m log n q o a in (z.0, z.1, (let h = z.2 in omega (arith, h)), z.3)
  | inr b ↦
      let z = numbered-ok m n q 0 (r.owed (take (suc n) log) q) o b in
      let at : o.number ≡ z.3 = (let a = z.4 in omega (arith, a)) in
      (z.0, z.1, (let h = z.2 in omega (arith, h)), subst (λ (s : ℕ). slice_get (r.owed (take (suc n) log) s) o.number ≡ Some o.bytes) (sym z.2) (ap (slice_get (r.owed (take (suc n) log) q)) at ∙ z.5))
]

-- an output of the entries from this one on, below n
abbrev pub SentIn : Rules → ℕ → Option ℤ → Log → ℕ → ℕ → Output → Type 0
SentIn r m role log from n o =
    (o.member ≡ m) × (from ≤ o.entry) × (o.entry < n) × (x : Entry) × (slice_get log o.entry ≡ Some x) × (of_term role x.term ≡ true)
    × (slice_get (r.owed (take (suc o.entry) log) o.seat) o.number ≡ Some o.bytes)

sent_at-ok : (r : Rules) (m : ℕ) (role : Option ℤ) (log : Log) (from n : ℕ) (x : Option Entry) (o : Output) → slice_get log n ≡ x → from ≤ n → Contains (sent_at r m role log n x) o → SentIn r m role log from (suc n) o
sent_at-ok r m role log from n None o e le has = absurd (none_in o has)
sent_at-ok r m role log from n (Some x) o e le has =
    if-cases (λ l. Contains l o → SentIn r m role log from (suc n) o) (of_term role x.term) (by_seat r m log n (suc r.services)) []
    (λ b h.
    let z = by_seat-ok r m log n (suc r.services) o h in
    let at = z.1 in
    (z.0, (omega (arith, at, le)), (omega (arith, at)), x, ap (slice_get log) at ∙ e, b, ap (λ (i : ℕ). slice_get (r.owed (take (suc i) log) o.seat) o.number) at ∙ z.3))
    (λ b h. absurd (none_in o h)) has

pub sent_in-ok : (r : Rules) (m : ℕ) (role : Option ℤ) (log : Log) (from n : ℕ) (o : Output) → Contains (sent_in r m role log from n) o → SentIn r m role log from n o
sent_in-ok r m role log from zero o has = absurd (none_in o has)
sent_in-ok r m role log from (suc n) o has = elim (Contains-append_cases (sent_in r m role log from n) (if nat_le from n then sent_at r m role log n (slice_get log n) else []) o has) [
  | inl a ↦ let z = sent_in-ok r m role log from n o a in (z.0, z.1, (let h = z.2 in omega (arith, h)), z.3, z.4, z.5, z.6)
  | inr b ↦ if-cases (λ l. Contains l o → SentIn r m role log from (suc n) o) (nat_le from n) (sent_at r m role log n (slice_get log n)) []
      (λ t h. sent_at-ok r m role log from n (slice_get log n) o refl (grind (arith, nat_tests, t)) h) (λ t h. absurd (none_in o h)) b
]

-- the entry of what is sent at an entry
at-entry : (r : Rules) (m : ℕ) (role : Option ℤ) (log : Log) (from n : ℕ) (o : Output) → Contains (if nat_le from n then sent_at r m role log n (slice_get log n) else []) o → o.entry ≡ n
at-entry r m role log from n o has =
    if-cases (λ l. Contains l o → o.entry ≡ n) (nat_le from n) (sent_at r m role log n (slice_get log n)) [] (λ t h. of (slice_get log n) h) (λ t h. absurd (none_in o h)) has
  where
    of : (x : Option Entry) → Contains (sent_at r m role log n x) o → o.entry ≡ n
    of None h = absurd (none_in o h)
    of (Some x) h = if-cases (λ l. Contains l o → o.entry ≡ n) (of_term role x.term) (by_seat r m log n (suc r.services)) [] (λ b g. (by_seat-ok r m log n (suc r.services) o g).1) (λ b g. absurd (none_in o g)) h

pub Once-append : (xs ys : List Output) → Once xs → Once ys → ((o o' : Output) → Contains xs o → Contains ys o' → IsSame o o' → ⊥) → Once (xs ++ ys)
Once-append [] ys a b apart = b
Once-append (x ∷ xs) ys a b apart = (
  (λ o' has same. elim (Contains-append_cases xs ys o' has) [ inl h ↦ a.0 o' h same | inr h ↦ apart x o' (cons-here x xs) h same ]),
  Once-append xs ys a.1 b (λ o o' h h' same. apart o o' (cons-later x o xs h) h' same),
)

numbered-once : (m n seat j : ℕ) (bs : List (List ℕ)) → Once (numbered m n seat j bs)
numbered-once m n seat j [] = tt
numbered-once m n seat j (b ∷ bs) = ((λ o' has same. let z = numbered-ok m n seat (suc j) bs o' has in let a = z.4 in let c = same.2 in omega (arith, a, c)), numbered-once m n seat (suc j) bs)

by_seat-once : (r : Rules) (m : ℕ) (log : Log) (n q : ℕ) → Once (by_seat r m log n q)
by_seat-once r m log n zero = tt
by_seat-once r m log n (suc q) = Once-append (by_seat r m log n q) (numbered m n q 0 (r.owed (take (suc n) log) q)) (by_seat-once r m log n q) (numbered-once m n q 0 (r.owed (take (suc n) log) q))
    (λ o o' h h' same. let a = (by_seat-ok r m log n q o h).2 in let b = (numbered-ok m n q 0 (r.owed (take (suc n) log) q) o' h').2 in let c = same.1 in omega (arith, a, b, c))

sent_at-once : (r : Rules) (m : ℕ) (role : Option ℤ) (log : Log) (n : ℕ) (x : Option Entry) → Once (sent_at r m role log n x)
sent_at-once r m role log n None = tt
sent_at-once r m role log n (Some x) = if-cases Once (of_term role x.term) (by_seat r m log n (suc r.services)) [] (λ b. by_seat-once r m log n (suc r.services)) (λ b. tt)

pub sent_in-once : (r : Rules) (m : ℕ) (role : Option ℤ) (log : Log) (from n : ℕ) → Once (sent_in r m role log from n)
sent_in-once r m role log from zero = tt
sent_in-once r m role log from (suc n) =
    Once-append (sent_in r m role log from n) (if nat_le from n then sent_at r m role log n (slice_get log n) else []) (sent_in-once r m role log from n)
    (if-cases Once (nat_le from n) (sent_at r m role log n (slice_get log n)) [] (λ b. sent_at-once r m role log n (slice_get log n)) (λ b. tt))
    (λ o o' h h' same. let a = (sent_in-ok r m role log from n o h).2 in let b = at-entry r m role log from n o' h' in let c = same.0 in omega (arith, a, b, c))

pub of_term-is : (role : Option ℤ) (t : ℤ) → of_term role t ≡ true → role ≡ Some t
of_term-is None t h = absurd (cc)
of_term-is (Some u) t h = ap Some (same_term-is u t h)

pub get-contains : {X : Type 0} (xs : List X) (k : ℕ) (x : X) → slice_get xs k ≡ Some x → Contains xs x
get-contains [] k x e = absurd (cc)
get-contains (y ∷ ys) zero x e = subst (Contains (y ∷ ys)) (same y x e) (cons-here y ys)
  where
    same : {X : Type 0} (a b : X) → Some a ≡ Some b → a ≡ b
    same a b e = cc
get-contains (y ∷ ys) (suc k) x e = cons-later y x ys (get-contains ys k x e)

output-same : (a b : Output) → Some a ≡ Some b → a ≡ b
output-same a b e = cc

pub once-index : (os : List Output) (i j : ℕ) (o o' : Output) → Once os → slice_get os i ≡ Some o → slice_get os j ≡ Some o' → IsSame o o' → i ≡ j
once-index [] i j o o' u a b same = absurd (cc)
once-index (x ∷ xs) zero zero o o' u a b same = refl
once-index (x ∷ xs) zero (suc j) o o' u a b same = absurd (u.0 o' (get-contains xs j o' b) (subst (λ (z : Output). IsSame z o') (sym (output-same x o a)) same))
once-index (x ∷ xs) (suc i) zero o o' u a b same = absurd (u.0 o (get-contains xs i o a) (subst (λ (z : Output). IsSame z o) (sym (output-same x o' b)) (sym same.0, sym same.1, sym same.2)))
once-index (x ∷ xs) (suc i) (suc j) o o' u a b same = ap suc (once-index xs i j o o' u.1 a b same)

abbrev weigh : Bool → ℕ
weigh b = if b then 1 else 0

-- one action has one number
actions-up : (r : Rules) (xs ys : Log) → Leads xs ys → actions r xs ≤ actions r ys
actions-up r [] ys p = omega arith
actions-up r (x ∷ xs) [] p = absurd p
actions-up r (x ∷ xs) (y ∷ ys) p = (let a = actions-up r xs ys p.1 in let b : weigh (r.is_action x) ≡ weigh (r.is_action y) = ap (λ (z : Entry). weigh (r.is_action z)) p.0 in omega (arith, a, b))

pub actions-below : (r : Rules) (log : Log) (k k' : ℕ) (x : Entry) → slice_get log k ≡ Some x → r.is_action x ≡ true → k < k' → actions r (take k log) < actions r (take k' log)
actions-below r log k zero x e act h = absurd (omega (arith, h))
actions-below r [] k (suc k') x e act h = absurd (cc)
actions-below r (y ∷ ys) zero (suc k') x e act h =
    let one : weigh (r.is_action y) ≡ 1 = ap weigh (ap r.is_action (entry-same y x e) ∙ act) in
    omega (arith, one)
  where
    entry-same : (a b : Entry) → Some a ≡ Some b → a ≡ b
    entry-same a b e = cc
actions-below r (y ∷ ys) (suc k) (suc k') x e act h = (let a = actions-below r ys k k' x e act (omega (arith, h)) in omega (arith, a))
