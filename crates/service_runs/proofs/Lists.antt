-- Prefixes, and what lists contain.
use Rattle.std.proofs.Common.{◌≡◌, ◌⊎◌, inl, inr, ℕ, zero, suc, ◌<◌, ◌≤◌, List, [], ◌∷◌, ◌++◌, length, take, drop, set, replicate, refl, sym, ap, ◌∙◌, subst, arith, Some, length-append, ℤ}
use Rattle.std.specs.Prelude.{Contains, slice_get, slice_index_or}
use Rattle.cl_base.specs.declared.entry.Entry.{Entry}
use Rattle.entry_log.specs.Log.{Log, last_from}
use Rattle.log_replication.specs.Prefixes.{Leads}
use Rattle.agreement.proofs.Commits.{take-leads}
use Rattle.agreement.proofs.Snaps2.{cons-cases, cons-later, cons-here}
use Rattle.service_runs.specs.Hosts.{pushed}
use Rattle.consensus_core.specs.Member.{with_next}
use Rattle.world.proofs.Effects.{none_in}

pub front-get : (k j : ℕ) (xs ys : Log) → k < j → Leads (take j xs) ys → j ≤ length xs → slice_get ys k ≡ slice_get xs k
front-get k zero xs ys lt p h = absurd (omega (arith, lt))
front-get k (suc j) [] ys lt p h = absurd (omega (arith, h))
front-get k (suc j) (x ∷ xs) [] lt p h = absurd p
front-get zero (suc j) (x ∷ xs) (y ∷ ys) lt p h = ap Some (sym p.0)
front-get (suc k) (suc j) (x ∷ xs) (y ∷ ys) lt p h = front-get k j xs ys (omega (arith, lt)) p.1 (omega (arith, h))

pub front-take : (k j : ℕ) (xs ys : Log) → k ≤ j → Leads (take j xs) ys → j ≤ length xs → take k ys ≡ take k xs
front-take zero j xs ys lt p h = refl
front-take (suc k) zero xs ys lt p h = absurd (omega (arith, lt))
front-take (suc k) (suc j) [] ys lt p h = absurd (omega (arith, h))
front-take (suc k) (suc j) (x ∷ xs) [] lt p h = absurd p
front-take (suc k) (suc j) (x ∷ xs) (y ∷ ys) lt p h = (λ i. sym p.0 i ∷ front-take k j xs ys (omega (arith, lt)) p.1 (omega (arith, h)) i)

pub lead-get : (k : ℕ) (xs ys : Log) → Leads xs ys → k < length xs → slice_get ys k ≡ slice_get xs k
lead-get k [] ys p h = absurd (omega (arith, h))
lead-get k (x ∷ xs) [] p h = absurd p
lead-get zero (x ∷ xs) (y ∷ ys) p h = ap Some (sym p.0)
lead-get (suc k) (x ∷ xs) (y ∷ ys) p h = lead-get k xs ys p.1 (omega (arith, h))

pub Leads-by_length : (xs ys zs : Log) → Leads xs zs → Leads ys zs → length xs ≤ length ys → Leads xs ys
Leads-by_length [] ys zs p q h = tt
Leads-by_length (x ∷ xs) [] zs p q h = absurd (omega (arith, h))
Leads-by_length (x ∷ xs) (y ∷ ys) [] p q h = absurd p
Leads-by_length (x ∷ xs) (y ∷ ys) (z ∷ zs) p q h = (p.0 ∙ sym q.0, Leads-by_length xs ys zs p.1 q.1 (omega (arith, h)))

pub leads-take-up : (xs ys : Log) (k : ℕ) → Leads xs ys → length xs ≤ k → Leads xs (take k ys)
leads-take-up [] ys k p h = tt
leads-take-up (x ∷ xs) ys zero p h = absurd (omega (arith, h))
leads-take-up (x ∷ xs) [] (suc k) p h = absurd p
leads-take-up (x ∷ xs) (y ∷ ys) (suc k) p h = (p.0, leads-take-up xs ys k p.1 (omega (arith, h)))

pub take-take-up : (k j : ℕ) (log : Log) → k ≤ j → Leads (take k log) (take j log)
take-take-up zero j log h = tt
take-take-up (suc k) zero log h = absurd (omega (arith, h))
take-take-up (suc k) (suc j) [] h = tt
take-take-up (suc k) (suc j) (x ∷ xs) h = (refl, take-take-up k j xs (omega (arith, h)))

pub empty-leads : (xs ys : Log) → length xs ≤ 0 → Leads xs ys
empty-leads [] ys h = tt
empty-leads (x ∷ xs) ys h = absurd (omega (arith, h))

entry-same : (x y : Entry) → Some x ≡ Some y → x ≡ y
entry-same x y e = cc

pub take-snoc : (k : ℕ) (x : Entry) (xs : Log) → slice_get xs k ≡ Some x → take (suc k) xs ≡ take k xs ++ x ∷ []
take-snoc k x [] e = absurd (cc)
take-snoc zero x (y ∷ ys) e = (λ i. entry-same y x e i ∷ [])
take-snoc (suc k) x (y ∷ ys) e = ap (λ z. y ∷ z) (take-snoc k x ys e)

pub take-length : (k : ℕ) (xs : Log) → k ≤ length xs → length (take k xs) ≡ k
take-length zero xs h = refl
take-length (suc k) [] h = absurd (omega (arith, h))
take-length (suc k) (x ∷ xs) h = ap suc (take-length k xs (omega (arith, h)))

pub take-short : (k : ℕ) (xs : Log) → length (take k xs) ≤ k
take-short zero xs = omega arith
take-short (suc k) [] = omega arith
take-short (suc k) (x ∷ xs) = (let h = take-short k xs in omega (arith, h))

pub with_next-leads : (xs log : Log) → Leads xs log → Leads (with_next xs log) log
with_next-leads [] log p = take-leads 1 log
with_next-leads (x ∷ xs) [] p = absurd p
with_next-leads (x ∷ xs) (y ∷ ys) p = (p.0, with_next-leads xs ys p.1)

pub with_next-length : (xs log : Log) → length (with_next xs log) ≤ suc (length xs)
with_next-length xs log = (let a = length-append xs (take 1 (drop (length xs) log)) in let b = take-short 1 (drop (length xs) log) in omega (arith, a, b))

pub set-contains : {X : Type 0} (xs : List X) (k : ℕ) (y z : X) → Contains (set xs k y) z → Contains xs z ⊎ (y ≡ z)
set-contains [] k y z has = inl has
set-contains (x ∷ xs) zero y z has = elim (cons-cases y z xs has) [ inl e ↦ inr e | inr h ↦ inl (cons-later x z xs h) ]
set-contains (x ∷ xs) (suc k) y z has = elim (cons-cases x z (set xs k y) has) [
  | inl e ↦ inl (subst (Contains (x ∷ xs)) e (cons-here x xs))
  | inr h ↦ elim (set-contains xs k y z h) [ inl a ↦ inl (cons-later x z xs a) | inr e ↦ inr e ]
]

pub replicate-contains : {X : Type 0} (n : ℕ) (y z : X) → Contains (replicate n y) z → y ≡ z
replicate-contains zero y z has = absurd (none_in z has)
replicate-contains (suc n) y z has = elim (cons-cases y z (replicate n y) has) [ inl e ↦ e | inr h ↦ replicate-contains n y z h ]

pub index-has : {X : Type 0} (P : X → Type 0) (xs : List X) (k : ℕ) (d : X) → P d → ((z : X) → Contains xs z → P z) → P (slice_index_or xs k d)
index-has P [] k d none all = none
index-has P (x ∷ xs) zero d none all = all x (cons-here x xs)
index-has P (x ∷ xs) (suc k) d none all = index-has P xs k d none (λ z h. all z (cons-later x z xs h))

pub last-of_snoc : (u : ℤ) (xs : Log) (x : Entry) → last_from u (xs ++ x ∷ []) ≡ x.term
last-of_snoc u [] x = refl
last-of_snoc u (y ∷ ys) x = last-of_snoc y.term ys x

pub pushed-leads : (n : ℕ) (xs log : Log) → Leads xs log → Leads (pushed n xs log) log
pushed-leads n [] log p = take-leads n log
pushed-leads n (x ∷ xs) [] p = absurd p
pushed-leads n (x ∷ xs) (y ∷ ys) p = (p.0, pushed-leads n xs ys p.1)

-- of what leads the log up to there, the next entry is the log's
pub next-same : (p : ℕ) (xs fed log : Log) → Leads xs log → Leads (take p fed) log → length xs < p → p ≤ length fed → with_next xs fed ≡ with_next xs log
next-same zero xs fed log lead front h le = absurd (omega (arith, h))
next-same (suc p) xs [] log lead front h le = absurd (omega (arith, le))
next-same (suc p) xs (y ∷ ys) [] lead front h le = absurd front
next-same (suc p) [] (y ∷ ys) (z ∷ zs) lead front h le = (λ i. front.0 i ∷ [])
next-same (suc p) (x ∷ xs) (y ∷ ys) (z ∷ zs) lead front h le = ap (λ l. x ∷ l) (next-same p xs ys zs lead.1 front.1 (omega (arith, h)) (omega (arith, le)))
