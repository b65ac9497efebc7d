-- Snapshot entries that are stored: their sets on both sides.
use Rattle.std.proofs.Common.{◌≡◌, ◌≢◌, ◌⊎◌, inl, inr, ℕ, zero, suc, ◌<◌, Bool, true, false, ◌&&◌, ◌||◌, List, [], ◌∷◌, refl, sym, ap, ◌∙◌, subst, arith, ℤ, pos, negsuc, Some}
use Rattle.std.specs.Prelude.{Contains, nat_eq, slice_get}
use Rattle.std.specs.List.{list_any}
use Rattle.std.proofs.lemmas.Int.{ints}
use Rattle.std.proofs.lemmas.Bool.{cases_eq, cond-true, cond-false}
use Rattle.std.proofs.lemmas.Bool.Decides.{nat_tests}
use Rattle.cl_base.specs.Disk.{FileState}
use Rattle.entry_log.specs.Durable.{SnapshotEntry, is_entry_of, have_services, has_set}
use Rattle.entry_log.specs.Log.{same_term}
use Rattle.recording_log.specs.declared.entry.RecEntry.{RecEntry}
use Rattle.recording_log.specs.Sets.{HasPart, HasSet, IsPart}
use Rattle.recording_log.specs.Valid.{is_snapshot}
use Rattle.member_disk.specs.CutWell.{snapshots_of}
use Rattle.service_phases.specs.Pairs.{Each2}
use Rattle.world.proofs.Effects.{none_in}
use Rattle.world.proofs.Rows.{and_true}
use Rattle.agreement.proofs.Snaps2.{cons-cases, cons-here, cons-later, same_term-is}
use Rattle.run_orders.specs.Kept.{IsStored}

-- ---- the first entry, a snapshot's or none

pub record First (files : ℕ → FileState) (x : RecEntry) (xs : List RecEntry) (snaps : List SnapshotEntry) : Type 0 where
  pub snapshot : is_snapshot x ≡ true
  pub first : SnapshotEntry
  pub rest : List SnapshotEntry
  pub is : snaps ≡ first ∷ rest
  pub stored : IsStored files x first
  pub others : Each2 (IsStored files) (snapshots_of xs) rest

pub record Other (files : ℕ → FileState) (x : RecEntry) (xs : List RecEntry) (snaps : List SnapshotEntry) : Type 0 where
  pub none : is_snapshot x ≡ false
  pub others : Each2 (IsStored files) (snapshots_of xs) snaps

pub first-or-other : (files : ℕ → FileState) (x : RecEntry) (xs : List RecEntry) (snaps : List SnapshotEntry) → Each2 (IsStored files) (snapshots_of (x ∷ xs)) snaps → First files x xs snaps ⊎ Other files x xs snaps
first-or-other files x xs snaps each = by (is_snapshot x) refl
  where
    split : (e : is_snapshot x ≡ true) (ss : List SnapshotEntry) → Each2 (IsStored files) (x ∷ snapshots_of xs) ss → First files x xs ss
    split e [] all = absurd all
    split e (s ∷ ss) all = record { snapshot = e; first = s; rest = ss; is = refl; stored = all.0; others = all.1 }

    by : (b : Bool) → is_snapshot x ≡ b → First files x xs snaps ⊎ Other files x xs snaps
    by true e = inl (split e snaps (subst (λ (es : List RecEntry). Each2 (IsStored files) es snaps) (cond-true (is_snapshot x) (x ∷ snapshots_of xs) (snapshots_of xs) e) each))
    by false e = inr (record { none = e; others = subst (λ (es : List RecEntry). Each2 (IsStored files) es snaps) (cond-false (is_snapshot x) (x ∷ snapshots_of xs) (snapshots_of xs) e) each })

-- ---- one entry

same_term-self : (z : ℤ) → same_term z z ≡ true
same_term-self z = by (same_term z z) refl
  where
    by : (b : Bool) → same_term z z ≡ b → b ≡ true
    by true e = refl
    by false e = absurd (grind (arith, ints, e))

nat_eq-self : (n : ℕ) → nat_eq n n ≡ true
nat_eq-self n = grind (arith, nat_tests)

both-true : (a b c : Bool) → a ≡ true → b ≡ true → c ≡ true → (a && (b && c)) ≡ true
both-true true true true a b c = refl
both-true true true false a b c = absurd (cc)
both-true true false c a b d = absurd (cc)
both-true false b c a d e = absurd (cc)

pub record Named (k t : ℤ) (p : ℕ) (s : SnapshotEntry) : Type 0 where
  pub service : s.service ≡ k
  pub term : s.term ≡ t
  pub position : s.position ≡ p

pub names-it : (service term : ℤ) (position : ℕ) (s : SnapshotEntry) → is_entry_of service term position s ≡ true → Named service term position s
names-it service term position s h =
    let p = and_true (same_term s.service service) (same_term s.term term && nat_eq s.position position) h in
    let q = and_true (same_term s.term term) (nat_eq s.position position) p.1 in
    record { service = same_term-is s.service service p.0; term = same_term-is s.term term q.0; position = (let u = q.1 in grind (arith, nat_tests, u)) }

pub is-named : (service term : ℤ) (position : ℕ) (s : SnapshotEntry) → Named service term position s → is_entry_of service term position s ≡ true
is-named service term position s n =
    both-true (same_term s.service service) (same_term s.term term) (nat_eq s.position position)
    (subst (λ (z : ℤ). same_term s.service z ≡ true) n.service (same_term-self s.service))
    (subst (λ (z : ℤ). same_term s.term z ≡ true) n.term (same_term-self s.term))
    (subst (λ (z : ℕ). nat_eq s.position z ≡ true) n.position (nat_eq-self s.position))

pos-same : (a b : ℕ) → pos a ≡ pos b → a ≡ b
pos-same a b e = omega (arith, ints, e)

module _ (files : ℕ → FileState) where
  pub part-named : (service term : ℤ) (position : ℕ) (x : RecEntry) (s : SnapshotEntry) → IsStored files x s → is_snapshot x ≡ true → is_entry_of service term position s ≡ true → IsPart term (pos position) service x
  part-named service term position x s is snapshot h =
      let n = names-it service term position s h in
      (snapshot, is.term ∙ n.term, is.position ∙ ap pos n.position, is.service ∙ n.service)

  pub named-part : (service term : ℤ) (position : ℕ) (x : RecEntry) (s : SnapshotEntry) → IsStored files x s → IsPart term (pos position) service x → is_entry_of service term position s ≡ true
  named-part service term position x s is part =
      is-named service term position s
      (record { service = sym is.service ∙ part.3; term = sym is.term ∙ part.1; position = pos-same s.position position (sym is.position ∙ part.2) })

  -- ---- parts of sets

  pub part-of : (entries : List RecEntry) (snaps : List SnapshotEntry) (service term : ℤ) (position : ℕ) → Each2 (IsStored files) (snapshots_of entries) snaps
      → list_any (is_entry_of service term position) snaps ≡ true → HasPart entries term (pos position) service
  part-of [] [] service term position each any = absurd (cc)
  part-of [] (s ∷ ss) service term position each any = absurd each
  part-of (x ∷ xs) snaps service term position each any = elim (first-or-other files x xs snaps each) [
    | inr other ↦ let p = part-of xs snaps service term position other.others any in record { index = suc p.index; entry = p.entry; at = p.at; part = p.part }
    | inl f ↦ by f (part-of xs f.rest service term position f.others) (is_entry_of service term position f.first) refl (subst (λ (l : List SnapshotEntry). list_any (is_entry_of service term position) l ≡ true) f.is any)
  ]
    where
      or-right : (a b : Bool) → a ≡ false → (a || b) ≡ true → b ≡ true
      or-right false b p q = q
      or-right true b p q = absurd (cc)

      by : (f : First files x xs snaps) → (list_any (is_entry_of service term position) f.rest ≡ true → HasPart xs term (pos position) service) → (b : Bool) → is_entry_of service term position f.first ≡ b
          → list_any (is_entry_of service term position) (f.first ∷ f.rest) ≡ true → HasPart (x ∷ xs) term (pos position) service
      by f more true e h = record { index = 0; entry = x; at = refl; part = part-named service term position x f.first f.stored f.snapshot e }
      by f more false e h =
          let p = more (or-right (is_entry_of service term position f.first) (list_any (is_entry_of service term position) f.rest) e h) in
          record { index = suc p.index; entry = p.entry; at = p.at; part = p.part }

  -- the entry that is that part
  pub record Found (term : ℤ) (position : ℕ) (service : ℤ) (snaps : List SnapshotEntry) : Type 0 where
    pub entry : SnapshotEntry
    pub has : Contains snaps entry
    pub test : is_entry_of service term position entry ≡ true

  some-same : (a b : RecEntry) → Some a ≡ Some b → a ≡ b
  some-same a b is = cc

  pub found : (entries : List RecEntry) (snaps : List SnapshotEntry) (service term : ℤ) (position : ℕ) (i : ℕ) (e : RecEntry) → Each2 (IsStored files) (snapshots_of entries) snaps
      → slice_get entries i ≡ Some e → IsPart term (pos position) service e → Found term position service snaps
  found [] snaps service term position i e each at part = absurd (cc)
  found (x ∷ xs) snaps service term position zero e each at part = elim (first-or-other files x xs snaps each) [
    | inr other ↦ absurd (differ (sym other.none ∙ ap is_snapshot (some-same x e at) ∙ part.0))
    | inl f ↦
        record {
          entry = f.first;
          has = subst (λ (l : List SnapshotEntry). Contains l f.first) (sym f.is) (cons-here f.first f.rest);
          test = named-part service term position x f.first f.stored (subst (IsPart term (pos position) service) (sym (some-same x e at)) part);
        }
  ]
    where
      differ : false ≡ true → ⊥
      differ is = cc
  found (x ∷ xs) snaps service term position (suc i) e each at part = elim (first-or-other files x xs snaps each) [
    | inr other ↦ found xs snaps service term position i e other.others at part
    | inl f ↦
        let more = found xs f.rest service term position i e f.others at part in
        record { entry = more.entry; has = subst (λ (l : List SnapshotEntry). Contains l more.entry) (sym f.is) (cons-later f.first more.entry f.rest more.has); test = more.test }
  ]

  or-both : (a b : Bool) → (a ≡ true) ⊎ (b ≡ true) → (a || b) ≡ true
  or-both true b h = refl
  or-both false b (inl e) = absurd (cc)
  or-both false b (inr e) = e

  pub any-has : (test : SnapshotEntry → Bool) (snaps : List SnapshotEntry) (s : SnapshotEntry) → Contains snaps s → test s ≡ true → list_any test snaps ≡ true
  any-has test [] s has is = absurd (none_in s has)
  any-has test (x ∷ xs) s has is = or-both (test x) (list_any test xs) (elim (cons-cases x s xs has) [
    | inl e ↦ inl (ap test e ∙ is)
    | inr k ↦ inr (any-has test xs s k is)
  ])

  pub any-of : (entries : List RecEntry) (snaps : List SnapshotEntry) (service term : ℤ) (position : ℕ) → Each2 (IsStored files) (snapshots_of entries) snaps
      → HasPart entries term (pos position) service → list_any (is_entry_of service term position) snaps ≡ true
  any-of entries snaps service term position each p =
      let f = found entries snaps service term position p.index p.entry each p.at p.part in
      any-has (is_entry_of service term position) snaps f.entry f.has f.test

  -- ---- whole sets

  module _ (entries : List RecEntry) (snaps : List SnapshotEntry) (each : Each2 (IsStored files) (snapshots_of entries) snaps) (term : ℤ) (position : ℕ) where
    seats-of : (services : ℕ) → ((s : ℕ) → s < services → HasPart entries term (pos position) (pos s)) → have_services services term position snaps ≡ true
    seats-of zero all = refl
    seats-of (suc n) all =
        both (list_any (is_entry_of (pos n) term position) snaps) (have_services n term position snaps)
        (any-of entries snaps (pos n) term position each (all n (omega arith)))
        (seats-of n (λ s low. all s (omega (arith, low))))
      where
        both : (a b : Bool) → a ≡ true → b ≡ true → (a && b) ≡ true
        both true true a b = refl
        both true false a b = absurd (cc)
        both false b a c = absurd (cc)

    pub set-whole : (services : ℕ) → HasSet services entries term (pos position) → has_set services snaps term position ≡ true
    set-whole services set =
        both (list_any (is_entry_of (negsuc 0) term position) snaps) (have_services services term position snaps)
        (any-of entries snaps (negsuc 0) term position each set.of_module) (seats-of services set.each)
      where
        both : (a b : Bool) → a ≡ true → b ≡ true → (a && b) ≡ true
        both true true a b = refl
        both true false a b = absurd (cc)
        both false b a c = absurd (cc)

    seat-there : (services : ℕ) → have_services services term position snaps ≡ true → (s : ℕ) → s < services → HasPart entries term (pos position) (pos s)
    seat-there zero all s low = absurd (omega (arith, low))
    seat-there (suc n) all s low =
        let p = and_true (list_any (is_entry_of (pos n) term position) snaps) (have_services n term position snaps) all in
        elim (cases_eq s n) [
          | inl e ↦ subst (λ (k : ℕ). HasPart entries term (pos position) (pos k)) (sym e) (part-of entries snaps (pos n) term position each p.0)
          | inr ne ↦ seat-there n p.1 s (less s n low ne)
        ]
      where
        less : (s n : ℕ) → s < suc n → s ≢ n → s < n
        less s n a b = grind arith

    pub whole-set : (services : ℕ) → has_set services snaps term position ≡ true → HasSet services entries term (pos position)
    whole-set services h =
        let p = and_true (list_any (is_entry_of (negsuc 0) term position) snaps) (have_services services term position snaps) h in
        record { of_module = part-of entries snaps (negsuc 0) term position each p.0; each = seat-there services p.1 }
