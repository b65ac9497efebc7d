-- The latest set's module entry is struck, on both sides.
use Rattle.std.proofs.Common.{◌≡◌, ◌⊎◌, inl, inr, ℕ, zero, suc, ◌<◌, Bool, true, false, ◌&&◌, ◌||◌, not, List, [], ◌∷◌, refl, sym, ap, ◌∙◌, subst, arith, ℤ, pos, Some, None, Option, if◌then◌else◌}
use Rattle.std.specs.Prelude.{◌≤ℤ◌, slice_get, slice_set}
use Rattle.std.specs.List.{list_any}
use Rattle.std.proofs.lemmas.Int.{ints}
use Rattle.std.proofs.lemmas.Bool.{cond-true, cond-false}
use Rattle.std.proofs.lemmas.Bool.Decides.{nat_tests}
use Rattle.cl_base.specs.Disk.{FileState}
use Rattle.entry_log.specs.Durable.{SnapshotEntry, SnapshotSet, invalidated, is_entry_of, is_later, has_set, latest_set, without_last, without_set}
use Rattle.recording_log.specs.declared.entry.RecEntry.{RecEntry}
use Rattle.recording_log.specs.Listed.{IsLastPart}
use Rattle.recording_log.specs.Sets.{HasNoSet, HasSet, IsLatest, IsPart, IsUpTo, struck, struck_kind, the_module}
use Rattle.recording_log.specs.Valid.{is_snapshot}
use Rattle.member_disk.specs.CutWell.{snapshots_of}
use Rattle.service_phases.specs.Pairs.{Each2}
use Rattle.run_orders.specs.Kept.{IsStored}
use Rattle.member_starts.proofs.Latest.{latest-is, latest-last, latest-whole, no-latest, set_of}
use Rattle.member_starts.proofs.Stored.{First, first-or-other, any-of, found, named-part, names-it, part-named, part-of, set-whole, whole-set}

module _ (files : ℕ → FileState) where
  -- without a set nothing goes
  pub none-invalid : (services : ℕ) (entries : List RecEntry) (snaps : List SnapshotEntry) → Each2 (IsStored files) (snapshots_of entries) snaps → HasNoSet services entries → invalidated services snaps ≡ snaps
  none-invalid services entries snaps each none = by (latest_set services snaps) refl
    where
      by : (o : Option SnapshotSet) → latest_set services snaps ≡ o → without_set o snaps ≡ snaps
      by None e = refl
      by (Some b) e = absurd (none b.term (pos b.position) (whole-set files entries snaps each b.term b.position services (latest-whole services snaps b e)))

  -- ---- the latest set

  upto-later : (t u : ℤ) (p q : ℕ) (e : RecEntry) → e.position ≡ pos q → e.term ≡ u → IsUpTo t (pos p) e → is_later (record { position = p; term = t }) (record { position = q; term = u }) ≡ false
  upto-later t u p q e at in' up = by (is_later (record { position = p; term = t }) (record { position = q; term = u })) refl
    where
      first : pos p ≤ℤ pos q
      first = subst (λ (z : ℤ). pos p ≤ℤ z) at up.0

      then' : p ≡ q → t ≤ℤ u
      then' same = subst (λ (z : ℤ). t ≤ℤ z) in' (up.1 (ap pos same ∙ sym at))

      by : (b : Bool) → is_later (record { position = p; term = t }) (record { position = q; term = u }) ≡ b → b ≡ false
      by false e = refl
      by true e = absurd (grind (arith, ints, nat_tests, e, first, then'))

  -- ---- the strike

  some-same : (a b : RecEntry) → Some a ≡ Some b → a ≡ b
  some-same a b is = cc

  differ : false ≡ true → ⊥
  differ is = cc

  abbrev gone : RecEntry → RecEntry
  gone e = record e { kind = struck_kind }

  by-test : (test : SnapshotEntry → Bool) (s : SnapshotEntry) (ss : List SnapshotEntry) → test s ≡ true → list_any test ss ≡ false → without_last test (s ∷ ss) ≡ ss
  by-test test s ss here later = ap (λ (b : Bool). if b then ss else s ∷ without_last test ss) (both (test s) (list_any test ss) here later)
    where
      both : (a b : Bool) → a ≡ true → b ≡ false → (a && not b) ≡ true
      both true false a b = refl
      both true true a b = absurd (cc)
      both false b a c = absurd (cc)

  by-later : (test : SnapshotEntry → Bool) (s : SnapshotEntry) (ss : List SnapshotEntry) → list_any test ss ≡ true → without_last test (s ∷ ss) ≡ s ∷ without_last test ss
  by-later test s ss later = ap (λ (b : Bool). if b then ss else s ∷ without_last test ss) (none (test s) (list_any test ss) later)
    where
      none : (a b : Bool) → b ≡ true → (a && not b) ≡ false
      none true true b = refl
      none false true b = refl
      none true false b = absurd (cc)
      none false false b = absurd (cc)

  module _ (term : ℤ) (p : ℕ) where
    abbrev test : SnapshotEntry → Bool
    test s = is_entry_of the_module term p s

    abbrev IsIt : RecEntry → Type 0
    IsIt d = IsPart term (pos p) the_module d

    pub strike-stored : (entries : List RecEntry) (i : ℕ) (e : RecEntry) (snaps : List SnapshotEntry) → slice_get entries i ≡ Some e → IsIt e → ((j : ℕ) (d : RecEntry) → i < j → slice_get entries j ≡ Some d → IsIt d → ⊥)
        → Each2 (IsStored files) (snapshots_of entries) snaps → Each2 (IsStored files) (snapshots_of (slice_set entries i (gone e))) (without_last test snaps)
    strike-stored [] i e snaps at part last each = absurd (cc)
    strike-stored (x ∷ xs) zero e snaps at part last each = elim (first-or-other files x xs snaps each) [
      | inr other ↦ absurd (differ (sym other.none ∙ ap is_snapshot (some-same x e at) ∙ part.0))
      | inl f ↦
          let here : test f.first ≡ true = named-part files the_module term p x f.first f.stored (subst IsIt (sym (some-same x e at)) part) in
          let no-more : list_any test f.rest ≡ false = none (list_any test f.rest) refl (λ any. let q = part-of files xs f.rest the_module term p f.others any in last (suc q.index) q.entry (omega arith) q.at q.part) in
          subst (λ (l : List SnapshotEntry). Each2 (IsStored files) (snapshots_of xs) (without_last test l)) (sym f.is)
          (subst (λ (l : List SnapshotEntry). Each2 (IsStored files) (snapshots_of xs) l) (sym (by-test test f.first f.rest here no-more)) f.others)
    ]
      where
        none : (b : Bool) → b ≡ b → (b ≡ true → ⊥) → b ≡ false
        none true is never = absurd (never refl)
        none false is never = refl
    strike-stored (x ∷ xs) (suc k) e snaps at part last each = elim (first-or-other files x xs snaps each) [
      | inr other ↦
          subst (λ (l : List RecEntry). Each2 (IsStored files) l (without_last test snaps)) (sym (cond-false (is_snapshot x) (x ∷ snapshots_of (slice_set xs k (gone e))) (snapshots_of (slice_set xs k (gone e))) other.none))
          (strike-stored xs k e snaps at part (λ j d low there is. last (suc j) d (omega (arith, low)) there is) other.others)
      | inl f ↦
          let later : list_any test f.rest ≡ true = any-of files xs f.rest the_module term p f.others (record { index = k; entry = e; at = at; part = part }) in
          subst (λ (l : List RecEntry). Each2 (IsStored files) l (without_last test snaps)) (sym (cond-true (is_snapshot x) (x ∷ snapshots_of (slice_set xs k (gone e))) (snapshots_of (slice_set xs k (gone e))) f.snapshot))
          (subst (λ (l : List SnapshotEntry). Each2 (IsStored files) (x ∷ snapshots_of (slice_set xs k (gone e))) (without_last test l)) (sym f.is)
          (subst (λ (l : List SnapshotEntry). Each2 (IsStored files) (x ∷ snapshots_of (slice_set xs k (gone e))) l) (sym (by-later test f.first f.rest later))
          (f.stored, strike-stored xs k e f.rest at part (λ j d low there is. last (suc j) d (omega (arith, low)) there is) f.others)))
    ]

  -- a snapshot's entry is stored
  stored-at : (entries : List RecEntry) (snaps : List SnapshotEntry) (i : ℕ) (e : RecEntry) → Each2 (IsStored files) (snapshots_of entries) snaps → slice_get entries i ≡ Some e → is_snapshot e ≡ true → (s : SnapshotEntry) × IsStored files e s
  stored-at [] snaps i e each at is = absurd (cc)
  stored-at (x ∷ xs) snaps zero e each at is = elim (first-or-other files x xs snaps each) [
    | inr other ↦ absurd (differ (sym other.none ∙ ap is_snapshot (some-same x e at) ∙ is))
    | inl f ↦ (f.first, subst (λ (y : RecEntry). IsStored files y f.first) (some-same x e at) f.stored)
  ]
  stored-at (x ∷ xs) snaps (suc i) e each at is = elim (first-or-other files x xs snaps each) [
    | inr other ↦ stored-at xs snaps i e other.others at is
    | inl f ↦ stored-at xs f.rest i e f.others at is
  ]

  -- ---- the last part of a set

  last-part : (entries : List RecEntry) (snaps : List SnapshotEntry) (service term : ℤ) (p : ℕ) → Each2 (IsStored files) (snapshots_of entries) snaps → list_any (is_entry_of service term p) snaps ≡ true
      → (e : RecEntry) × IsLastPart entries term (pos p) service e
  last-part [] [] service term p each any = absurd (cc)
  last-part [] (s ∷ ss) service term p each any = absurd each
  last-part (x ∷ xs) snaps service term p each any = elim (first-or-other files x xs snaps each) [
    | inr other ↦ let q = last-part xs snaps service term p other.others any in (q.0, later q.0 q.1)
    | inl f ↦ by f (last-part xs f.rest service term p f.others) (list_any (is_entry_of service term p) f.rest) refl (subst (λ (l : List SnapshotEntry). list_any (is_entry_of service term p) l ≡ true) f.is any)
  ]
    where
      later : (e : RecEntry) → IsLastPart xs term (pos p) service e → IsLastPart (x ∷ xs) term (pos p) service e
      later e q = record { index = suc q.index; at = q.at; part = q.part; last = more }
        where
          more : (j : ℕ) (d : RecEntry) → suc q.index < j → slice_get (x ∷ xs) j ≡ Some d → IsPart term (pos p) service d → ⊥
          more zero d low there is = omega (arith, low)
          more (suc j) d low there is = q.last j d (omega (arith, low)) there is

      or-left : (a b : Bool) → b ≡ false → (a || b) ≡ true → a ≡ true
      or-left true b p q = refl
      or-left false true p q = absurd (cc)
      or-left false false p q = absurd (cc)

      by : (f : First files x xs snaps) → (list_any (is_entry_of service term p) f.rest ≡ true → (e : RecEntry) × IsLastPart xs term (pos p) service e) → (b : Bool) → list_any (is_entry_of service term p) f.rest ≡ b
          → list_any (is_entry_of service term p) (f.first ∷ f.rest) ≡ true → (e : RecEntry) × IsLastPart (x ∷ xs) term (pos p) service e
      by f more true e h = let q = more e in (q.0, later q.0 q.1)
      by f more false e h = (
        x,
        record {
          index = 0;
          at = refl;
          part = part-named files service term p x f.first f.stored f.snapshot (or-left (is_entry_of service term p f.first) (list_any (is_entry_of service term p) f.rest) e h);
          last = behind;
        },
      )
        where
          behind : (j : ℕ) (d : RecEntry) → 0 < j → slice_get (x ∷ xs) j ≡ Some d → IsPart term (pos p) service d → ⊥
          behind zero d low there is = omega (arith, low)
          behind (suc j) d low there is = differ (sym e ∙ any-of files xs f.rest service term p f.others (record { index = j; entry = d; at = there; part = is }))

  later-upto : (t u : ℤ) (p q : ℕ) → is_later (record { position = p; term = t }) (record { position = q; term = u }) ≡ false → (pos p ≤ℤ pos q) × (pos p ≡ pos q → t ≤ℤ u)
  later-upto t u p q no-later = (grind (arith, ints, nat_tests, no-later), λ same. grind (arith, ints, nat_tests, no-later, same))

  -- the module's last entry of the latest set
  latest-there : (services : ℕ) (entries : List RecEntry) (snaps : List SnapshotEntry) (b : SnapshotSet) → Each2 (IsStored files) (snapshots_of entries) snaps → latest_set services snaps ≡ Some b
      → (i : ℕ) × (e : RecEntry) × IsLatest services entries i e
  latest-there services entries snaps b each is =
      let whole = latest-whole services snaps b is in
      let set = whole-set files entries snaps each b.term b.position services whole in
      let any = any-of files entries snaps the_module b.term b.position each set.of_module in
      let l = last-part entries snaps the_module b.term b.position each any in
      let part = l.1.part in (
        l.1.index,
        l.0,
        record {
          at = l.1.at;
          part = (part.0, refl, refl, part.3);
          whole = subst (λ (t : ℤ). HasSet services entries t l.0.position) (sym part.1) (subst (HasSet services entries b.term) (sym part.2) set);
          latest = λ term position other. upto l.0 part.1 part.2 term position other;
          last = λ j d low there it. l.1.last j d low there (it.0, it.1 ∙ part.1, it.2 ∙ part.2, it.3);
        },
      )
    where
      upto : (e : RecEntry) → e.term ≡ b.term → e.position ≡ pos b.position → (term position : ℤ) → HasSet services entries term position → IsUpTo term position e
      upto e in' at term position other =
          let own = other.of_module in
          let s = stored-at entries snaps own.index own.entry each own.at own.part.0 in
          let q = s.0.position in
          let place : position ≡ pos q = sym own.part.2 ∙ s.1.position in
          let f = found files entries snaps the_module term q own.index own.entry each own.at (own.part.0, own.part.1, s.1.position, own.part.3) in
          let n = names-it the_module term q f.entry f.test in
          let whole' : has_set services snaps f.entry.term f.entry.position ≡ true = subst (λ (t : ℤ). has_set services snaps t f.entry.position ≡ true) (sym n.term)
          (subst (λ (p : ℕ). has_set services snaps term p ≡ true) (sym n.position) (set-whole files entries snaps each term q services (subst (HasSet services entries term) place other))) in
          let no-later = latest-last services snaps b is f.entry f.has whole' in
          let u = later-upto f.entry.term b.term f.entry.position b.position no-later in
          let here : position ≡ pos f.entry.position = place ∙ ap pos (sym n.position) in (
            subst (λ (z : ℤ). z ≤ℤ e.position) (sym here) (subst (λ (z : ℤ). pos f.entry.position ≤ℤ z) (sym at) u.0),
            λ same. subst (λ (z : ℤ). term ≤ℤ z) (sym in') (subst (λ (z : ℤ). z ≤ℤ b.term) n.term (u.1 (sym here ∙ same ∙ at))),
          )

  -- there is a latest set, or none
  pub set-or-none : (services : ℕ) (entries : List RecEntry) (snaps : List SnapshotEntry) → Each2 (IsStored files) (snapshots_of entries) snaps → HasNoSet services entries ⊎ ((i : ℕ) × (e : RecEntry) × IsLatest services entries i e)
  set-or-none services entries snaps each = by (latest_set services snaps) refl
    where
      by : (o : Option SnapshotSet) → latest_set services snaps ≡ o → HasNoSet services entries ⊎ ((i : ℕ) × (e : RecEntry) × IsLatest services entries i e)
      by (Some b) e = inr (latest-there services entries snaps b each e)
      by None e = inl (λ term position set.
          let own = set.of_module in
          let s = stored-at entries snaps own.index own.entry each own.at own.part.0 in
          let q = s.0.position in
          let place : position ≡ pos q = sym own.part.2 ∙ s.1.position in
          let f = found files entries snaps the_module term q own.index own.entry each own.at (own.part.0, own.part.1, s.1.position, own.part.3) in
          let n = names-it the_module term q f.entry f.test in
          no-latest services snaps e f.entry f.has (subst (λ (t : ℤ). has_set services snaps t f.entry.position ≡ true) (sym n.term)
          (subst (λ (p : ℕ). has_set services snaps term p ≡ true) (sym n.position) (set-whole files entries snaps each term q services (subst (HasSet services entries term) place set)))))

  module _ (services : ℕ) (entries : List RecEntry) (snaps : List SnapshotEntry) (each : Each2 (IsStored files) (snapshots_of entries) snaps) (i : ℕ) (e : RecEntry) (latest : IsLatest services entries i e) where
    -- the module's entry of it is stored
    module-entry : (p : ℕ) → e.position ≡ pos p → latest_set services snaps ≡ Some (record { position = p; term = e.term })
    module-entry p at =
        let part : IsPart e.term (pos p) the_module e = (latest.part.0, refl, at, latest.part.3) in
        let f = found files entries snaps the_module e.term p i e each latest.at part in
        let n = names-it the_module e.term p f.entry f.test in
        let same : set_of f.entry ≡ record { position = p; term = e.term } = λ j. record { position = n.position j; term = n.term j } in
        subst (λ (b : SnapshotSet). latest_set services snaps ≡ Some b) same
        (latest-is services snaps f.entry f.has
        (subst (λ (b : SnapshotSet). has_set services snaps b.term b.position ≡ true) (sym same)
        (set-whole files entries snaps each e.term p services (subst (HasSet services entries e.term) at latest.whole)))
        (λ b whole. upto-later b.term f.entry.term b.position f.entry.position e (at ∙ ap pos (sym n.position)) (sym n.term)
        (latest.latest b.term (pos b.position) (whole-set files entries snaps each b.term b.position services whole))))

    -- what is kept of the snapshots once it is struck
    pub strike-invalid : Each2 (IsStored files) (snapshots_of (struck i e entries)) (invalidated services snaps)
    strike-invalid =
        let s = stored-at entries snaps i e each latest.at latest.part.0 in
        let p = s.0.position in
        let at : e.position ≡ pos p = s.1.position in
        subst (λ (o : Option SnapshotSet). Each2 (IsStored files) (snapshots_of (struck i e entries)) (without_set o snaps)) (sym (module-entry p at))
        (strike-stored e.term p entries i e snaps latest.at (latest.part.0, refl, at, latest.part.3)
        (λ j d low there is. latest.last j d low there (is.0, is.1, is.2 ∙ sym at, is.3)) each)
