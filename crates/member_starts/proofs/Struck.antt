-- A strike on a stopped member's disk, on both sides.
use Rattle.std.proofs.Common.{◌≡◌, ◌≢◌, inl, inr, ℕ, zero, suc, ◌≤◌, Bool, true, false, List, [], ◌∷◌, length, None, Ok, Err, refl, sym, ap, ◌∙◌, subst, arith}
use Rattle.std.specs.Prelude.{IsTrue, slice_set}
use Rattle.std.proofs.lemmas.Bool.{cond-true, cond-false}
use Rattle.cl_base.specs.Disk.{FileState, DiskState, CrashLeaves, IsImage, IsImageOf, left_by, settled_file}
use Rattle.cl_base.specs.Images.{IsSound}
use Rattle.cl_base.specs.Runs.{EachImage}
use Rattle.cl_base.specs.Torn.{settled_image}
use Rattle.cl_base.specs.declared.disk.Choice.{Choice}
use Rattle.cl_base.specs.declared.disk.Choice.TheVariants.{Keep}
use Rattle.cl_base.specs.declared.fault.MemberFault.{MemberFault}
use Rattle.entry_log.specs.Durable.{Durable, SnapshotEntry, invalidated}
use Rattle.log_segment.specs.Held.{new_terms}
use Rattle.recording_log.specs.declared.entry.RecEntry.{RecEntry}
use Rattle.recording_log.specs.Sets.{HasNoSet, IsLatest, struck_kind}
use Rattle.recording_log.specs.Valid.{is_snapshot}
use Rattle.member_disk.specs.CutWell.{IsDurableOne, snapshots_of}
use Rattle.member_disk.specs.Kept.{Kept, Held, EachStands, IsSettled, Means}
use Rattle.member_disk.specs.Struck.{with_struck}
use Rattle.member_disk.proofs.CutWells.{durable_same, strike_terms}
use Rattle.service_api.specs.declared.shipped.Kind.{Kind}
use Rattle.service_phases.specs.Pairs.{Each, Each2}
use Rattle.consensus_core.specs.Member.{Member, Whole, Before, After, invalidates, stopped}
use Rattle.run_world.specs.Seat.{Seat, failed}
use Rattle.run_orders.specs.Kept.{HasBase, IsStored, IsStateOf, IsMountable}
use Rattle.run_orders.specs.Stands.{EndedSeen, IsDown, IsSeat}
use Rattle.member_rows.proofs.Images.{IsLeft, all-stored-left, all-stored-on, left-image}
use Rattle.member_starts.specs.Strikes.{HasStruck, Invalidated, Mounted, NotMounted, down_seat}
use Rattle.member_starts.proofs.Rests.{kept-left}
use Rattle.member_starts.proofs.Striking.{none-invalid, set-or-none, strike-invalid}

-- ---- what a crash leaves of a disk each image of which means what was kept

module _ (choice : Choice) (old new : DiskState) (crash : CrashLeaves choice old new) (sound : (f : ℕ) → IsSound (old.files f)) where
  at-rest : IsSettled new.files
  at-rest c image f low =
      let here : IsImage (settled_file (left_by choice (old.files f))) (c f) = subst (λ (t : FileState). IsImage t (c f)) (crash.files f) (image f) in
      settled_image (left_by choice (old.files f)) (c f) here ∙ sym (ap (λ (t : FileState). t.reads) (crash.files f))

  pub means-left : (k : Kept) (services : ℕ) (was : ℕ → FileState) (d : Durable) → ((g : ℕ) → 258 ≤ g → old.files g ≡ was g) → IsMountable services k → IsStateOf k was d → EachImage (Means k) old.files → IsLeft services d new.files
  means-left k services was d same mountable is each = record {
    kept = k;
    mountable = mountable;
    settled = at-rest;
    reads = each (λ f. (new.files f).reads) (left-image choice old new crash sound);
    durable = record {
      candidate = is.candidate;
      voted = is.voted;
      log = is.log;
      snapshots = all-stored-left choice old.files new.files crash.files (snapshots_of k.entries) d.snapshots (all-stored-on was old.files same (snapshots_of k.entries) d.snapshots is.snapshots);
    };
  }

-- ---- where the terms of the snapshots begin that are left once one is struck

each-struck : (P : RecEntry → Type 0) (xs : List RecEntry) (i : ℕ) (x : RecEntry) → is_snapshot x ≡ false → Each P (snapshots_of xs) → Each P (snapshots_of (slice_set xs i x))
each-struck P [] i x none each = each
each-struck P (y ∷ ys) zero x none each = subst (Each P) (sym (cond-false (is_snapshot x) (x ∷ snapshots_of ys) (snapshots_of ys) none)) (by (is_snapshot y) refl)
  where
    by : (b : Bool) → is_snapshot y ≡ b → Each P (snapshots_of ys)
    by true e = (subst (Each P) (cond-true (is_snapshot y) (y ∷ snapshots_of ys) (snapshots_of ys) e) each).1
    by false e = subst (Each P) (cond-false (is_snapshot y) (y ∷ snapshots_of ys) (snapshots_of ys) e) each
each-struck P (y ∷ ys) (suc i) x none each = by (is_snapshot y) refl (each-struck P ys i x none)
  where
    by : (b : Bool) → is_snapshot y ≡ b → (Each P (snapshots_of ys) → Each P (snapshots_of (slice_set ys i x))) → Each P (snapshots_of (y ∷ slice_set ys i x))
    by true e rest =
        let all = subst (Each P) (cond-true (is_snapshot y) (y ∷ snapshots_of ys) (snapshots_of ys) e) each in
        subst (Each P) (sym (cond-true (is_snapshot y) (y ∷ snapshots_of (slice_set ys i x)) (snapshots_of (slice_set ys i x)) e)) (all.0, rest all.1)
    by false e rest =
        let all = subst (Each P) (cond-false (is_snapshot y) (y ∷ snapshots_of ys) (snapshots_of ys) e) each in
        subst (Each P) (sym (cond-false (is_snapshot y) (y ∷ snapshots_of (slice_set ys i x)) (snapshots_of (slice_set ys i x)) e)) (rest all)

pub not-zero : (g : ℕ) → 258 ≤ g → g ≢ 0
not-zero g high is = absurd (omega (arith, high, is))

module _ {D : Type 0} (state : D → DiskState) (is_told is_honest : D → Bool) (moment : D → ℕ) (left_since : D → ℕ → (ℕ → List ℕ) → Type 0) (kinds : List Kind)
    (tells : (d : D) → IsTrue (is_honest d) → IsTrue (is_told d)) (sound : (d : D) → IsTrue (is_honest d) → (f : ℕ) → IsSound ((state d).files f))
    (counts : (d : D) (t : ℕ) (c : ℕ → List ℕ) → IsTrue (is_honest d) → t ≤ moment d → IsImageOf (state d).files c → left_since d t c) where
  -- a stopped member whose disk failed
  pub failed-down : (disk d : D) (s : Seat) (y : Member) (own : ℕ) → IsDown state kinds disk s → y ≡ stopped y.durable → IsLeft (length kinds) y.durable (state d).files → IsDown state kinds d (failed y own s)
  failed-down disk d s y own down same l = record {
    kept = l.kept;
    mountable = l.mountable;
    settled = l.settled;
    reads = l.reads;
    durable = l.durable;
    member = same;
    run = down.run;
    applied = down.applied;
    phase = down.phase;
    alive = down.alive;
    since = down.since;
  }

  pub failed-seat : (choice : Choice) (ended : List EndedSeen) (disk e d : D) (s : Seat) (y : Member) → IsSeat state kinds (down_seat choice ended disk) s → y ≡ stopped y.durable → IsLeft (length kinds) y.durable (state d).files
      → CrashLeaves choice (state e) (state d) → IsSeat state kinds (down_seat Keep ended d) (failed y (state e).own_faults s)
  failed-seat choice ended disk e d s y is same l crash = record {
    home = failed-down disk d s y (state e).own_faults is.home same l;
    faults = record { lets = sym crash.lets; left = refl; own = sym crash.own; alive = crash.burnt };
    ended = is.ended;
  }

  module _ (s : Seat) (choice : Choice) (ended : List EndedSeen) (disk : D) (honest : IsTrue (is_honest disk)) (is : IsSeat state kinds (down_seat choice ended disk) s) where
    down : IsDown state kinds disk s
    down = is.home

    abbrev was : ℕ → FileState
    was = (state disk).files

    -- ---- it couldn't be mounted

    pub unmounted-struck : (back d : D) → NotMounted state is_told is_honest moment left_since disk back → CrashLeaves choice (state back) (state d) → HasStruck state kinds s (down_seat Keep ended d)
    unmounted-struck back d nm crash =
        let honest' : IsTrue (is_honest back) = subst IsTrue (sym nm.honest) honest in
        let run = nm.run honest down.settled down.kept down.reads in
        let each : EachImage (Means down.kept) (state back).files = λ c image. run.each c (counts back (moment disk) c honest' run.later image) in
        let l = means-left choice (state back) (state d) crash (sound back honest') down.kept (length kinds) was s.member.durable (λ g high. nm.others (tells disk honest) g (not-zero g high)) down.mountable down.durable each in
        record { fate = record { cut = Before; lets = None; own = (state back).own_faults }; seat = failed-seat choice ended disk back d s s.member is down.member l crash }

    -- ---- it was mounted

    module _ (h : Held D) (m : Mounted state is_told is_honest moment left_since (length kinds) disk h) where
      honest-there : IsTrue (is_honest h.disk)
      honest-there = subst IsTrue (sym m.honest) honest

      same-kept : h.kept ≡ down.kept
      same-kept = m.once (tells disk honest) down.kept down.reads down.mountable.held down.mountable.count

      each-stands : EachStands h.kept (state h.disk).files
      each-stands = m.settled honest down.settled

      pub mountable-there : IsMountable (length kinds) h.kept
      mountable-there = subst (IsMountable (length kinds)) (sym same-kept) down.mountable

      state-there : IsStateOf h.kept (state h.disk).files s.member.durable
      state-there = subst (λ (k : Kept). IsStateOf k (state h.disk).files s.member.durable) (sym same-kept) (record {
        candidate = down.durable.candidate;
        voted = down.durable.voted;
        log = down.durable.log;
        snapshots = all-stored-on was (state h.disk).files (λ g high. m.others (tells disk honest) g (not-zero g high)) (snapshots_of down.kept.entries) s.member.durable.snapshots down.durable.snapshots;
      })

      alive-there : (state h.disk).burnt ≡ false
      alive-there = (m.fuse honest down.settled down.kept down.reads is.faults.alive).burnt

      abbrev gone : List SnapshotEntry
      gone = invalidated (length kinds) s.member.durable.snapshots

      none-state : HasNoSet (length kinds) h.kept.entries → IsStateOf h.kept (state h.disk).files (invalidates (length kinds) s.member).durable
      none-state none = record {
        candidate = state-there.candidate;
        voted = state-there.voted;
        log = state-there.log;
        snapshots = subst (λ (l : List SnapshotEntry). Each2 (IsStored (state h.disk).files) (snapshots_of h.kept.entries) l) (sym (none-invalid (state h.disk).files (length kinds) h.kept.entries s.member.durable.snapshots state-there.snapshots none)) state-there.snapshots;
      }

      struck-state : (i : ℕ) (e : RecEntry) → IsLatest (length kinds) h.kept.entries i e → IsStateOf (with_struck h.kept i e) (state h.disk).files (invalidates (length kinds) s.member).durable
      struck-state i e latest = record {
        candidate = state-there.candidate;
        voted = state-there.voted;
        log = state-there.log;
        snapshots = strike-invalid (state h.disk).files (length kinds) h.kept.entries s.member.durable.snapshots state-there.snapshots i e latest;
      }

      there : (i : ℕ) (e : RecEntry) → IsLatest (length kinds) h.kept.entries i e → IsLatest h.kept.services h.kept.entries i e
      there i e latest = subst (λ (n : ℕ). IsLatest n h.kept.entries i e) (sym mountable-there.count) latest

      none-there : HasNoSet (length kinds) h.kept.entries → HasNoSet h.kept.services h.kept.entries
      none-there none = subst (λ (n : ℕ). HasNoSet n h.kept.entries) (sym mountable-there.count) none

      -- ---- the call was done

      whole-struck : (k : D) (kept : Kept) → IsTrue (is_honest k) → IsMountable (length kinds) kept → IsSettled (state k).files → EachStands kept (state k).files → IsStateOf kept (state k).files (invalidates (length kinds) s.member).durable → (state k).burnt ≡ false
          → HasStruck state kinds s (down_seat choice ended k)
      whole-struck k kept right mountable settled each durable alive =
          let here = each (λ f. ((state k).files f).reads) (λ f. (sound k right f).reads) in
          record {
            fate = record { cut = Whole; lets = (state k).lets; own = (state k).own_faults };
            seat = record {
              home = record {
                kept = kept;
                mountable = mountable;
                settled = settled;
                reads = record { node = here.node.0; entries = here.entries; log = here.log };
                durable = durable;
                member = refl;
                run = down.run;
                applied = down.applied;
                phase = down.phase;
                alive = down.alive;
                since = down.since;
              };
              faults = record { lets = refl; left = is.faults.left; own = refl; alive = alive };
              ended = is.ended;
            };
          }

      mountable-struck : (i : ℕ) (e : RecEntry) → IsLatest (length kinds) h.kept.entries i e → IsMountable (length kinds) (with_struck h.kept i e)
      mountable-struck i e latest = record {
        count = mountable-there.count;
        held = mountable-there.held;
        terms = strike_terms (length kinds) h.kept.entries i e (new_terms 0 h.kept.log) latest mountable-there.terms;
        bases = each-struck (HasBase h.kept.log) h.kept.entries i (record e { kind = struck_kind }) refl mountable-there.bases;
      }

      state-on : (k : Kept) (f g : ℕ → FileState) (d : Durable) → ((n : ℕ) → 258 ≤ n → g n ≡ f n) → IsStateOf k f d → IsStateOf k g d
      state-on k f g d same st = record { candidate = st.candidate; voted = st.voted; log = st.log; snapshots = all-stored-on f g same (snapshots_of k.entries) d.snapshots st.snapshots }

      pub done-struck : (k : Held D) (found : Bool) → Invalidated state is_told is_honest moment left_since h k (Ok found) → HasStruck state kinds s (down_seat choice ended k.disk)
      done-struck k found inv = elim (set-or-none (state h.disk).files (length kinds) h.kept.entries s.member.durable.snapshots state-there.snapshots) [
        | inl none ↦
            let same : state k.disk ≡ state h.disk = inv.untouched (none-there none) in
            let files : (state k.disk).files ≡ (state h.disk).files = ap (λ (t : DiskState). t.files) same in
            whole-struck k.disk h.kept right mountable-there (inv.rests honest-there (m.rests honest down.settled)) (subst (EachStands h.kept) (sym files) each-stands)
            (state-on h.kept (state h.disk).files (state k.disk).files (invalidates (length kinds) s.member).durable (λ g high. ap (λ (fs : ℕ → FileState). fs g) files) (none-state none))
            (ap (λ (t : DiskState). t.burnt) same ∙ alive-there)
        | inr some ↦
            let i = some.0 in
            let e = some.1 in
            let latest = there i e some.2 in
            let strike = inv.strike honest-there each-stands i e latest in
            let well = inv.cut_well honest-there each-stands mountable-there.terms i e latest in
            whole-struck k.disk (with_struck h.kept i e) right (mountable-struck i e some.2) (inv.rests honest-there (m.rests honest down.settled)) strike.done
            (state-on (with_struck h.kept i e) (state h.disk).files (state k.disk).files (invalidates (length kinds) s.member).durable (λ g high. well.snapshots.files g high (λ no-file. no-file)) (struck-state i e some.2))
            (strike.fuse alive-there).burnt
      ]
        where
          right : IsTrue (is_honest k.disk)
          right = subst IsTrue (sym inv.honest) honest-there

      -- ---- a fault cut it

      module _ (k : Held D) (fault : MemberFault) (d : D) (inv : Invalidated state is_told is_honest moment left_since h k (Err fault)) (crash : CrashLeaves choice (state k.disk) (state d)) where
        right-there : IsTrue (is_honest k.disk)
        right-there = subst IsTrue (sym inv.honest) honest-there

        abbrev image : ℕ → List ℕ
        image f = ((state d).files f).reads

        image-there : IsImageOf (state k.disk).files image
        image-there = left-image choice (state k.disk) (state d) crash (sound k.disk right-there)

        before : IsLeft (length kinds) s.member.durable (state d).files → HasStruck state kinds s (down_seat Keep ended d)
        before l = record { fate = record { cut = Before; lets = None; own = (state k.disk).own_faults }; seat = failed-seat choice ended disk k.disk d s s.member is down.member l crash }

        after : IsLeft (length kinds) (invalidates (length kinds) s.member).durable (state d).files → HasStruck state kinds s (down_seat Keep ended d)
        after l = record { fate = record { cut = After; lets = None; own = (state k.disk).own_faults }; seat = failed-seat choice ended disk k.disk d s (invalidates (length kinds) s.member) is refl l crash }

        by-image : (i : ℕ) (e : RecEntry) → IsLatest (length kinds) h.kept.entries i e → ((g : ℕ) → 258 ≤ g → (state k.disk).files g ≡ (state h.disk).files g) → IsDurableOne h.kept (with_struck h.kept i e) image
            → HasStruck state kinds s (down_seat Keep ended d)
        by-image i e latest same (inl dur) =
            before (kept-left choice (state k.disk) (state d) crash (sound k.disk right-there) h.kept (length kinds) (state h.disk).files s.member.durable same mountable-there.count mountable-there.held mountable-there.bases state-there dur)
        by-image i e latest same (inr dur) =
            after (kept-left choice (state k.disk) (state d) crash (sound k.disk right-there) (with_struck h.kept i e) (length kinds) (state h.disk).files (invalidates (length kinds) s.member).durable same mountable-there.count mountable-there.held (mountable-struck i e latest).bases
            (struck-state i e latest) dur)

        pub cut-struck : HasStruck state kinds s (down_seat Keep ended d)
        cut-struck = elim (set-or-none (state h.disk).files (length kinds) h.kept.entries s.member.durable.snapshots state-there.snapshots) [
          | inl none ↦
              let files : (state k.disk).files ≡ (state h.disk).files = ap (λ (t : DiskState). t.files) (inv.untouched (none-there none)) in
              let stands = each-stands image (subst (λ (fs : ℕ → FileState). IsImageOf fs image) files image-there) in
              before (kept-left choice (state k.disk) (state d) crash (sound k.disk right-there) h.kept (length kinds) (state h.disk).files s.member.durable (λ g high. ap (λ (fs : ℕ → FileState). fs g) files) mountable-there.count mountable-there.held mountable-there.bases
              state-there (durable_same h.kept image mountable-there.terms stands))
          | inr some ↦
              let well = inv.cut_well honest-there each-stands mountable-there.terms some.0 some.1 (there some.0 some.1 some.2) in
              by-image some.0 some.1 some.2 (λ g high. well.snapshots.files g high (λ no-file. no-file)) (well.each image image-there)
        ]
