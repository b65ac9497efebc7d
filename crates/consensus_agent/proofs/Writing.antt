-- What writing snapshots leaves of a member's disk.
use Rattle.std.proofs.Common.{◌≡◌, ◌⊎◌, inl, inr, ℕ, zero, suc, ◌+◌, ◌≤◌, pos, Bool, IsTrue, List, [], ◌∷◌, ◌++◌, take, Option, Some, refl, sym, ap, subst, ◌∙◌, append_assoc, arith, add-one, add-zero}
use Rattle.std.specs.Prelude.{Result, Ok, Err, OnOk, OnErr, slice_get}
use Rattle.std.proofs.lemmas.List.{append-nil}
use Rattle.cl_base.specs.Disk.{DiskState, settled_file}
use Rattle.cl_base.specs.declared.fault.MemberFault.{MemberFault}
use Rattle.entry_log.specs.Shape.{Shape}
use Rattle.log_segment.specs.Held.{new_terms}
use Rattle.member_disk.specs.declared.durable.SnapshotHead.{SnapshotHead}
use Rattle.member_disk.specs.Changes.{HaveTerms, IsPut, entry_for}
use Rattle.member_disk.specs.CutWell.{IsCutWell, file_of}
use Rattle.member_disk.specs.Kept.{Kept, Held as DiskHeld, EachStands}
use Rattle.member_disk.specs.Parts.{IsMade, put_part}
use Rattle.member_disk.proofs.CutWells.{terms_front}
use Rattle.module_state.specs.Module.{Module}
use Rattle.owed_egress.specs.Taken.{Outboxes, module_at, module_over, module_with}
use Rattle.owed_egress.proofs.Over.{over_next}
use Rattle.recording_log.specs.Listed.{IsThere}
use Rattle.sbe_events.specs.declared.event.Event.{Event}
use Rattle.service_container.specs.Held.{Held}
use Rattle.snapshot_pieces.specs.Pieces.{service_pieces_of}
use Rattle.snapshot_pieces.specs.declared.origin.Origin.{Origin}
use Rattle.snapshot_store.specs.Snapshots.{spelled}
use Rattle.consensus_agent.specs.declared.snapshots.Action.{Action}
use Rattle.member_module.specs.Held.{Held as ModuleHeld}
use Rattle.consensus_agent.specs.Consumed.{HaveRising, IsTaking, outboxes}
use Rattle.consensus_agent.specs.Disks.{HasTerms, IsRight}
use Rattle.consensus_agent.specs.Written.{AreWritten, IsThereIn, Snapshot, StoppedAmong, action_with, actions_over, head_at, origin_at, snapshot_with}
use Rattle.consensus_agent.proofs.There.{there_either}

module _ {D : Type 0} (state : D → DiskState) (is_told is_honest : D → Bool) where
  pub written_none : (a b : DiskHeld D) → b ≡ a → AreWritten state is_told is_honest [] a b
  written_none a b is = is

  pub written_more : (ss ts : List Snapshot) (a m b : DiskHeld D) → AreWritten state is_told is_honest ss a m → AreWritten state is_told is_honest ts m b → AreWritten state is_told is_honest (ss ++ ts) a b
  written_more [] ts a m b is more = subst (λ (x : DiskHeld D). AreWritten state is_told is_honest ts x b) is more
  written_more (s ∷ ss) ts a m b first more = (first.0, first.1, written_more ss ts first.0 m b first.2 more)

  pub stopped_none : (ss : List Snapshot) (a b : DiskHeld D) → b ≡ a → StoppedAmong state is_told is_honest ss a b
  stopped_none ss a b is = record { written = []; rest = ss; all = refl; until = a; done = refl; last = inl is }

  pub stopped_first : (ss ts : List Snapshot) (a b : DiskHeld D) → StoppedAmong state is_told is_honest ss a b → StoppedAmong state is_told is_honest (ss ++ ts) a b
  stopped_first ss ts a b st = record {
    written = st.written;
    rest = st.rest ++ ts;
    all = ap (λ (l : List Snapshot). l ++ ts) st.all ∙ append_assoc st.written st.rest ts;
    until = st.until;
    done = st.done;
    last = elim st.last [
      | inl is ↦ inl is
      | inr h ↦ inr (h.0, h.1 ++ ts, ap (λ (l : List Snapshot). l ++ ts) h.2, h.3)
    ];
  }

  pub stopped_later : (ss ts : List Snapshot) (a m b : DiskHeld D) → AreWritten state is_told is_honest ss a m → StoppedAmong state is_told is_honest ts m b → StoppedAmong state is_told is_honest (ss ++ ts) a b
  stopped_later ss ts a m b first st = record {
    written = ss ++ st.written;
    rest = st.rest;
    all = ap (λ (l : List Snapshot). ss ++ l) st.all ∙ sym (append_assoc ss st.written st.rest);
    until = st.until;
    done = written_more ss st.written a m st.until first st.done;
    last = st.last;
  }

  -- all of these were put, and a fault came after them
  pub stopped_all : (ss : List Snapshot) (a m b : DiskHeld D) → AreWritten state is_told is_honest ss a m → b ≡ m → StoppedAmong state is_told is_honest ss a b
  stopped_all ss a m b done is = record { written = ss; rest = []; all = sym (append-nil ss); until = m; done = done; last = inl is }

-- ---- one snapshot

-- a disk that is right stays so where it and what is kept stay
right_same : {D : Type 0} (state : D → DiskState) (is_told is_honest : D → Bool) (a b : DiskHeld D) → b.kept ≡ a.kept → b.disk ≡ a.disk → IsRight state is_told is_honest a → IsRight state is_told is_honest b
right_same {D} state is_told is_honest a b kept disk right = record {
  honest = subst (λ (d : D). IsTrue (is_honest d)) (sym disk) right.honest;
  each = subst (λ (k : Kept). EachStands k (state b.disk).files) (sym kept) (subst (λ (d : D). EachStands a.kept (state d).files) (sym disk) right.each);
  terms = subst (λ (k : Kept). HasTerms k) (sym kept) right.terms;
}

module _ {D : Type 0} (state : D → DiskState) (moment : D → ℕ) (left_since : D → ℕ → (ℕ → List ℕ) → Type 0) (is_told is_honest : D → Bool) where
  abbrev pub MadeSo : {T : Type 0} → SnapshotHead → DiskHeld D → DiskHeld D → Result T MemberFault → Type 0
  MadeSo head a b result = IsTrue (is_honest a.disk) → EachStands a.kept (state a.disk).files → (IsThere (entry_for a.kept head) a.kept.entries → ⊥) → IsMade state moment left_since (put_part a.kept head ∷ []) a.kept a.disk b.disk result

  abbrev pub CutSo : SnapshotHead → DiskHeld D → DiskHeld D → Type 0
  CutSo head a b = IsTrue (is_honest a.disk) → EachStands a.kept (state a.disk).files → HaveTerms a.kept.entries (new_terms 0 a.kept.log) → (IsThere (entry_for a.kept head) a.kept.entries → ⊥)
      → IsCutWell state moment left_since (file_of head.recording) a.kept (put_part a.kept head).makes a.disk b.disk

  others_of : (s : Snapshot) (a b : DiskHeld D) → (IsThereIn s a.kept → b.disk ≡ a.disk) → CutSo s.head a b
      → IsRight state is_told is_honest a → (g : ℕ) → 258 ≤ g → (g ≡ 258 + s.head.recording → ⊥) → (state b.disk).files g ≡ (state a.disk).files g
  others_of s a b again cut right g high other =
      elim (there_either (entry_for a.kept s.head) a.kept.entries) [
        | inl h ↦ ap (λ (d : D). (state d).files g) (again h)
        | inr n ↦ (cut right.honest right.each right.terms n).snapshots.files g high other
      ]

  right_after : (s : Snapshot) (a b : DiskHeld D) → is_honest b.disk ≡ is_honest a.disk → IsPut s.head a.kept b.kept → (IsThereIn s a.kept → b.disk ≡ a.disk)
      → (IsRight state is_told is_honest a → (IsThereIn s a.kept → ⊥) → EachStands (put_part a.kept s.head).makes (state b.disk).files)
      → IsRight state is_told is_honest a → IsRight state is_told is_honest b
  right_after s a b honest put again each right =
      elim (there_either (entry_for a.kept s.head) a.kept.entries) [
        | inl h ↦ right_same state is_told is_honest a b (put.again h) (again h) right
        | inr n ↦ record {
          honest = subst IsTrue (sym honest) right.honest;
          each = subst (λ (k : Kept). EachStands k (state b.disk).files) (sym (put.first n)) (each right n);
          terms = subst (λ (k : Kept). HasTerms k) (sym (put.first n)) (terms_front a.kept.entries (entry_for a.kept s.head ∷ []) (new_terms 0 a.kept.log) right.terms);
        }
      ]

  pub put_written : {T : Type 0} (s : Snapshot) (a b : DiskHeld D) (result : Result T MemberFault) → is_told b.disk ≡ is_told a.disk → is_honest b.disk ≡ is_honest a.disk
      → OnOk result (IsPut s.head a.kept b.kept) → (IsTrue (is_told a.disk) → (IsThereIn s a.kept → ⊥) → OnOk result ((state b.disk).files (258 + s.head.recording) ≡ settled_file (spelled s.pieces)))
      → MadeSo s.head a b result → (IsThereIn s a.kept → b.disk ≡ a.disk) → CutSo s.head a b
      → OnOk result (AreWritten state is_told is_honest (s ∷ []) a b)
  put_written s a b (Ok x) tells honest put stored ran again cut = (
    b,
    record {
      tells = tells;
      honest = honest;
      put = put;
      again = again;
      stored = stored;
      others = others_of s a b again cut;
      right = right_after s a b honest put again (λ right n. (ran right.honest right.each n).done);
      passed = λ right alive n. (ran right.honest right.each n).fuse alive;
    },
    refl,
  )
  put_written s a b (Err e) tells honest put stored ran again cut = tt

  pub put_stopped : {T : Type 0} (s : Snapshot) (a b : DiskHeld D) (result : Result T MemberFault) → is_told b.disk ≡ is_told a.disk → is_honest b.disk ≡ is_honest a.disk
      → OnErr result (b.kept ≡ a.kept) → (IsThereIn s a.kept → b.disk ≡ a.disk) → CutSo s.head a b
      → (IsTrue (is_honest a.disk) → EachStands a.kept (state a.disk).files → (IsThereIn s a.kept → ⊥) → OnErr result (EachStands a.kept (state b.disk).files ⊎ ((state b.disk).files (258 + s.head.recording) ≡ settled_file (spelled s.pieces))))
      → OnErr result (StoppedAmong state is_told is_honest (s ∷ []) a b)
  put_stopped s a b (Ok x) tells honest kept again cut filed = tt
  put_stopped s a b (Err e) tells honest kept again cut filed = record {
    written = [];
    rest = s ∷ [];
    all = refl;
    until = a;
    done = refl;
    last = inr (
      s,
      [],
      refl,
      record {
        tells = tells;
        honest = honest;
        kept = kept;
        again = again;
        each = λ right n. (cut right.honest right.each right.terms n).each;
        others = others_of s a b again cut;
        filed = λ right n. filed right.honest right.each n;
      },
    );
  }

-- the snapshot that is put is the one that a service owes
pub snapshot_is : (a : Action) (service own : ℕ) (found : Option (List ℕ)) (records : List ℕ) (head : SnapshotHead) (origin : Origin) (pieces : List (List ℕ)) → service ≡ own → found ≡ Some records → head ≡ head_at a (pos service)
    → origin ≡ record { service = head.service; position = head.position; term = head.term } → pieces ≡ service_pieces_of origin records → record { head = head; pieces = pieces } ∷ [] ≡ snapshot_with a own found
snapshot_is a service own found records head origin pieces number is at from made =
    let named : origin ≡ origin_at a (pos service) = from ∙ ap (λ (h : SnapshotHead). record { service = h.service; position = h.position; term = h.term }) at in
    (λ i. record { head = at i; pieces = (made ∙ ap (λ (o : Origin). service_pieces_of o records) named) i } ∷ [])
    ∙ ap (λ n. snapshot_with a n (Some records)) number
    ∙ ap (snapshot_with a own) (sym is)

-- ---- the actions among entries

further : (i n : ℕ) → (i + 1) + n ≡ i + suc n
further i n = omega arith

actions_suc : (bs : Outboxes) (xs : Shape) (i n : ℕ) (m : Module) (es : List Event)
    → actions_over bs xs i m (take (suc n) es) ≡ actions_over bs xs i m (take n es) ++ action_with xs (i + n) (slice_get es n) (module_over bs i m (take (suc n) es))
actions_suc bs xs i zero m [] = refl
actions_suc bs xs i (suc n) m [] = refl
actions_suc bs xs i zero m (e ∷ es) = append-nil (action_with xs i (Some e) (module_at bs i m e)) ∙ ap (λ k. action_with xs k (Some e) (module_at bs i m e)) (sym (add-zero i))
actions_suc bs xs i (suc n) m (e ∷ es) =
    let next = module_at bs i m e in
    ap (λ l. action_with xs i (Some e) next ++ l) (actions_suc bs xs (i + 1) n next es)
    ∙ ap (λ k. action_with xs i (Some e) next ++ (actions_over bs xs (i + 1) next (take n es) ++ action_with xs k (slice_get es n) (module_over bs (i + 1) next (take (suc n) es)))) (further i n)
    ∙ sym (append_assoc (action_with xs i (Some e) next) (actions_over bs xs (i + 1) next (take n es)) (action_with xs (i + suc n) (slice_get es n) (module_over bs (i + 1) next (take (suc n) es))))

-- one entry more
pub actions_next : (bs : Outboxes) (xs : Shape) (i n : ℕ) (m : Module) (es : List Event)
    → actions_over bs xs i m (take (n + 1) es) ≡ actions_over bs xs i m (take n es) ++ action_with xs (i + n) (slice_get es n) (module_with bs (i + n) (module_over bs i m (take n es)) (slice_get es n))
actions_next bs xs i n m es =
    ap (λ k. actions_over bs xs i m (take k es)) (add-one n)
    ∙ actions_suc bs xs i n m es
    ∙ ap (λ (s : Module). actions_over bs xs i m (take n es) ++ action_with xs (i + n) (slice_get es n) s) (ap (λ k. module_over bs i m (take k es)) (sym (add-one n)) ∙ over_next bs i n m es)

pub one_acted : (kept now : List Held) (n : ℕ) (xs as_now : Shape) (a b : ModuleHeld) (acted next : List Action) → now ≡ kept → as_now ≡ xs → IsTaking a b
    → (HaveRising kept → b.state ≡ module_over (outboxes kept) a.consumed a.state (take n a.ahead.events))
    → (HaveRising kept → acted ≡ actions_over (outboxes kept) xs a.consumed a.state (take n a.ahead.events))
    → (HaveRising now → next ≡ acted ++ action_with as_now (b.consumed + n) (slice_get b.ahead.events n) (module_with (outboxes now) (b.consumed + n) b.state (slice_get b.ahead.events n)))
    → HaveRising kept → next ≡ actions_over (outboxes kept) xs a.consumed a.state (take (n + 1) a.ahead.events)
one_acted kept now n xs as_now a b acted next same shape taking state was step rising =
    step (subst HaveRising (sym same) rising)
    ∙ (λ i. was rising i ++ action_with (shape i) (taking.consumed i + n) (slice_get ((taking.ahead i).events) n) (module_with (outboxes (same i)) (taking.consumed i + n) (state rising i) (slice_get ((taking.ahead i).events) n)))
    ∙ sym (actions_next (outboxes kept) xs a.consumed n a.state a.ahead.events)
