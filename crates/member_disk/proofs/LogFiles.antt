-- A change of the segments, as a part of a change of what is kept.
use Rattle.std.specs.Prelude.{◌&&◌, nat_lt, if◌then◌else◌, OnOk}
use Rattle.std.proofs.Common.{◌≡◌, ◌⊎◌, inl, inr, ⊎_elim, ℕ, ◌+◌, ◌-◌, ◌<◌, ◌≤◌, ◌==◌, Bool, true, false, List, [], ◌∷◌, length, take, Result, Ok, Err, IsTrue, refl, sym, ◌∙◌, ap, subst, arith}
use Rattle.std.proofs.lemmas.Bool.{cases_eq, cond-true, cond-false, eq-eqb, ne_eqb, lt-ltb}
use Rattle.std.proofs.lemmas.List.{take_all}
use Rattle.cl_base.specs.Disk.{FileState, DiskState, IsImage, LeavesOnly, left_by}
use Rattle.cl_base.specs.Images.{left_is_image}
use Rattle.cl_base.specs.Every.{EveryImage, takes}
use Rattle.cl_base.specs.Torn.{weaker}
use Rattle.cl_base.specs.Fuse.{FuseEnds, ends_weaker}
use Rattle.cl_base.specs.Runs.{DiskLaws, EachImage}
use Rattle.cl_base.specs.declared.disk.Choice.{Choice}
use Rattle.cl_base.specs.declared.fault.MemberFault.{MemberFault}
use Rattle.cl_base.specs.declared.fault.MemberFault.TheVariants.{Device}
use Rattle.node_state.specs.Node.{Tells}
use Rattle.recording_log.specs.Entries.{Holds}
use Rattle.entry_log.specs.Log.{Log}
use Rattle.log_segment.specs.Segment.{LogIs}
use Rattle.log_segment.specs.Whole.{IsApart, LogIsOne}
use Rattle.log_segment.specs.Cuts.{CutLeft, is_shut_byte}
use Rattle.member_disk.specs.Kept.{Kept, Stands, StandsAmong, EachStands}
use Rattle.member_disk.specs.Parts.{Part, stages, left_after, LeftAfter, IsMade, cut_part, cut_parts}
use Rattle.member_disk.proofs.Compose.{on_ok, every_of}

-- two facts on each image at any moment
pub run_both : {D : Type 0} (moment : D → ℕ) (left_since : D → ℕ → (ℕ → List ℕ) → Type 0) (old new : D) (P Q : (ℕ → List ℕ) → Type 0) → LeavesOnly moment left_since old new P → LeavesOnly moment left_since old new Q → LeavesOnly moment left_since old new (λ c. P c × Q c)
run_both moment left_since old new P Q first second = record {
  later = first.later;
  each = λ c left. (first.each c left, second.each c left);
  before = λ t c le left. ⊎_elim (λ was. inl was) (λ is. ⊎_elim (λ was. inl was) (λ too. inr (is, too)) (second.before t c le left)) (first.before t c le left);
}

module _ {D : Type 0} (L : DiskLaws D) (T : Type 0) (kept : Kept) (old new : D) (result : Result T MemberFault) (honest : IsTrue (L.is_honest old)) (all : EachStands kept (L.state old).files)
    (log : Log) (others : (g : ℕ) → g < 2 ⊎ 258 ≤ g → (L.state new).files g ≡ (L.state old).files g)
    (done : OnOk result (EachImage (LogIs log) (L.state new).files)) (each : EachImage (LogIsOne kept.log log) (L.state new).files)
    (run : LeavesOnly L.moment L.left_since old new (LogIsOne kept.log log)) (apart : LeavesOnly L.moment L.left_since old new (IsApart (L.state old).files)) where
  abbrev f0 : ℕ → FileState
  f0 = (L.state old).files

  abbrev f1 : ℕ → FileState
  f1 = (L.state new).files

  abbrev after : Kept
  after = record kept { log = log }

  with_log : (k : Kept) → k.node ≡ kept.node → k.entries ≡ kept.entries → (c : ℕ → List ℕ) → IsApart f0 c → LogIs k.log c → Stands k c
  with_log k same_node same_entries c others log = record {
    node = subst (λ n. Tells n (c 0)) (sym same_node) ((every_of L 0 (Tells kept.node) kept old honest all (λ c is. is.node)).this (c 0) (others 0 (inl (omega arith))));
    entries = subst (λ es. Holds es (c 1)) (sym same_entries) ((every_of L 1 (Holds kept.entries) kept old honest all (λ c is. is.entries)).this (c 1) (others 1 (inl (omega arith))));
    log = log;
  }

  apart_now : (c : ℕ → List ℕ) → ((g : ℕ) → IsImage (f1 g) (c g)) → IsApart f0 c
  apart_now c image g far = subst (λ s. IsImage s (c g)) (others g far) (image g)

  pick : (b : Bool) (c : ℕ → List ℕ) → IsApart f0 c → LogIs (if b then log else kept.log) c → Stands (if b then after else kept) c
  pick true c far is = with_log after refl refl c far is
  pick false c far is = with_log kept refl refl c far is

  one : (c : ℕ → List ℕ) → IsApart f0 c → LogIsOne kept.log log c → Stands kept c ⊎ Stands after c
  one c far is = ⊎_elim (λ was. inl (with_log kept refl refl c far was)) (λ now. inr (with_log after refl refl c far now)) is

  module _ (n m : ℕ) (last : Choice → Bool) (is_last : m ≡ n - 1)
      (fuse : FuseEnds n Device (λ left k. (choice : Choice) → LogIs (if (k == m) && last choice then log else kept.log) (λ f. left_by choice (left.files f))) (L.state old) (L.state new) result) where
    abbrev part : Part
    part = record { calls = n; last = last; makes = after }

    pub log_made : IsMade L.state L.moment L.left_since (part ∷ []) kept old new result
    log_made = record {
      done = on_ok T MemberFault (EachImage (LogIs log) f1) (EachStands after f1) result (λ are c image. with_log after refl refl c (apart_now c image) (are c image)) done;
      each = λ c image. ⊎_elim (λ is. inl is) (λ is. inr (inl is)) (one c (apart_now c image) (each c image));
      run = weaker L.moment L.left_since old new (λ c. LogIsOne kept.log log c × IsApart f0 c) (StandsAmong (stages (part ∷ []) kept)) (λ c is. ⊎_elim (λ was. inl was) (λ now. inr (inl now)) (one c is.1 is.0))
          (run_both L.moment L.left_since old new (LogIsOne kept.log log) (IsApart f0) run apart);
      fuse =
          let same : n ≡ n + 0 = omega arith in
          subst (λ j. FuseEnds j Device (LeftAfter (part ∷ []) kept) (L.state old) (L.state new) result) same
          (ends_weaker T MemberFault Device n (λ left k. (choice : Choice) → LogIs (if (k == m) && last choice then log else kept.log) (λ f. left_by choice (left.files f))) (LeftAfter (part ∷ []) kept) (L.state old) (L.state new) result
          (λ k few left. λ choice.
          let w = λ (g : ℕ). left_by choice (f1 g) in
          let x : Kept = if (k == n - 1) && last choice then after else kept in
          let is : left_after (part ∷ []) kept k choice ≡ x = cond-true (nat_lt k n) x (left_after [] after (k - n) choice) (lt-ltb k n few) in
          let far : IsApart f0 w = λ g out. subst (λ s. IsImage (f0 g) (left_by choice s)) (sym (others g out)) (left_is_image choice (f0 g) (record { reads = L.reads old g honest; synced = L.synced old g honest })) in
          subst (λ y. Stands y w) (sym is) (subst (λ j. Stands (if (k == j) && last choice then after else kept) w) is_last (pick ((k == m) && last choice) w far (left choice))))
          fuse);
    }

  -- a change that leaves the log as it was, without a call
  pub log_same : log ≡ kept.log → FuseEnds 0 Device (λ left k. Unit {0}) (L.state old) (L.state new) result → IsMade L.state L.moment L.left_since [] kept old new result
  log_same same fuse =
      let both : (c : ℕ → List ℕ) → IsApart f0 c → LogIsOne kept.log log c → Stands kept c =
      λ c far is. with_log kept refl refl c far (⊎_elim (λ was. was) (λ now. subst (λ (l : Log). LogIs l c) same now) is) in
      record {
        done = on_ok T MemberFault (EachImage (LogIs log) f1) (EachStands kept f1) result (λ are c image. both c (apart_now c image) (inr (are c image))) done;
        each = λ c image. inl (both c (apart_now c image) (each c image));
        run = weaker L.moment L.left_since old new (λ c. LogIsOne kept.log log c × IsApart f0 c) (StandsAmong (stages [] kept)) (λ c is. inl (both c is.1 is.0))
            (run_both L.moment L.left_since old new (LogIsOne kept.log log) (IsApart f0) run apart);
        fuse = ends_weaker T MemberFault Device 0 (λ left k. Unit {0}) (LeftAfter [] kept) (L.state old) (L.state new) result (λ k few left. absurd (omega arith)) fuse;
      }

-- a cut to the first entries
pub cut_made : {D : Type 0} (L : DiskLaws D) (T : Type 0) (kept : Kept) (old new : D) (result : Result T MemberFault) (n : ℕ) → IsTrue (L.is_honest old) → EachStands kept (L.state old).files
    → ((g : ℕ) → g < 2 ⊎ 258 ≤ g → (L.state new).files g ≡ (L.state old).files g)
    → OnOk result (EachImage (LogIs (take n kept.log)) (L.state new).files) → EachImage (LogIsOne kept.log (take n kept.log)) (L.state new).files
    → LeavesOnly L.moment L.left_since old new (LogIsOne kept.log (take n kept.log)) → LeavesOnly L.moment L.left_since old new (IsApart (L.state old).files)
    → FuseEnds (if n == length kept.log then 0 else 2) Device (CutLeft kept.log (take n kept.log)) (L.state old) (L.state new) result
    → IsMade L.state L.moment L.left_since (cut_parts kept n) kept old new result
cut_made L T kept old new result n honest all others done each run apart fuse =
    let log : Log = take n kept.log in
    elim (cases_eq n (length kept.log)) [
      | inl whole ↦
          let test = eq-eqb n (length kept.log) whole in
          let calls : (if n == length kept.log then 0 else 2) ≡ 0 = cond-true (n == length kept.log) 0 2 test in
          let none = subst (λ j. FuseEnds j Device (CutLeft kept.log log) (L.state old) (L.state new) result) calls fuse in
          subst (λ (ps : List Part). IsMade L.state L.moment L.left_since ps kept old new result) (sym (cond-true (n == length kept.log) [] (cut_part kept n ∷ []) test))
          (log_same L T kept old new result honest all log others done each run apart (take_all n kept.log (omega (arith, whole)))
          (ends_weaker T MemberFault Device 0 (CutLeft kept.log log) (λ left k. Unit {0}) (L.state old) (L.state new) result (λ k few left. tt) none))
      | inr less ↦
          let test = ne_eqb n (length kept.log) less in
          let calls : (if n == length kept.log then 0 else 2) ≡ 2 = cond-false (n == length kept.log) 0 2 test in
          let two = subst (λ j. FuseEnds j Device (CutLeft kept.log log) (L.state old) (L.state new) result) calls fuse in
          subst (λ (ps : List Part). IsMade L.state L.moment L.left_since ps kept old new result) (sym (cond-false (n == length kept.log) [] (cut_part kept n ∷ []) test))
          (log_made L T kept old new result honest all log others done each run apart 2 1 (takes is_shut_byte) refl two)
    ]
