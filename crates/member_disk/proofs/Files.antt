-- A change of one file's crate, as a part of a change of what is kept.
use Rattle.std.specs.Prelude.{◌&&◌, if◌then◌else◌, OnOk}
use Rattle.std.proofs.Common.{◌≡◌, ◌≢◌, ℕ, ℤ, ◌+◌, ◌-◌, ◌<◌, ◌==◌, Bool, true, false, List, [], ◌∷◌, ◌++◌, inl, ◌≤◌, Option, Result, Ok, Err, IsTrue, refl, sym, subst, arith}
use Rattle.cl_base.specs.Disk.{FileState, IsImage, OthersStay, LeavesOnly, left_by}
use Rattle.cl_base.specs.Every.{EveryImage, FileIs, takes}
use Rattle.cl_base.specs.Fuse.{FuseEnds, ends_weaker}
use Rattle.cl_base.specs.Runs.{DiskLaws}
use Rattle.cl_base.specs.declared.disk.Choice.{Choice}
use Rattle.cl_base.specs.declared.fault.MemberFault.{MemberFault}
use Rattle.cl_base.specs.declared.fault.MemberFault.TheVariants.{Device}
use Rattle.node_state.specs.Node.{Tells, BeforeOrAfter, names_slot}
use Rattle.node_state.specs.Steps.{AllTell, EachTells, RaiseLeft}
use Rattle.recording_log.specs.declared.entry.RecEntry.{RecEntry}
use Rattle.recording_log.specs.Entries.{Holds, HoldsOne}
use Rattle.recording_log.specs.Steps.{AddLeft, is_open}
use Rattle.entry_log.specs.Log.{Log}
use Rattle.log_segment.specs.Segment.{SegmentIs, LogIs}
use Rattle.member_disk.specs.Kept.{Kept, Stands, StandsAmong, EachStands}
use Rattle.cl_base.specs.Torn.{started, weaker}
use Rattle.cl_base.specs.Images.{left_is_image}
use Rattle.member_disk.specs.Parts.{Part, stages, IsMade, raise_part}
use Rattle.member_disk.proofs.Preludes.{StillStands}
use Rattle.member_disk.proofs.Compose.{one_made, every_of}

abbrev NodeIs : Kept → List ℕ → Type 0
NodeIs kept bytes = Tells kept.node bytes

abbrev EntriesAre : Kept → List ℕ → Type 0
EntriesAre kept bytes = Holds kept.entries bytes

node_if : (b : Bool) (after before : Kept) (bytes : List ℕ) → Tells (if b then after.node else before.node) bytes → NodeIs (if b then after else before) bytes
node_if true after before bytes is = is
node_if false after before bytes is = is

entries_if : (b : Bool) (after before : Kept) (bytes : List ℕ) → Holds (if b then after.entries else before.entries) bytes → EntriesAre (if b then after else before) bytes
entries_if true after before bytes is = is
entries_if false after before bytes is = is

module _ {D : Type 0} (L : DiskLaws D) (T : Type 0) (kept : Kept) (old new : D) (result : Result T MemberFault) (honest : IsTrue (L.is_honest old)) (all : EachStands kept (L.state old).files) where
  abbrev f0 : ℕ → FileState
  f0 = (L.state old).files

  abbrev f1 : ℕ → FileState
  f1 = (L.state new).files

  one_ne : ◌≢◌ {A = ℕ} 1 0
  one_ne is = absurd (omega arith)

  none_ne : ◌≢◌ {A = ℕ} 0 1
  none_ne is = absurd (omega arith)

  nodes_there : AllTell kept.node f0 f0
  nodes_there = every_of L 0 (Tells kept.node) kept old honest all (λ c is. is.node)

  entries_there : EveryImage 1 (Holds kept.entries) f0 f0
  entries_there = every_of L 1 (Holds kept.entries) kept old honest all (λ c is. is.entries)

  -- the log, of images of the segments
  log_from : (c : ℕ → List ℕ) → ((s : ℕ) → s < 256 → IsImage (f0 (2 + s)) (c (2 + s))) → LogIs kept.log c
  log_from c image s below = (every_of L (2 + s) (SegmentIs s kept.log) kept old honest all (λ c is. is.log s below)).this (c (2 + s)) (image s below)

  -- an image of each file up to the last segment
  pub stands_from : (c : ℕ → List ℕ) → ((g : ℕ) → g < 258 → IsImage (f0 g) (c g)) → Stands kept c
  stands_from c image = record {
    node = nodes_there.this (c 0) (image 0 (omega arith));
    entries = entries_there.this (c 1) (image 1 (omega arith));
    log = log_from c (λ s below. image (2 + s) (omega arith));
  }

  module _ (term : ℤ) (voted : Option ℕ) where
    abbrev next : Kept
    next = (raise_part kept term voted).makes

    with_node : (k : Kept) → k.entries ≡ kept.entries → k.log ≡ kept.log → (c : ℕ → List ℕ) → Tells k.node (c 0) → ((g : ℕ) → g ≢ 0 → IsImage (f0 g) (c g)) → Stands k c
    with_node k same log c this others = record {
      node = this;
      entries = subst (λ es. Holds es (c 1)) (sym same) (entries_there.this (c 1) (others 1 one_ne));
      log = subst (λ (l : Log). LogIs l c) (sym log) (log_from c (λ s below. others (2 + s) (λ is. absurd (omega arith))));
    }

    pub raise_made : OthersStay 0 f0 f1 → (AllTell kept.node f0 f0 → OnOk result (AllTell next.node f0 f1)) → (AllTell kept.node f0 f0 → EachTells kept.node next.node f0 f1)
        → (AllTell kept.node f0 f0 → LeavesOnly L.moment L.left_since old new (BeforeOrAfter f0 kept.node next.node))
        → (AllTell kept.node f0 f0 → FuseEnds 5 Device (RaiseLeft kept.node next.node (1 - kept.node.slot)) (L.state old) (L.state new) result)
        → IsMade L.state L.moment L.left_since (raise_part kept term voted ∷ []) kept old new result
    raise_made others done each run fuse =
        let last = names_slot (1 - kept.node.slot) in
        one_made L T 0 NodeIs kept next 5 last old new result honest all (with_node kept refl refl) (with_node next refl refl) others (done nodes_there) (each nodes_there) (run nodes_there)
        (ends_weaker T MemberFault Device 5 (RaiseLeft kept.node next.node (1 - kept.node.slot)) (λ left k. (choice : Choice) → NodeIs (if (k == 4) && last choice then next else kept) (left_by choice (left.files 0))) (L.state old) (L.state new) result
        (λ k few left. λ choice. node_if ((k == 4) && last choice) next kept (left_by choice (f1 0)) (left choice)) (fuse nodes_there))

  module _ (entry : RecEntry) where
    abbrev added : Kept
    added = record kept { entries = kept.entries ++ entry ∷ [] }

    with_entries : (k : Kept) → k.node ≡ kept.node → k.log ≡ kept.log → (c : ℕ → List ℕ) → Holds k.entries (c 1) → ((g : ℕ) → g ≢ 1 → IsImage (f0 g) (c g)) → Stands k c
    with_entries k same log c this others = record {
      node = subst (λ n. Tells n (c 0)) (sym same) (nodes_there.this (c 0) (others 0 none_ne));
      entries = this;
      log = subst (λ (l : Log). LogIs l c) (sym log) (log_from c (λ s below. others (2 + s) (λ is. absurd (omega arith))));
    }

    pub addition_made : OthersStay 1 f0 f1 → (EveryImage 1 (Holds kept.entries) f0 f0 → OnOk result (EveryImage 1 (Holds added.entries) f0 f1))
        → (EveryImage 1 (Holds kept.entries) f0 f0 → EveryImage 1 (HoldsOne kept.entries added.entries) f0 f1)
        → (EveryImage 1 (Holds kept.entries) f0 f0 → LeavesOnly L.moment L.left_since old new (FileIs 1 (HoldsOne kept.entries added.entries) f0))
        → (EveryImage 1 (Holds kept.entries) f0 f0 → FuseEnds 5 Device (AddLeft kept.entries added.entries) (L.state old) (L.state new) result)
        → IsMade L.state L.moment L.left_since (record { calls = 5; last = takes is_open; makes = added } ∷ []) kept old new result
    addition_made others done each run fuse =
        one_made L T 1 EntriesAre kept added 5 (takes is_open) old new result honest all (with_entries kept refl refl) (with_entries added refl refl) others (done entries_there) (each entries_there) (run entries_there)
        (ends_weaker T MemberFault Device 5 (AddLeft kept.entries added.entries) (λ left k. (choice : Choice) → EntriesAre (if (k == 4) && takes is_open choice then added else kept) (left_by choice (left.files 1))) (L.state old) (L.state new) result
        (λ k few left. λ choice. entries_if ((k == 4) && takes is_open choice) added kept (left_by choice (f1 1)) (left choice)) (fuse entries_there))

-- nothing was called
pub none_made : {D : Type 0} (L : DiskLaws D) (T : Type 0) (p : Part) (kept : Kept) (old : D) (e : MemberFault) → IsTrue (L.is_honest old) → EachStands kept (L.state old).files → (e ≡ Device → ⊥) → IsMade {T = T} L.state L.moment L.left_since (p ∷ []) kept old old (Err e)
none_made L T p kept old e honest all other = record {
  done = tt;
  each = λ c image. inl (all c image);
  run = started L.moment L.left_since old (StandsAmong (stages (p ∷ []) kept)) (λ c left. inl (all c (L.only_now old c honest left)));
  fuse = λ alive. λ is. absurd (other is);
}

-- a change of a file behind the segments leaves standing what is kept
module _ {D : Type 0} (L : DiskLaws D) (kept : Kept) (old mid : D) (file : ℕ) (past : 258 ≤ file) (honest : IsTrue (L.is_honest old)) (all : EachStands kept (L.state old).files) (others : OthersStay file (L.state old).files (L.state mid).files) where
  apart : (g : ℕ) → g < 258 → g ≢ file
  apart g below is = absurd (omega arith)

  pub stays_all : EachStands kept (L.state mid).files
  stays_all c image = stands_from L (Unit {0}) kept old mid (Ok tt) honest all c (λ g below. subst (λ s. IsImage s (c g)) (others g (apart g below)) (image g))

  pub stays_run : LeavesOnly L.moment L.left_since old mid (FileIs file (λ _. Unit {0}) (L.state old).files) → LeavesOnly L.moment L.left_since old mid (Stands kept)
  stays_run run = weaker L.moment L.left_since old mid (FileIs file (λ _. Unit {0}) (L.state old).files) (Stands kept) (λ c is. stands_from L (Unit {0}) kept old mid (Ok tt) honest all c (λ g below. is.others g (apart g below))) run

  pub stays_fuse : (T : Type 0) (n : ℕ) (result : Result T MemberFault) → FuseEnds n Device (λ _ _. Unit {0}) (L.state old) (L.state mid) result → FuseEnds n Device (StillStands kept) (L.state old) (L.state mid) result
  stays_fuse T n result ends = ends_weaker T MemberFault Device n (λ _ _. Unit {0}) (StillStands kept) (L.state old) (L.state mid) result
      (λ k few left. λ choice. stands_from L (Unit {0}) kept old mid (Ok tt) honest all (λ f. left_by choice ((L.state mid).files f)) (λ g below. subst (λ s. IsImage ((L.state old).files g) (left_by choice s)) (sym (others g (apart g below))) (left_is_image choice ((L.state old).files g) (record { reads = L.reads old g honest; synced = L.synced old g honest })))) ends
