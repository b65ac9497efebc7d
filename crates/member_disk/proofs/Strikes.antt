-- A strike in the recording log, as a change of what is kept.
use Rattle.std.specs.Prelude.{◌&&◌, if◌then◌else◌, OnOk}
use Rattle.std.proofs.Common.{◌≡◌, ◌≢◌, ◌⊎◌, inl, inr, ⊎_elim, ℕ, ◌+◌, ◌<◌, ◌==◌, Bool, true, false, List, Result, Err, IsTrue, refl, sym, subst, arith}
use Rattle.cl_base.specs.Disk.{FileState, DiskState, IsImage, OthersStay, LeavesOnly, left_by}
use Rattle.cl_base.specs.Images.{left_is_image}
use Rattle.cl_base.specs.Every.{EveryImage, FileIs, takes}
use Rattle.cl_base.specs.Torn.{started, weaker}
use Rattle.cl_base.specs.Fuse.{FuseEnds, ends_weaker}
use Rattle.cl_base.specs.Runs.{DiskLaws}
use Rattle.cl_base.specs.declared.disk.Choice.{Choice}
use Rattle.cl_base.specs.declared.fault.MemberFault.{MemberFault}
use Rattle.cl_base.specs.declared.fault.MemberFault.TheVariants.{Device}
use Rattle.node_state.specs.Node.{Tells}
use Rattle.recording_log.specs.declared.entry.RecEntry.{RecEntry}
use Rattle.recording_log.specs.Entries.{Holds}
use Rattle.recording_log.specs.Sets.{is_struck}
use Rattle.recording_log.specs.Steps.{StrikeLeft}
use Rattle.recording_log.specs.Valid as valid
use Rattle.entry_log.specs.Log.{Log}
use Rattle.log_segment.specs.Segment.{SegmentIs, LogIs}
use Rattle.member_disk.specs.Kept.{Kept, Stands, EachStands}
use Rattle.member_disk.specs.Struck.{CountsAs, CountsAsOne, StruckLeft, IsStruck}
use Rattle.member_disk.proofs.Compose.{on_ok, every_of}

module _ {D : Type 0} (L : DiskLaws D) (T : Type 0) (kept : Kept) (entries : List RecEntry) (old new : D) (result : Result T MemberFault) (honest : IsTrue (L.is_honest old)) (all : EachStands kept (L.state old).files)
    (others : OthersStay 1 (L.state old).files (L.state new).files) where
  abbrev f0 : ℕ → FileState
  f0 = (L.state old).files

  abbrev f1 : ℕ → FileState
  f1 = (L.state new).files

  abbrev after : Kept
  after = record kept { entries = entries }

  none_ne : ◌≢◌ {A = ℕ} 0 1
  none_ne is = absurd (omega arith)

  node_from : (c : ℕ → List ℕ) → ((g : ℕ) → g ≢ 1 → IsImage (f0 g) (c g)) → Tells kept.node (c 0)
  node_from c image = (every_of L 0 (Tells kept.node) kept old honest all (λ x is. is.node)).this (c 0) (image 0 none_ne)

  log_from : (c : ℕ → List ℕ) → ((g : ℕ) → g ≢ 1 → IsImage (f0 g) (c g)) → LogIs kept.log c
  log_from c image s below = (every_of L (2 + s) (SegmentIs s kept.log) kept old honest all (λ x is. is.log s below)).this (c (2 + s)) (image (2 + s) (λ is. absurd (omega arith)))

  counts : (k : Kept) → k.node ≡ kept.node → k.log ≡ kept.log → (c : ℕ → List ℕ) → valid.Stands (valid.valid_of k.entries) (c 1) → ((g : ℕ) → g ≢ 1 → IsImage (f0 g) (c g)) → CountsAs k c
  counts k same_node same_log c this image = record {
    node = subst (λ n. Tells n (c 0)) (sym same_node) (node_from c image);
    entries = this;
    log = subst (λ (l : Log). LogIs l c) (sym same_log) (log_from c image);
  }

  one : (c : ℕ → List ℕ) → valid.StandsOne (valid.valid_of kept.entries) (valid.valid_of entries) (c 1) → ((g : ℕ) → g ≢ 1 → IsImage (f0 g) (c g)) → CountsAsOne kept after c
  one c this image = ⊎_elim (λ was. inl (counts kept refl refl c was image)) (λ now. inr (counts after refl refl c now image)) this

  pick : (b : Bool) (c : ℕ → List ℕ) → valid.Stands (if b then valid.valid_of entries else valid.valid_of kept.entries) (c 1) → ((g : ℕ) → g ≢ 1 → IsImage (f0 g) (c g)) → CountsAs (if b then after else kept) c
  pick true c this image = counts after refl refl c this image
  pick false c this image = counts kept refl refl c this image

  now_image : (c : ℕ → List ℕ) → ((g : ℕ) → IsImage (f1 g) (c g)) → (g : ℕ) → g ≢ 1 → IsImage (f0 g) (c g)
  now_image c image g ne = subst (λ s. IsImage s (c g)) (others g ne) (image g)

  abbrev before_it : EveryImage 1 (Holds kept.entries) f0 f0
  before_it = every_of L 1 (Holds kept.entries) kept old honest all (λ c is. is.entries)

  pub strike_made : (EveryImage 1 (Holds kept.entries) f0 f0 → OnOk result (EveryImage 1 (Holds entries) f0 f1))
      → (EveryImage 1 (Holds kept.entries) f0 f0 → EveryImage 1 (valid.StandsOne (valid.valid_of kept.entries) (valid.valid_of entries)) f0 f1)
      → (EveryImage 1 (Holds kept.entries) f0 f0 → LeavesOnly L.moment L.left_since old new (FileIs 1 (valid.StandsOne (valid.valid_of kept.entries) (valid.valid_of entries)) f0))
      → (EveryImage 1 (Holds kept.entries) f0 f0 → FuseEnds 2 Device (StrikeLeft kept.entries entries) (L.state old) (L.state new) result)
      → IsStruck L.state L.moment L.left_since kept after old new result
  strike_made done each run fuse = record {
    done = on_ok T MemberFault (EveryImage 1 (Holds entries) f0 f1) (EachStands after f1) result
        (λ every c image. record { node = node_from c (now_image c image); entries = every.this (c 1) (image 1); log = log_from c (now_image c image) }) (done before_it);
    each = λ c image. one c ((each before_it).this (c 1) (image 1)) (now_image c image);
    run = weaker L.moment L.left_since old new (FileIs 1 (valid.StandsOne (valid.valid_of kept.entries) (valid.valid_of entries)) f0) (CountsAsOne kept after) (λ c is. one c is.this is.others) (run before_it);
    fuse = ends_weaker T MemberFault Device 2 (StrikeLeft kept.entries entries) (StruckLeft kept after) (L.state old) (L.state new) result
        (λ k few left. λ choice. pick ((k == 1) && takes is_struck choice) (λ f. left_by choice (f1 f)) (left choice)
        (λ g ne. subst (λ s. IsImage (f0 g) (left_by choice s)) (sym (others g ne)) (left_is_image choice (f0 g) (record { reads = L.reads old g honest; synced = L.synced old g honest })))) (fuse before_it);
  }

-- it failed before any call
pub not_struck : {D : Type 0} (L : DiskLaws D) (T : Type 0) (kept after : Kept) (old : D) (e : MemberFault) → IsTrue (L.is_honest old) → EachStands kept (L.state old).files → (e ≡ Device → ⊥) → IsStruck {T = T} L.state L.moment L.left_since kept after old old (Err e)
not_struck L T kept after old e honest all other =
    let same : (c : ℕ → List ℕ) → Stands kept c → CountsAs kept c = λ c is. record { node = is.node; entries = record { entries = kept.entries; holds = is.entries; counts = refl }; log = is.log } in
    record {
      done = tt;
      each = λ c image. inl (same c (all c image));
      run = started L.moment L.left_since old (CountsAsOne kept after) (λ c left. inl (same c (all c (L.only_now old c honest left))));
      fuse = λ alive. λ is. absurd (other is);
    }
