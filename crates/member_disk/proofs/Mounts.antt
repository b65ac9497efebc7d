-- What a mount reads is what is kept.
use Rattle.std.proofs.Common.{◌≡◌, ◌≢◌, ℕ, ◌+◌, ◌<◌, Result, Ok, Err, List, IsTrue, sym, ◌∙◌, ap, subst, arith}
use Rattle.cl_base.specs.Disk.{FileState, DiskState, left_by, IsImage, IsImageOf, OthersStay}
use Rattle.cl_base.specs.Runs.{DiskLaws, with_file, with_this, image_with}
use Rattle.node_state.specs.Node.{AllStand, Stays, LeavesNode}
use Rattle.node_state.specs.Steps.{AllTell}
use Rattle.node_state.specs.Once.{stands_once}
use Rattle.recording_log.specs.Entries.{Holds}
use Rattle.recording_log.specs.Once.{holds_once}
use Rattle.log_segment.specs.Segment.{SegmentIs, LogIs}
use Rattle.member_disk.specs.Kept.{Kept, Stands, Means, IsSettled, ReadsLike}
use Rattle.member_disk.specs.Parts.{MountEnds}
use Rattle.member_disk.proofs.Standing.{one_ne}
use Rattle.cl_base.specs.Images.{left_is_image}
use Rattle.cl_base.specs.Fuse.{FuseEnds, Later, ends_weaker, fuse_then}
use Rattle.cl_base.specs.declared.disk.Choice.{Choice}
use Rattle.cl_base.specs.declared.fault.MemberFault.{MemberFault}
use Rattle.cl_base.specs.declared.fault.MemberFault.TheVariants.{Device}

pub kept_once : (files : ℕ → FileState) (a b : Kept) → ReadsLike a files → ReadsLike b files → a.log ≡ b.log → a.services ≡ b.services → a ≡ b
kept_once files a b first second log services =
    let node = stands_once (files 0).reads a.node b.node first.node second.node in
    let entries = holds_once a.entries b.entries (files 1).reads first.entries second.entries in
    λ n. record { node = node n; entries = entries n; log = log n; services = services n }

module _ {D : Type 0} (L : DiskLaws D) (old : D) (honest : IsTrue (L.is_honest old)) (settled : IsSettled (L.state old).files) where
  abbrev f0 : ℕ → FileState
  f0 = (L.state old).files

  -- one file's image among what reads give of the others
  whole : (f : ℕ) (c : List ℕ) → IsImage (f0 f) c → IsImageOf f0 (with_file f c (λ g. (f0 g).reads))
  whole f c image = image_with f0 f c (λ g. (f0 g).reads) image (λ g ne. L.reads old g honest)

  pub settled_at : (f : ℕ) → f < 258 → (c : List ℕ) → IsImage (f0 f) c → c ≡ (f0 f).reads
  settled_at f below c image = sym (with_this f c (λ g. (f0 g).reads)) ∙ settled (with_file f c (λ g. (f0 g).reads)) (whole f c image) f below

  pub settled_first : (c : List ℕ) → IsImage (f0 0) c → c ≡ (f0 0).reads
  settled_first = settled_at 0 (omega arith)

  pub mounted_all : (kept : Kept) (f1 f2 : ℕ → FileState) → AllTell kept.node f0 f1 → ((g : ℕ) → f2 g ≡ f1 g) → Holds kept.entries (f1 1).reads → LogIs kept.log (λ f. (f1 f).reads) → (c : ℕ → List ℕ) → IsImageOf f2 c → Stands kept c
  mounted_all kept f1 f2 all same holds log c image = record {
    node = all.this (c 0) (subst (λ s. IsImage s (c 0)) (same 0) (image 0));
    entries = subst (Holds kept.entries) (read_is 1 (omega arith) one_ne) holds;
    log = λ s below. subst (SegmentIs s kept.log) (read_is (2 + s) (omega arith) (λ is. absurd (omega arith))) (log s below);
  }
    where
      read_is : (g : ℕ) → g < 258 → g ≢ 0 → (f1 g).reads ≡ c g
      read_is g below other =
          let here : f2 g ≡ f0 g = same g ∙ all.others g other in
          let is : c g ≡ (f0 g).reads = settled_at g below (c g) (subst (λ s. IsImage s (c g)) here (image g)) in
          ap (λ (s : FileState). s.reads) (all.others g other) ∙ sym is

-- a mount under a fuse, and at any moment
module _ {D : Type 0} (L : DiskLaws D) (old : D) (honest : IsTrue (L.is_honest old)) (settled : IsSettled (L.state old).files) (kept : Kept) (reads : ReadsLike kept (L.state old).files) where
  abbrev s0 : DiskState
  s0 = L.state old

  entries_of : (c : List ℕ) → IsImage (s0.files 1) c → Holds kept.entries c
  entries_of c image = subst (Holds kept.entries) (sym (settled_at L old honest settled 1 (omega arith) c image)) reads.entries

  log_of : (c : ℕ → List ℕ) → ((g : ℕ) → g ≢ 0 → IsImage (s0.files g) (c g)) → LogIs kept.log c
  log_of c image s below = subst (SegmentIs s kept.log) (sym (settled_at L old honest settled (2 + s) (omega arith) (c (2 + s)) (image (2 + s) (λ is. absurd (omega arith))))) (reads.log s below)

  pub means_first : (c : ℕ → List ℕ) → Stays s0.files kept.node c → Means kept c
  means_first c now = record { node = now.this; entries = entries_of (c 1) (now.others 1 one_ne); log = log_of c now.others }

  pub means_then : (f1 : ℕ → FileState) → AllStand kept.node s0.files f1 → (c : ℕ → List ℕ) → IsImageOf f1 c → Means kept c
  means_then f1 all c image = record {
    node = all.this (c 0) (image 0);
    entries = entries_of (c 1) (subst (λ s. IsImage s (c 1)) (all.others 1 one_ne) (image 1));
    log = log_of c (λ g other. subst (λ s. IsImage s (c g)) (all.others g other) (image g));
  }

  left_image : (choice : Choice) (s1 : DiskState) → OthersStay 0 s0.files s1.files → (g : ℕ) → g ≢ 0 → IsImage (s0.files g) (left_by choice (s1.files g))
  left_image choice s1 others g other = subst (λ s. IsImage (s0.files g) (left_by choice s)) (sym (others g other)) (left_is_image choice (s0.files g) (record { reads = L.reads old g honest; synced = L.synced old g honest }))

  pub first_ended : (T U : Type 0) (n : ℕ) (s1 : DiskState) (e : MemberFault) → OthersStay 0 s0.files s1.files → FuseEnds {T = T} n Device (LeavesNode kept.node) s0 s1 (Err e) → MountEnds {T = U} n kept s0 s1 (Err e)
  first_ended T U n s1 e others ends =
      ends_weaker U MemberFault Device n (LeavesNode kept.node) (λ left k. (choice : Choice) → Means kept (λ f. left_by choice (left.files f))) s0 s1 (Err e)
      (λ k few left. λ choice. let left_there = left_image choice s1 others in record {
        node = left choice;
        entries = entries_of (left_by choice (s1.files 1)) (left_there 1 one_ne);
        log = log_of (λ f. left_by choice (s1.files f)) left_there;
      })
      ends

  pub second_ended : (T U : Type 0) (n : ℕ) (s1 s2 : DiskState) (v : T) (answer : Result U MemberFault) → FuseEnds {T = T} n Device (LeavesNode kept.node) s0 s1 (Ok v) → FuseEnds {T = U} 0 Device (λ _ _. Unit {0}) s1 s2 answer
      → MountEnds {T = U} n kept s0 s2 answer
  second_ended T U n s1 s2 v answer first second alive =
      let same : n + 0 ≡ n = omega arith in
      subst (λ m. MountEnds m kept s0 s2 answer) same
      (ends_weaker U MemberFault Device (n + 0) (Later n (λ _ _. Unit {0})) (λ left k. (choice : Choice) → Means kept (λ f. left_by choice (left.files f))) s0 s2 answer
      (λ k few left. absurd (omega (arith, left.0)))
      (fuse_then U MemberFault Device n 0 (λ _ _. Unit {0}) s0 s1 s2 answer (first alive) second)) alive
