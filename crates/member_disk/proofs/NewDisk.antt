-- The disk of a new member.
use Rattle.std.specs.Prelude.{OnOk}
use Rattle.std.proofs.Common.{◌≡◌, ℕ, ◌+◌, ◌<◌, ◌≤◌, zero, suc, List, [], Result, Ok, Err, refl, sym, ◌∙◌, ap, subst, arith}
use Rattle.cl_base.specs.Disk.{FileState, IsImage, IsImageOf, settled_file}
use Rattle.cl_base.specs.Torn.{settled_image}
use Rattle.cl_base.specs.Runs.{EachImage}
use Rattle.node_state.specs.Node as nodes
use Rattle.node_state.specs.Node.{Tells}
use Rattle.recording_log.specs.Entries as entries
use Rattle.recording_log.specs.Entries.{Holds}
use Rattle.log_segment.specs.Segment.{LogIs}
use Rattle.member_disk.specs.Kept.{Stands}
use Rattle.member_disk.specs.Fresh.{IsFresh, fresh}

-- a file that is all on the disk
abbrev IsAll : FileState → Type 0
IsAll s = s ≡ settled_file s.reads

all_of : (s : FileState) (bytes : List ℕ) → s ≡ settled_file bytes → IsAll s
all_of s bytes is = is ∙ ap settled_file (sym (ap (λ (x : FileState). x.reads) is))

image_is : (s : FileState) (c : List ℕ) → IsAll s → IsImage s c → c ≡ s.reads
image_is s c all image = settled_image s.reads c (subst (λ x. IsImage x c) all image)

reads_image : (s : FileState) → IsAll s → IsImage s s.reads
reads_image s all = subst (λ x. IsImage x s.reads) (sym all) (record { no_shorter = omega arith; no_longer = omega arith; outside = λ i within inside out. refl })

module _ (files : ℕ → FileState) (node : nodes.IsFresh (files 0)) (log : entries.IsFresh (files 1)) (front : IsAll (files 2)) (rest : (f : ℕ) → 3 ≤ f → files f ≡ settled_file []) (each : EachImage (LogIs []) files) where
  all_there : (f : ℕ) → IsAll (files f)
  all_there zero = all_of (files 0) node.bytes node.settled
  all_there (suc zero) = all_of (files 1) log.bytes log.settled
  all_there (suc (suc zero)) = front
  all_there (suc (suc (suc n))) = all_of (files (suc (suc (suc n)))) [] (rest (suc (suc (suc n))) (omega arith))

  stands : (services : ℕ) (c : ℕ → List ℕ) → IsImageOf files c → Stands (fresh services) c
  stands services c image = record {
    node = subst (Tells nodes.fresh) (sym (settled_image node.bytes (c 0) (subst (λ x. IsImage x (c 0)) node.settled (image 0)))) node.tells;
    entries = subst (Holds []) (sym (settled_image log.bytes (c 1) (subst (λ x. IsImage x (c 1)) log.settled (image 1)))) log.holds;
    log = each c image;
  }

  pub fresh_all : IsFresh files
  fresh_all = record {
    each = stands;
    reads = λ services. stands services (λ f. (files f).reads) (λ f. reads_image (files f) (all_there f));
    settled = λ c image f below. image_is (files f) (c f) (all_there f) (image f);
    snapshots = λ f past. rest f (omega (arith, past));
  }

-- after the last of three calls
pub fresh_ok : {T E : Type 0} (files : ℕ → FileState) → nodes.IsFresh (files 0) → entries.IsFresh (files 1) → ((f : ℕ) → 3 ≤ f → files f ≡ settled_file []) → (r : Result T E) → OnOk r (EachImage (LogIs []) files) → OnOk r (IsAll (files 2)) → OnOk r (IsFresh files)
fresh_ok files node log rest (Ok v) each front = fresh_all files node log front rest each
fresh_ok files node log rest (Err e) each front = tt
