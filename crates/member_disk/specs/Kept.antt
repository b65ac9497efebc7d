-- What a member's disk stands for, and what is said of the disk itself.
use Rattle.std.specs.Prelude.{◌≡◌, ◌⊎◌, ℕ, ◌<◌, Bool, List, [], ◌∷◌}
use Rattle.cl_base.specs.Disk.{FileState, IsImageOf}
use Rattle.cl_base.specs.Runs.{EachImage}
use Rattle.node_state.specs.Node.{Node, Tells, StandsFor}
use Rattle.recording_log.specs.declared.entry.RecEntry.{RecEntry}
use Rattle.recording_log.specs.Entries.{Holds}
use Rattle.entry_log.specs.Log.{Log}
use Rattle.log_segment.specs.Segment.{LogIs}

-- the node of file 0, the entries of file 1, and the log of the segments, of a member with so many services
pub record Kept : Type 0 where
  pub node : Node
  pub entries : List RecEntry
  pub log : Log
  pub services : ℕ

-- a mounted disk: what is kept, and whether no change has failed
pub record Held (D : Type 0) : Type 0 where
  pub kept : Kept
  pub whole : Bool
  pub disk : D

-- the files stand for this
pub record Stands (kept : Kept) (c : ℕ → List ℕ) : Type 0 where
  pub node : Tells kept.node (c 0)
  pub entries : Holds kept.entries (c 1)
  pub log : LogIs kept.log c

-- each image of the disk stands for this
abbrev pub EachStands : Kept → (ℕ → FileState) → Type 0
EachStands kept files = EachImage (Stands kept) files

-- a read gives what stands for this
abbrev pub ReadsAs : Kept → (ℕ → FileState) → Type 0
ReadsAs kept files = Stands kept (λ f. (files f).reads)

-- the files stand for one of these
abbrev pub StandsAmong : List Kept → (ℕ → List ℕ) → Type 0
StandsAmong [] c = ⊥
StandsAmong (k ∷ ks) c = Stands k c ⊎ StandsAmong ks c

-- a crash leaves of the files up to the last segment what a read gives
abbrev pub IsSettled : (ℕ → FileState) → Type 0
IsSettled files = (c : ℕ → List ℕ) → IsImageOf files c → (f : ℕ) → f < 258 → c f ≡ (files f).reads

-- the files stand for this, file 0 perhaps in version 1
pub record Means (kept : Kept) (c : ℕ → List ℕ) : Type 0 where
  pub node : StandsFor (c 0) kept.node
  pub entries : Holds kept.entries (c 1)
  pub log : LogIs kept.log c

-- what is kept, as a read gives it
abbrev pub ReadsLike : Kept → (ℕ → FileState) → Type 0
ReadsLike kept files = Means kept (λ f. (files f).reads)
