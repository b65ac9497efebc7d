-- Changes of a member's disk that are cut well: whenever a crash comes, a mount finds the state before or the one after.
use Rattle.std.specs.Prelude.{◌≡◌, ◌⊎◌, ℕ, ◌+◌, ◌≤◌, List}
use Rattle.std.specs.List.{filter}
use Rattle.cl_base.specs.Disk.{FileState, DiskState, IsImage, LeavesOnly}
use Rattle.cl_base.specs.Runs.{EachImage}
use Rattle.node_state.specs.Node.{Tells}
use Rattle.recording_log.specs.declared.entry.RecEntry.{RecEntry}
use Rattle.recording_log.specs.Entries.{Holds}
use Rattle.recording_log.specs.Valid.{is_snapshot}
use Rattle.log_segment.specs.Segment.{LogIs}
use Rattle.log_segment.specs.Held.{new_terms}
use Rattle.member_disk.specs.Kept.{Kept}
use Rattle.member_disk.specs.Changes.{HaveTerms}

-- the SNAPSHOT entries that count, in the order of the file
abbrev pub snapshots_of : List RecEntry → List RecEntry
snapshots_of entries = filter is_snapshot entries

-- The files stand for this node, this log and these SNAPSHOT entries that count, and have a TERM entry for each term that
-- begins in the log: what a mount takes from the first 258 files. Further TERM entries mean nothing.
pub record IsDurable (kept : Kept) (c : ℕ → List ℕ) : Type 0 where
  pub node : Tells kept.node (c 0)
  pub entries : List RecEntry
  pub holds : Holds entries (c 1)
  pub snapshots : snapshots_of entries ≡ snapshots_of kept.entries
  pub terms : HaveTerms entries (new_terms 0 kept.log)
  pub log : LogIs kept.log c

-- for the state before, or for the one after
abbrev pub IsDurableOne : Kept → Kept → (ℕ → List ℕ) → Type 0
IsDurableOne before after c = IsDurable before c ⊎ IsDurable after c

-- each file of a snapshot, but those that change, is as a crash could leave it before
abbrev pub KeepsSnapshots : (ℕ → Type 0) → (ℕ → FileState) → (ℕ → List ℕ) → Type 0
KeepsSnapshots changes files c = (g : ℕ) → 258 ≤ g → (changes g → ⊥) → IsImage (files g) (c g)

-- a change that leaves alone the files of snapshots, but those that it changes: after it, and at any moment of it
pub record Spares {D : Type 0} (state : D → DiskState) (moment : D → ℕ) (left_since : D → ℕ → (ℕ → List ℕ) → Type 0) (changes : ℕ → Type 0) (old new : D) : Type 0 where
  pub files : (g : ℕ) → 258 ≤ g → (changes g → ⊥) → (state new).files g ≡ (state old).files g
  pub run : LeavesOnly moment left_since old new (KeepsSnapshots changes (state old).files)

-- A change of what is kept is cut well: after any answer, and at any moment of the call, each image of the disk is durable
-- as before or as after, and no other snapshot's file is touched than those that change.
pub record IsCutWell {D : Type 0} (state : D → DiskState) (moment : D → ℕ) (left_since : D → ℕ → (ℕ → List ℕ) → Type 0) (changes : ℕ → Type 0) (before after : Kept) (old new : D) : Type 0 where
  pub each : EachImage (IsDurableOne before after) (state new).files
  pub run : LeavesOnly moment left_since old new (IsDurableOne before after)
  pub snapshots : Spares state moment left_since changes old new

-- no file of a snapshot changes
abbrev pub no_file : ℕ → Type 0
no_file g = ⊥

-- that of this recording does
abbrev pub file_of : ℕ → ℕ → Type 0
file_of recording g = g ≡ 258 + recording
