-- What is read of a member's disk for a copy of it elsewhere.
use Rattle.std.specs.Prelude.{◌≡◌, ℕ, ℤ, pos, ◌≤ℤ◌, List, slice_get, Some}
use Rattle.cl_base.specs.declared.entry.Entry.{Entry}
use Rattle.entry_log.specs.Log.{Log}
use Rattle.entry_log.specs.Shape.{entry_shape}
use Rattle.log_segment.specs.Held.{IsEventEntry}
use Rattle.recording_log.specs.declared.entry.RecEntry.{RecEntry}
use Rattle.recording_log.specs.declared.entry.SnapshotAt.{SnapshotAt}
use Rattle.recording_log.specs.Listed.{IsListed}
use Rattle.recording_log.specs.Sets.{HasSet}

-- an event of the length and the term of the log's entry at this index
pub record IsLike (log : Log) (index : ℕ) (x : Entry) : Type 0 where
  pub own : Entry
  pub at : slice_get log index ≡ Some own
  pub event : IsEventEntry x
  pub shape : entry_shape x ≡ entry_shape own

-- a valid set of snapshots, and none of a member with so many services is later: by its position, and then by its term
pub record IsNewest (services : ℕ) (entries : List RecEntry) (s : SnapshotAt) : Type 0 where
  pub listed : IsListed services entries s
  pub latest : (term position : ℤ) → HasSet services entries term position → (position ≤ℤ pos s.position) × (position ≡ pos s.position → term ≤ℤ s.term)
