-- The snapshots that a phase's end writes.
use Rattle.std.specs.Prelude.{◌≡◌, ◌⊎◌, ℕ, ◌+◌, ◌*◌, ◌-◌, ◌≤◌, ℤ, pos, negsuc, Bool, false, IsTrue, List, [], ◌∷◌, ◌++◌, take, Option, Some, None}
use Rattle.cl_base.specs.Disk.{DiskState, settled_file}
use Rattle.cl_base.specs.Fuse.{Passed}
use Rattle.cl_base.specs.Runs.{EachImage}
use Rattle.entry_log.specs.Log.{Log}
use Rattle.entry_log.specs.Shape.{Shape, end_of, shape_of}
use Rattle.sbe_events.specs.declared.event.Event.{Event}
use Rattle.sbe_events.specs.declared.event.Event.TheVariants as events
use Rattle.member_disk.specs.declared.durable.SnapshotHead.{SnapshotHead}
use Rattle.member_disk.specs.Changes.{IsPut, entry_for}
use Rattle.member_disk.specs.CutWell.{IsDurableOne}
use Rattle.member_disk.specs.Kept.{EachStands, Kept, Held as DiskHeld}
use Rattle.member_disk.specs.Parts.{put_part}
use Rattle.module_state.specs.Module.{Module}
use Rattle.module_state.specs.Restored.{records_of}
use Rattle.owed_egress.specs.Taken.{Outboxes, module_at}
use Rattle.recording_log.specs.Listed.{IsThere}
use Rattle.service_container.specs.Held.{Held}
use Rattle.service_container.specs.Records.{found_at}
use Rattle.snapshot_pieces.specs.Pieces.{between, service_pieces_of}
use Rattle.snapshot_pieces.specs.declared.origin.Origin.{Origin}
use Rattle.snapshot_store.specs.Snapshots.{spelled}
use Rattle.member_module.specs.Held.{Held as ModuleHeld}
use Rattle.consensus_agent.specs.Consumed.{outboxes}
use Rattle.consensus_agent.specs.Disks.{IsRight}
use Rattle.consensus_agent.specs.declared.snapshots.Action.{Action}

-- ---- which snapshots

-- a snapshot as it is put: its entry, but for where its term begins, and its pieces
pub record Snapshot : Type 0 where
  pub head : SnapshotHead
  pub pieces : List (List ℕ)

-- the place of a service's snapshot among those of an action, the module's (-1) being 0
abbrev pub seat_of : ℤ → ℕ
seat_of (pos n) = n + 1
seat_of (negsuc n) = 0

-- the entry of a service, or of the module, at an action
abbrev pub head_at : Action → ℤ → SnapshotHead
head_at a service = record { recording = 4 * a.before + seat_of service; service = service; term = a.term; position = a.position; stamp = a.stamp }

-- what its pieces are of
abbrev pub origin_at : Action → ℤ → Origin
origin_at a service = record { service = service; position = a.position; term = a.term }

-- the snapshot of a service with these records, where it left any
abbrev pub snapshot_with : Action → ℕ → Option (List ℕ) → List Snapshot
snapshot_with a service None = []
snapshot_with a service (Some records) = record { head = head_at a (pos service); pieces = service_pieces_of (origin_at a (pos service)) records } ∷ []

-- the snapshots of the services at an action, by rising number
abbrev pub service_snapshots : Action → List Held → List Snapshot
service_snapshots a [] = []
service_snapshots a (c ∷ cs) = snapshot_with a c.service (found_at a.index c.records) ++ service_snapshots a cs

-- and of the module
abbrev pub module_snapshot : Action → Snapshot
module_snapshot a = record { head = head_at a (negsuc 0); pieces = a.pieces }

-- the snapshots of actions, in order: the services' and then the module's of each
abbrev pub snapshots_of : List Held → List Action → List Snapshot
snapshots_of cs [] = []
snapshots_of cs (a ∷ as') = (service_snapshots a cs ++ module_snapshot a ∷ []) ++ snapshots_of cs as'

-- ---- at which actions

-- an action with this term and stamp, whose entry has this index and ends at this place, and after which the module is this
abbrev pub action_at : ℕ → ℕ → ℤ → ℤ → Module → Action
action_at i position term stamp m = record {
  before = m.counts.actions - 1;
  index = i;
  term = term;
  stamp = stamp;
  position = position;
  pieces = between (record { service = negsuc 0; position = position; term = term }) (records_of m);
}

-- the action that the entry of an index is in a log of this shape, where it is one
abbrev pub action_with : Shape → ℕ → Option Event → Module → List Action
action_with xs i (Some (events.Snapshot term position stamp)) m = action_at i (end_of (take (i + 1) xs)) term stamp m ∷ []
action_with xs i _ m = []

-- the actions among entries with these events, from an index on
abbrev pub actions_over : Outboxes → Shape → ℕ → Module → List Event → List Action
actions_over bs xs i m [] = []
actions_over bs xs i m (e ∷ es) = action_with xs i (Some e) (module_at bs i m e) ++ actions_over bs xs (i + 1) (module_at bs i m e) es

-- the snapshots that a phase owes whose services came back so, where the module takes so many of the entries ahead of it in this log
abbrev pub phase_snapshots : List Held → Log → ModuleHeld → ℕ → List Snapshot
phase_snapshots cs log m n = snapshots_of cs (actions_over (outboxes cs) (shape_of log) m.consumed m.state (take n m.ahead.events))

-- ---- what they leave of the disk

-- its entry is there already
abbrev pub IsThereIn : Snapshot → Kept → Type 0
IsThereIn s k = IsThere (entry_for k s.head) k.entries

module _ {D : Type 0} (state : D → DiskState) (is_told is_honest : D → Bool) where
  -- a snapshot was put, with its file on the disk; one that was there already changes nothing
  pub record IsWritten (s : Snapshot) (a b : DiskHeld D) : Type 0 where
    pub tells : is_told b.disk ≡ is_told a.disk
    pub honest : is_honest b.disk ≡ is_honest a.disk
    pub put : IsPut s.head a.kept b.kept
    pub again : IsThereIn s a.kept → b.disk ≡ a.disk
    pub stored : IsTrue (is_told a.disk) → (IsThereIn s a.kept → ⊥) → (state b.disk).files (258 + s.head.recording) ≡ settled_file (spelled s.pieces)
    pub others : IsRight state is_told is_honest a → (g : ℕ) → 258 ≤ g → (g ≡ 258 + s.head.recording → ⊥) → (state b.disk).files g ≡ (state a.disk).files g
    pub right : IsRight state is_told is_honest a → IsRight state is_told is_honest b
    pub passed : IsRight state is_told is_honest a → (state a.disk).burnt ≡ false → (IsThereIn s a.kept → ⊥) → Passed 8 (state a.disk) (state b.disk)

  -- these were put, one after the other
  abbrev pub AreWritten : List Snapshot → DiskHeld D → DiskHeld D → Type 0
  AreWritten [] a b = b ≡ a
  AreWritten (s ∷ ss) a b = (m : DiskHeld D) × IsWritten s a m × AreWritten ss m b

  -- a fault came while a snapshot was put: each image is durable as before or as after it; and the snapshot is in its file, or each image stands for what was kept
  pub record IsCutOff (s : Snapshot) (a b : DiskHeld D) : Type 0 where
    pub tells : is_told b.disk ≡ is_told a.disk
    pub honest : is_honest b.disk ≡ is_honest a.disk
    pub kept : b.kept ≡ a.kept
    pub again : IsThereIn s a.kept → b.disk ≡ a.disk
    pub each : IsRight state is_told is_honest a → (IsThereIn s a.kept → ⊥) → EachImage (IsDurableOne a.kept (put_part a.kept s.head).makes) (state b.disk).files
    pub others : IsRight state is_told is_honest a → (g : ℕ) → 258 ≤ g → (g ≡ 258 + s.head.recording → ⊥) → (state b.disk).files g ≡ (state a.disk).files g
    pub filed : IsRight state is_told is_honest a → (IsThereIn s a.kept → ⊥) → EachStands a.kept (state b.disk).files ⊎ ((state b.disk).files (258 + s.head.recording) ≡ settled_file (spelled s.pieces))

  -- a fault came after some of these were put, or while the next one was
  pub record StoppedAmong (ss : List Snapshot) (a b : DiskHeld D) : Type 0 where
    pub written : List Snapshot
    pub rest : List Snapshot
    pub all : ss ≡ written ++ rest
    pub until : DiskHeld D
    pub done : AreWritten written a until
    pub last : (b ≡ until) ⊎ ((s : Snapshot) × (more : List Snapshot) × (rest ≡ s ∷ more) × IsCutOff s until b)
