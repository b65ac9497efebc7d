-- A member's disk against what it stands for in the world of a run.
use Rattle.std.specs.Prelude.{◌≡◌, ℕ, ◌+◌, ℤ, pos, false, Contains}
use Rattle.cl_base.specs.Disk.{FileState, DiskState, settled_file}
use Rattle.cl_base.specs.declared.disk.Choice.{Choice}
use Rattle.entry_log.specs.Durable.{Durable, SnapshotEntry}
use Rattle.entry_log.specs.Log.{Log}
use Rattle.recording_log.specs.declared.entry.RecEntry.{RecEntry}
use Rattle.snapshot_store.specs.Snapshots.{spelled}
use Rattle.log_segment.specs.Held.{IsHeld, new_terms}
use Rattle.log_segment.specs.declared.kept.NewTerm.{NewTerm}
use Rattle.member_disk.specs.Kept.{Kept}
use Rattle.member_disk.specs.Changes.{HaveTerms, base_of}
use Rattle.member_disk.specs.CutWell.{snapshots_of}
use Rattle.service_phases.specs.Pairs.{Each, Each2}
use Rattle.run_world.specs.Seat.{Faults}

-- a snapshot entry stands in the recording log, and its pieces in the file that it names, all of it on the disk
pub record IsStored (files : ℕ → FileState) (e : RecEntry) (s : SnapshotEntry) : Type 0 where
  pub recording : e.recording ≡ pos s.recording
  pub service : e.service ≡ s.service
  pub term : e.term ≡ s.term
  pub position : e.position ≡ pos s.position
  pub stamp : e.stamp ≡ s.stamp
  pub pieces : files (258 + s.recording) ≡ settled_file (spelled s.pieces)

-- what is kept, with the files of its snapshots, is this durable state
pub record IsStateOf (kept : Kept) (files : ℕ → FileState) (d : Durable) : Type 0 where
  pub candidate : d.candidate ≡ kept.node.term
  pub voted : d.voted ≡ kept.node.voted
  pub log : d.log ≡ kept.log
  pub snapshots : Each2 (IsStored files) (snapshots_of kept.entries) d.snapshots

-- the term begins in this log
abbrev pub Begins : ℤ → Log → Type 0
Begins term log = (t : NewTerm) × Contains (new_terms 0 log) t × (t.term ≡ term)

-- a snapshot's entry has a term that begins in this log, and says where
pub record HasBase (log : Log) (e : RecEntry) : Type 0 where
  pub begins : Begins e.term log
  pub base : e.base ≡ pos (base_of e.term (new_terms 0 log))

-- what is kept of a member with so many services can be mounted, and its snapshots' entries go with its log
pub record IsMountable (services : ℕ) (kept : Kept) : Type 0 where
  pub count : kept.services ≡ services
  pub held : IsHeld kept.log
  pub terms : HaveTerms kept.entries (new_terms 0 kept.log)
  pub bases : Each (HasBase kept.log) (snapshots_of kept.entries)

-- how the disk will fail: its fuse, which has refused nothing yet, what the crash after it leaves, and how often the disk failed of itself
pub record HasFaults (d : DiskState) (choice : Choice) (f : Faults) : Type 0 where
  pub lets : f.lets ≡ d.lets
  pub left : f.choice ≡ choice
  pub own : f.own ≡ d.own_faults
  pub alive : d.burnt ≡ false
