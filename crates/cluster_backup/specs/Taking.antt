-- What a backup makes of the bytes that it is given.
use Rattle.std.specs.Prelude.{◌≡◌, ◌⊎◌, ℕ, ◌-◌, ◌<◌, ◌≤◌, ℤ, pos, negsuc, ◌≤ℤ◌, ◌<ℤ◌, unsigned_abs, List, [], ◌∷◌, length, drop, Option, Some, None, MatchOption, Result, IsErrOf, All}
use Rattle.cl_base.specs.Counts.{Rose}
use Rattle.cl_base.specs.declared.entry.Entry.{Entry}
use Rattle.cl_base.specs.declared.fault.MemberFault.{MemberFault}
use Rattle.cl_base.specs.declared.fault.MemberFault.TheVariants as member_faults
use Rattle.wire_prims.specs.Fields.{i64_at}
use Rattle.entry_log.specs.Log.{Log, RisesFrom, last, place, place_from}
use Rattle.log_segment.specs.Batch.{IsBatchAt}
use Rattle.log_segment.specs.Held.{IsEventEntry}
use Rattle.recording_log.specs.Sets.{HasSet}
use Rattle.member_disk.specs.Kept.{Kept}
use Rattle.member_disk.specs.Changes.{IsAppended, IsPut, IsMemberOf}
use Rattle.member_disk.specs.declared.durable.SnapshotHead.{SnapshotHead}
use Rattle.cluster_backup.specs.Spelling.{spelling_of}
use Rattle.cluster_backup.specs.declared.packet.BackupPacket.{BackupPacket}
use Rattle.cluster_backup.specs.declared.packet.BackupPacket.TheVariants.{Query, Log as LogPacket, Snapshot}
use Rattle.cluster_backup.specs.declared.answer.Taken.{Taken}
use Rattle.cluster_backup.specs.declared.answer.Taken.TheVariants.{Grown, Part, Nothing, Bad}
use Rattle.cluster_backup.specs.declared.answer.BackupFault.{BackupFault}
use Rattle.cluster_backup.specs.declared.answer.BackupFault.TheVariants as faults

-- ---- entries

-- the entry of an event, whose term is the first number of its block
abbrev pub entry_of : List ℕ → Entry
entry_of event = record { term = i64_at 8 event; bytes = event }

abbrev pub entries_of : List (List ℕ) → Log
entries_of [] = []
entries_of (b ∷ bs) = entry_of b ∷ entries_of bs

-- the entries of a packet that begins at an entry, past so many that are there
abbrev pub past : ℕ → ℤ → List (List ℕ) → Log
past count start events = entries_of (drop (count - unsigned_abs start) events)

-- entries that can go behind a log of this place and last term
pub record Fits (p : ℕ) (t : ℤ) (entries : Log) : Type 0 where
  -- one batch from there
  pub batch : IsBatchAt p entries
  -- within the log's end
  pub room : place_from p entries ≤ 16777216
  -- no term falls
  pub rises : RisesFrom t entries

-- a packet's entries reach the log, and those past it can go behind it
pub record Grows (log : Log) (start : ℤ) (events : List (List ℕ)) : Type 0 where
  pub reaches : unsigned_abs start ≤ length log
  pub fits : Fits (place log) (last log) (past (length log) start events)

-- entries that go behind a log: those of a packet that are past it
pub record IsBehind (log : Log) (start : ℤ) (events : List (List ℕ)) (entries : Log) : Type 0 where
  pub grows : Grows log start events
  pub are : entries ≡ past (length log) start events
  pub fits : Fits (place log) (last log) entries
  pub each : All IsEventEntry entries

-- the entries of a packet that go behind a log, none where it doesn't grow it
pub record AreBehind (log : Log) (start : ℤ) (events : List (List ℕ)) (entries : Log) : Type 0 where
  pub none : length entries ≡ 0 → Grows log start events → ⊥
  pub some : 0 < length entries → IsBehind log start events entries

-- ---- snapshots

-- no valid set has a position of this or more
abbrev pub IsAbove : ℕ → Kept → Type 0
IsAbove position kept = (term other : ℤ) → HasSet kept.services kept.entries term other → other <ℤ pos position

-- the position of the latest valid set, None where there is none
pub record IsLatestAt (kept : Kept) (position : ℕ) : Type 0 where
  pub set : (term : ℤ) × HasSet kept.services kept.entries term (pos position)
  pub latest : (term other : ℤ) → HasSet kept.services kept.entries term other → other ≤ℤ pos position

abbrev pub IsLatest : Kept → Option ℕ → Type 0
IsLatest kept latest = MatchOption latest ((term other : ℤ) → HasSet kept.services kept.entries term other → ⊥) (IsLatestAt kept)

-- the same, -1 where there is none
abbrev pub number_of : Option ℕ → ℤ
number_of None = negsuc 0
number_of (Some position) = pos position

-- a snapshot that can be put: its recording is one, its service is one of the backup's or the module, and its position is
-- within the log and above that of the latest valid set
pub record CanPut (kept : Kept) (head : SnapshotHead) : Type 0 where
  pub recording : head.recording < 1024
  pub service : IsMemberOf kept.services head.service
  pub within : head.position ≤ place kept.log
  pub above : IsAbove head.position kept

-- what a snapshot is of that a packet names
abbrev pub head_of : ℤ → ℤ → ℤ → ℤ → ℤ → SnapshotHead
head_of recording term position stamp service = record { recording = unsigned_abs recording; service = service; term = term; position = unsigned_abs position; stamp = stamp }

-- a packet's snapshot can be put
abbrev pub Puts : Kept → ℤ → SnapshotHead → Type 0
Puts kept recording head = (pos 0 ≤ℤ recording) × CanPut kept head

-- ---- packets

-- what the entries of a packet bring: those past the log are appended where they can go behind it, else nothing changes
abbrev pub EntriesBring : Kept → ℤ → List (List ℕ) → Taken → Kept → Type 0
EntriesBring old start events (Grown count) new = Grows old.log start events × (count ≡ length (past (length old.log) start events)) × IsAppended (past (length old.log) start events) old new
EntriesBring old start events Nothing new = (Grows old.log start events → ⊥) × (new ≡ old)
EntriesBring old start events Part new = ⊥
EntriesBring old start events (Bad b) new = ⊥

-- what the snapshot of a packet brings: it is put where it can be, else nothing changes
abbrev pub SnapshotBrings : Kept → ℤ → SnapshotHead → Taken → Kept → Type 0
SnapshotBrings old recording head Part new = Puts old recording head × IsPut head old new
SnapshotBrings old recording head Nothing new = (Puts old recording head → ⊥) × (new ≡ old)
SnapshotBrings old recording head (Grown count) new = ⊥
SnapshotBrings old recording head (Bad b) new = ⊥

-- what a packet brings, its answer, and what is kept after
abbrev pub Brings : Kept → BackupPacket → Taken → Kept → Type 0
Brings old (Query entries position) answer new = (answer ≡ Nothing) × (new ≡ old)
Brings old (LogPacket start events) answer new = EntriesBring old start events answer new
Brings old (Snapshot recording term position stamp service pieces) answer new = SnapshotBrings old recording (head_of recording term position stamp service) answer new

-- ---- faults

abbrev pub fault_of : MemberFault → BackupFault
fault_of member_faults.Device = faults.Device
fault_of (member_faults.LogFull place) = faults.NoMemory
fault_of (member_faults.Damaged file place) = faults.NoMemory
fault_of member_faults.NoMemory = faults.NoMemory

-- a call answers Device only where the disk's count rose
pub record HasBackupCause {T : Type 0} (old new : ℕ) (result : Result T BackupFault) : Type 0 where
  pub later : old ≤ new
  pub device : IsErrOf result faults.Device → Rose old new

-- ---- what a backup asks

-- a query of what is kept: how many entries, and the position of the latest valid set, or -1
pub record IsQuery (kept : Kept) (bytes : List ℕ) : Type 0 where
  pub latest : Option ℕ
  pub is : IsLatest kept latest
  pub spelled : bytes ≡ spelling_of (Query (pos (length kept.log)) (number_of latest))
