-- What a backup has after a list of packets.
use Rattle.std.specs.Prelude.{◌≡◌, ◌⊎◌, ℕ, ℤ, pos, ◌≤ℤ◌, unsigned_abs, IsTrue, List, [], ◌∷◌, ◌++◌, length, slice_get, Some, ⊤}
use Rattle.entry_log.specs.Log.{Log, last, place}
use Rattle.recording_log.specs.declared.entry.RecEntry.{RecEntry}
use Rattle.recording_log.specs.Valid.{is_snapshot}
use Rattle.member_disk.specs.Kept.{Kept}
use Rattle.member_disk.specs.Parts.{put_part}
use Rattle.member_disk.specs.CutWell.{snapshots_of}
use Rattle.cluster_backup.specs.Spelling.{packet_of}
use Rattle.cluster_backup.specs.Taking.{entries_of, past, Fits, Grows, Puts, head_of}
use Rattle.cluster_backup.specs.declared.packet.BackupPacket.{BackupPacket}
use Rattle.cluster_backup.specs.declared.packet.BackupPacket.TheVariants.{Query, Log as LogPacket, Snapshot}

-- the same node, log and SNAPSHOT entries that count: what a mount finds after a crash. TERM entries mean nothing.
pub record IsLike (old new : Kept) : Type 0 where
  pub node : new.node ≡ old.node
  pub log : new.log ≡ old.log
  pub snapshots : snapshots_of new.entries ≡ snapshots_of old.entries

-- what a packet makes of what is kept, where it brings something
abbrev pub Makes : Kept → BackupPacket → Kept → Type 0
Makes old (Query entries position) after = ⊥
Makes old (LogPacket start events) after = Grows old.log start events × (after ≡ record old { log = old.log ++ past (length old.log) start events })
Makes old (Snapshot recording term position stamp service pieces) after = Puts old recording (head_of recording term position stamp service) × (after ≡ (put_part old (head_of recording term position stamp service)).makes)

-- these bytes are a packet which makes this
abbrev pub CanMake : List ℕ → Kept → Kept → Type 0
CanMake bytes old after = (p : BackupPacket) × (packet_of bytes ≡ Some p) × Makes old p after

-- Bytes were taken, or a stop cut the call off: what is kept is as before, or as the packet makes it.
abbrev pub Took : List ℕ → Kept → Kept → Type 0
Took bytes old new = IsLike old new ⊎ ((after : Kept) × CanMake bytes old after × IsLike after new)

-- each of these was, one after the other
abbrev pub TookAll : List (List ℕ) → Kept → Kept → Type 0
TookAll [] old new = new ≡ old
TookAll (b ∷ bs) old new = (between : Kept) × Took b old between × TookAll bs between new

-- ---- the log

abbrev pub all_behind : Log → List Log → Log
all_behind log [] = log
all_behind log (b ∷ bs) = all_behind (log ++ b) bs

-- each batch fits behind the log and those before it
abbrev pub FitInTurn : Log → List Log → Type 0
FitInTurn log [] = ⊤
FitInTurn log (b ∷ bs) = Fits (place log) (last log) b × FitInTurn (log ++ b) bs

-- a log grew by batches that fit
pub record GrewByBatches (old new : Log) : Type 0 where
  pub batches : List Log
  pub fit : FitInTurn old batches
  pub is : new ≡ all_behind old batches

-- the events are those of the entries of a log from an index on
pub record IsPieceOf (whole : Log) (start : ℤ) (events : List (List ℕ)) : Type 0 where
  pub before : Log
  pub behind : Log
  pub is : whole ≡ before ++ (entries_of events ++ behind)
  pub from : length before ≡ unsigned_abs start

-- each packet with entries is a piece of one log
abbrev pub ArePiecesOf : Log → List (List ℕ) → Type 0
ArePiecesOf whole [] = ⊤
ArePiecesOf whole (b ∷ bs) = ((start : ℤ) (events : List (List ℕ)) → packet_of b ≡ Some (LogPacket start events) → IsPieceOf whole start events) × ArePiecesOf whole bs

-- ---- the snapshots

-- every valid SNAPSHOT entry is of a position within the log
abbrev pub EndWithin : Kept → Type 0
EndWithin kept = (i : ℕ) (e : RecEntry) → slice_get kept.entries i ≡ Some e → IsTrue (is_snapshot e) → e.position ≤ℤ pos (place kept.log)
