-- Packets that a backup takes are cut well.
use Rattle.std.specs.Prelude.{◌≡◌, ◌⊎◌, ℕ, ℤ, List, ◌++◌, length, unsigned_abs}
use Rattle.cl_base.specs.Disk.{DiskState}
use Rattle.member_disk.specs.Kept.{Kept}
use Rattle.member_disk.specs.Parts.{put_part}
use Rattle.member_disk.specs.CutWell.{IsCutWell, no_file, file_of}
use Rattle.member_disk.specs.declared.durable.SnapshotHead.{SnapshotHead}
use Rattle.cluster_backup.specs.Taking.{past, Grows, Puts, head_of}
use Rattle.cluster_backup.specs.declared.packet.BackupPacket.{BackupPacket}
use Rattle.cluster_backup.specs.declared.packet.BackupPacket.TheVariants.{Query, Log as LogPacket, Snapshot}

module _ {D : Type 0} (state : D → DiskState) (moment : D → ℕ) (left_since : D → ℕ → (ℕ → List ℕ) → Type 0) (kept : Kept) where
  -- the disk is as it was, or the entries past the log are behind it or not, whenever a crash comes
  abbrev pub EntriesCutWell : ℤ → List (List ℕ) → D → D → Type 0
  EntriesCutWell start events old new = (new ≡ old) ⊎ (Grows kept.log start events × IsCutWell state moment left_since no_file kept (record kept { log = kept.log ++ past (length kept.log) start events }) old new)

  -- the disk is as it was, or the snapshot is there or not, whenever a crash comes
  abbrev pub SnapshotCutWell : ℤ → SnapshotHead → D → D → Type 0
  SnapshotCutWell recording head old new = (new ≡ old) ⊎ (Puts kept recording head × IsCutWell state moment left_since (file_of head.recording) kept (put_part kept head).makes old new)

  -- whenever a crash comes, a mount finds what was kept before the packet, or what the packet brings
  abbrev pub PacketCutWell : BackupPacket → D → D → Type 0
  PacketCutWell (Query entries position) old new = new ≡ old
  PacketCutWell (LogPacket start events) old new = EntriesCutWell start events old new
  PacketCutWell (Snapshot recording term position stamp service pieces) old new = SnapshotCutWell recording (head_of recording term position stamp service) old new
