-- What a backup takes is cut well.
use Rattle.std.proofs.Common.{◌≡◌, ◌⊎◌, inl, inr, ⊎_elim, ℕ, ℤ, pos, ◌≤ℤ◌, List, ◌++◌, refl, sym, subst, arith}
use Rattle.std.proofs.lemmas.Int.{ints}
use Rattle.cl_base.specs.Disk.{DiskState}
use Rattle.entry_log.specs.Log.{Log}
use Rattle.recording_log.specs.Listed.{IsThere}
use Rattle.member_disk.specs.Kept.{Kept, Means}
use Rattle.member_disk.specs.Changes.{entry_for}
use Rattle.member_disk.specs.Parts.{put_part}
use Rattle.member_disk.specs.CutWell.{IsDurable, IsCutWell, no_file, file_of}
use Rattle.member_disk.specs.declared.durable.SnapshotHead.{SnapshotHead}
use Rattle.cluster_backup.specs.Taking.{IsBehind, CanPut, head_of}
use Rattle.cluster_backup.specs.Copying.{IsLike}
use Rattle.cluster_backup.specs.Cutting.{EntriesCutWell, SnapshotCutWell, PacketCutWell}
use Rattle.cluster_backup.specs.declared.packet.BackupPacket.{BackupPacket}
use Rattle.cluster_backup.specs.declared.packet.BackupPacket.TheVariants as packets
use Rattle.cluster_backup.proofs.Bringing.{positive}
use Rattle.cluster_backup.proofs.Copies.{is_there}

module _ {D : Type 0} (state : D → DiskState) (moment : D → ℕ) (left_since : D → ℕ → (ℕ → List ℕ) → Type 0) (kept : Kept) (old new : D) where
  pub entries_cut : (start : ℤ) (events : List (List ℕ)) (entries : Log) → IsBehind kept.log start events entries → IsCutWell state moment left_since no_file kept (record kept { log = kept.log ++ entries }) old new → EntriesCutWell state moment left_since kept start events old new
  entries_cut start events entries b well = inr (b.grows, subst (λ (l : Log). IsCutWell state moment left_since no_file kept (record kept { log = kept.log ++ l }) old new) b.are well)

  -- the same of a slice that holds them
  pub entries_append_cut : (start : ℤ) (events : List (List ℕ)) (entries slice : Log) → IsBehind kept.log start events entries → slice ≡ entries → IsCutWell state moment left_since no_file kept (record kept { log = kept.log ++ slice }) old new → EntriesCutWell state moment left_since kept start events old new
  entries_append_cut start events entries slice b is well = entries_cut start events entries b (subst (λ (l : Log). IsCutWell state moment left_since no_file kept (record kept { log = kept.log ++ l }) old new) is well)

  pub snapshot_cut : (head : SnapshotHead) → CanPut kept head → (IsThere (entry_for kept head) kept.entries → new ≡ old) → ((IsThere (entry_for kept head) kept.entries → ⊥) → IsCutWell state moment left_since (file_of head.recording) kept (put_part kept head).makes old new)
      → SnapshotCutWell state moment left_since kept (pos head.recording) head old new
  snapshot_cut head can again first = ⊎_elim (λ there. inl (again there)) (λ none. inr ((omega (arith, ints), can), first none)) (is_there (entry_for kept head) kept.entries)

  pub snapshot_named : (recording term position stamp service : ℤ) (head : SnapshotHead) → head ≡ head_of recording term position stamp service → pos 0 ≤ℤ recording → SnapshotCutWell state moment left_since kept (pos head.recording) head old new
      → SnapshotCutWell state moment left_since kept recording (head_of recording term position stamp service) old new
  snapshot_named recording term position stamp service head same low well =
      subst (λ z. SnapshotCutWell state moment left_since kept z (head_of recording term position stamp service) old new) (sym (positive recording low))
      (subst (λ (h : SnapshotHead). SnapshotCutWell state moment left_since kept (pos h.recording) h old new) same well)

  -- the packet that was found
  pub packet_named : (p q : BackupPacket) → q ≡ p → PacketCutWell state moment left_since kept p old new → PacketCutWell state moment left_since kept q old new
  packet_named p q is well = subst (λ (r : BackupPacket). PacketCutWell state moment left_since kept r old new) (sym is) well

  -- a disk that was not touched
  pub untouched : (p : BackupPacket) → new ≡ old → PacketCutWell state moment left_since kept p old new
  untouched (packets.Query entries position) is = is
  untouched (packets.Log start events) is = inl is
  untouched (packets.Snapshot recording term position stamp service pieces) is = inl is

-- files that are durable as this mean it, but for TERM entries
pub durable_means : (kept found : Kept) (c : ℕ → List ℕ) → IsDurable kept c → ((other : Kept) → Means other c → other.log ≡ kept.log → other.services ≡ kept.services → found ≡ other) → IsLike kept found
durable_means kept found c durable only =
    let other : Kept = record kept { entries = durable.entries } in
    let same : found ≡ other = only other (record { node = durable.node.0; entries = durable.holds; log = durable.log }) refl refl in
    subst (IsLike kept) (sym same) (record { node = refl; log = refl; snapshots = durable.snapshots })
