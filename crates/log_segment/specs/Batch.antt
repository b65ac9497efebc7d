-- A batch that is appended within a segment.
use Rattle.std.specs.Prelude.{⊤, ◌≡◌, ◌⊎◌, ℕ, ◌+◌, ◌-◌, ◌/◌, ◌%◌, ◌<◌, ◌≤◌, ◌==◌, ◌&&◌, if◌then◌else◌, List, [], ◌∷◌, ◌++◌, length, take, drop, replicate, slice_index}
use Rattle.cl_base.specs.Disk.{DiskState, left_by}
use Rattle.cl_base.specs.Every.{takes}
use Rattle.cl_base.specs.Gated.{is_open_byte}
use Rattle.cl_base.specs.declared.disk.Choice.{Choice}
use Rattle.entry_log.specs.Log.{Log, frames_len, end_after, place}
use Rattle.log_segment.specs.Segment.{begin_at, entry_frames, SegmentIs, IsLaid}

-- these bytes are the frames of these entries from place p on, with no pad among them
abbrev pub IsBatch : ℕ → Log → List ℕ → Type 0
IsBatch p [] bytes = bytes ≡ []
IsBatch p (e ∷ es) bytes =
    (rest : List ℕ) × (bytes ≡ entry_frames p e.bytes ++ rest) × (length (entry_frames p e.bytes) ≡ frames_len (length e.bytes)) × (frames_len (length e.bytes) ≤ 65536 - p % 65536) × IsBatch (p + frames_len (length e.bytes)) es rest

-- how many bytes the frames of these entries have, with no pad among them
abbrev pub frames_of : Log → ℕ
frames_of [] = 0
frames_of (e ∷ es) = frames_len (length e.bytes) + frames_of es

-- the segment of 65,536 bytes in which an entry that ends here stands
abbrev pub segment_of : ℕ → ℕ
segment_of end = (end - 1) / 65536

-- all of these entries, written from place p, stand in this segment
abbrev pub AllIn : ℕ → ℕ → Log → Type 0
AllIn segment p [] = ⊤
AllIn segment p (e ∷ es) = (segment_of (end_after p (length e.bytes)) ≡ segment) × AllIn segment (end_after p (length e.bytes)) es

-- these entries, written from place p, stand in one segment
abbrev pub AreTogether : ℕ → Log → Type 0
AreTogether p [] = ⊤
AreTogether p (e ∷ es) = AllIn (segment_of (end_after p (length e.bytes))) (end_after p (length e.bytes)) es

abbrev pub event_bytes : Log → ℕ
event_bytes [] = 0
event_bytes (e ∷ es) = length e.bytes + event_bytes es

-- 1 to 64 entries that are written from place p as one batch: in one segment, a single one or with 8,192 event bytes at
-- most
pub record IsBatchAt (p : ℕ) (entries : Log) : Type 0 where
  pub some : 0 < length entries
  pub few : length entries ≤ 64
  pub small : length entries ≤ 1 ⊎ event_bytes entries ≤ 8192
  pub together : AreTogether p entries

-- the bytes of the first of these entries' events
abbrev pub first_len : Log → ℕ
first_len [] = 0
first_len (e ∷ es) = length e.bytes

-- where the frames of the first of these entries begin that are written at place p
abbrev pub first_begin : ℕ → Log → ℕ
first_begin p entries = begin_at p (first_len entries)

-- an append of these entries within segment s: all the bytes of the batch but the first gate, and 32 zeros behind it
-- where it doesn't end at the segment's end
pub record IsAppend (log batch : Log) (s at : ℕ) (bytes head tail : List ℕ) : Type 0 where
  pub laid : IsLaid log
  pub segment : place log / 65536 ≡ s
  pub offset : place log % 65536 ≡ at
  pub spells : IsBatch (place log) batch bytes
  pub some : 32 ≤ length bytes
  pub open_gate : slice_index bytes 31 ≡ 0x5A
  pub front : head ≡ take 31 bytes
  pub zeros : ℕ
  pub behind : tail ≡ drop 32 bytes ++ replicate zeros 0
  pub inside : at + length bytes + zeros ≤ 65536
  pub followed : at + length bytes < 65536 → zeros ≡ 32

-- the segment stands for the log before, or for the one after
abbrev pub SegmentIsOne : ℕ → Log → Log → List ℕ → Type 0
SegmentIsOne s before after file = SegmentIs s before file ⊎ SegmentIs s after file

-- what each choice leaves of the segment after an append that a fuse ended: the log before, but at four calls where the
-- choice takes the open gate along
abbrev pub AppendLeft : ℕ → Log → Log → DiskState → ℕ → Type 0
AppendLeft s before after left k = (choice : Choice) → SegmentIs s (if (k == 4) && takes is_open_byte choice then after else before) (left_by choice (left.files (2 + s)))
