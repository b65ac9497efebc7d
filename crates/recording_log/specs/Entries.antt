-- The entries of a recording log, as the bytes of its file tell them.
use Rattle.std.specs.Prelude.{◌≡◌, ◌≢◌, ◌⊎◌, ℕ, ◌+◌, ◌*◌, ◌<◌, ◌≤◌, List, [], length, drop, slice_index, slice_index_or, Option, MatchOption}
use Rattle.recording_log.specs.declared.entry.RecEntry.{RecEntry}
use Rattle.cl_base.specs.Disk.{FileState, settled_file}
use Rattle.wire_prims.specs.Fields.{i64_at, i32_at, u32_at}

-- the fields of an entry, after Aeron's recording log
abbrev pub entry_of : List ℕ → RecEntry
entry_of bytes = record {
  recording = i64_at 0 bytes;
  term = i64_at 8 bytes;
  base = i64_at 16 bytes;
  position = i64_at 24 bytes;
  stamp = i64_at 32 bytes;
  service = i32_at 40 bytes;
  kind = u32_at 44 bytes;
}

-- entry i of a file: 64 bytes from 64 * i on
abbrev pub entry_at : ℕ → List ℕ → RecEntry
entry_at i bytes = entry_of (drop (64 * i) bytes)

-- the gate byte of entry i, its last one
abbrev pub gate_at : ℕ → List ℕ → ℕ
gate_at i bytes = slice_index bytes (64 * i + 63)

-- the value of an open gate
abbrev pub open_gate : ℕ
open_gate = 90

-- the file begins with these entries, each with an open gate
pub record Begins (entries : List RecEntry) (bytes : List ℕ) : Type 0 where
  pub fits : 64 * length entries ≤ length bytes
  pub opened : (i : ℕ) → i < length entries → gate_at i bytes ≡ open_gate
  pub each : (i : ℕ) (d : RecEntry) → i < length entries → slice_index_or entries i d ≡ entry_at i bytes

-- the file has exactly these entries: behind them come 64 bytes with a closed gate
pub record Holds (entries : List RecEntry) (bytes : List ℕ) : Type 0 where
  pub begins : Begins entries bytes
  pub room : 64 * (length entries + 1) ≤ length bytes
  pub closed : gate_at (length entries) bytes ≢ open_gate

-- the file is wrong at its length: behind its entries with an open gate it has fewer than 64 bytes
pub record IsWrongAt (bytes : List ℕ) (place : ℕ) : Type 0 where
  pub count : ℕ
  pub opened : (i : ℕ) → i < count → gate_at i bytes ≡ open_gate
  pub short : length bytes < 64 * (count + 1)
  pub at_end : place ≡ length bytes

abbrev pub HoldsOne : List RecEntry → List RecEntry → List ℕ → Type 0
HoldsOne before after bytes = Holds before bytes ⊎ Holds after bytes

-- at this place of the file stand 64 bytes: an entry with an open gate, or none
abbrev pub IsNext : ℕ → List ℕ → Option RecEntry → Type 0
IsNext at bytes next = (at + 64 ≤ length bytes)
    × MatchOption next (slice_index bytes (at + 63) ≢ open_gate) (λ e. (slice_index bytes (at + 63) ≡ open_gate) × (e ≡ entry_of (drop at bytes)))

-- the file ends fewer than 64 bytes behind this place
abbrev pub IsShortAt : ℕ → List ℕ → ℕ → Type 0
IsShortAt at bytes place = (length bytes < at + 64) × (place ≡ length bytes)

-- the file of a new member, all of it on the disk
pub record IsFresh (s : FileState) : Type 0 where
  pub bytes : List ℕ
  pub settled : s ≡ settled_file bytes
  pub holds : Holds [] bytes
