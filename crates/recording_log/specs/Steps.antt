-- How the file changes, byte by byte.
use Rattle.std.specs.Prelude.{◌≡◌, ◌≢◌, ℕ, ◌+◌, ◌*◌, ◌≤◌, Bool, ◌==◌, ◌&&◌, if◌then◌else◌, ◌++◌, List, [], ◌∷◌, length, replicate}
use Rattle.cl_base.specs.Disk.{DiskState, overwritten, left_by}
use Rattle.cl_base.specs.Every.{takes}
use Rattle.cl_base.specs.declared.disk.Choice.{Choice}
use Rattle.recording_log.specs.Valid.{Stands, valid_of}
use Rattle.recording_log.specs.Sets.{is_struck}
use Rattle.recording_log.specs.declared.entry.RecEntry.{RecEntry}
use Rattle.recording_log.specs.Entries.{Holds, HoldsOne, entry_of, entry_at, gate_at, open_gate}

abbrev pub is_open : ℕ → Bool
is_open gate = gate == 90

-- the file with the bytes of an entry before its gate, and 64 zeros behind it
abbrev pub staged : ℕ → List ℕ → List ℕ → List ℕ
staged at block bytes = overwritten (at + 64) (replicate 64 0) (overwritten at block bytes)

-- and then the gate opened
abbrev pub added : ℕ → List ℕ → List ℕ → List ℕ
added at block bytes = overwritten (at + 63) (open_gate ∷ []) (staged at block bytes)

-- these 63 bytes spell an entry that comes behind the entries there
pub record IsAddition (at : ℕ) (block : List ℕ) (entries : List RecEntry) (entry : RecEntry) : Type 0 where
  pub place : at ≡ 64 * length entries
  pub size : length block ≡ 63
  pub spells : entry_of block ≡ entry

-- the entry stands behind the entries of the file, all but its gate
pub record IsReady (entries : List RecEntry) (entry : RecEntry) (bytes : List ℕ) : Type 0 where
  pub holds : Holds entries bytes
  pub here : entry_at (length entries) bytes ≡ entry
  pub room : 64 * (length entries + 2) ≤ length bytes
  pub closed : gate_at (length entries + 1) bytes ≢ open_gate

-- what each choice leaves of file 1 after an addition that a fuse ended: the entries before, but at four calls where the
-- choice takes the open gate along
abbrev pub AddLeft : List RecEntry → List RecEntry → DiskState → ℕ → Type 0
AddLeft before after left k = (choice : Choice) → Holds (if (k == 4) && takes is_open choice then after else before) (left_by choice (left.files 1))

-- and after a strike that a fuse ended: what counted before, but at one call where the choice takes a byte other than 0
-- along
abbrev pub StrikeLeft : List RecEntry → List RecEntry → DiskState → ℕ → Type 0
StrikeLeft before after left k = (choice : Choice) → Stands (if (k == 1) && takes is_struck choice then valid_of after else valid_of before) (left_by choice (left.files 1))

-- the file has the entries before, or those after
abbrev pub HasAdded : List RecEntry → RecEntry → List ℕ → Type 0
HasAdded before entry = HoldsOne before (before ++ entry ∷ [])
