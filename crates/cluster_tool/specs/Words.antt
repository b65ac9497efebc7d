-- Which lists of words ask for what.
use Rattle.std.specs.Prelude.{◌≡◌, ℕ, ◌==◌, nat_lt, Bool, not, ◌&&◌, if◌then◌else◌, List, [], ◌∷◌, length, slice_index, codes, Option, Some, None, bytes_eq}
use Rattle.cluster_tool.specs.declared.words.Asked.{Asked}
use Rattle.cluster_tool.specs.declared.words.Asked.TheVariants as asked

-- a listing: what the files of a member with so many services stand for, the entries of its recording log, or how far
-- two members' logs are the same
pub data Listing : Type 0 where
  describe : ℕ → Listing
  recording : Listing
  verify : Listing

-- what is asked for: a listing, of the members with these folders
pub record Tool : Type 0 where
  pub listing : Listing
  pub folders : List (List ℕ)

-- a folder has a name that doesn't begin with a dash
abbrev pub is_folder : List ℕ → Bool
is_folder word = nat_lt 0 (length word) && not (slice_index word 0 == 45)

-- the number of services, 1 to 3
abbrev pub services_of : List ℕ → Option ℕ
services_of word = if bytes_eq word (codes "1") then Some 1 else (if bytes_eq word (codes "2") then Some 2 else (if bytes_eq word (codes "3") then Some 3 else None))

abbrev pub described_by : Option ℕ → List ℕ → Option Tool
described_by None folder = None
described_by (Some services) folder = if is_folder folder then Some (record { listing = describe services; folders = folder ∷ [] }) else None

-- `describe S DIR`
abbrev pub describe_of : List ℕ → List ℕ → Option Tool
describe_of services folder = described_by (services_of services) folder

-- `recording-log DIR`
abbrev pub recording_of : List ℕ → Option Tool
recording_of folder = if is_folder folder then Some (record { listing = recording; folders = folder ∷ [] }) else None

-- `verify DIR DIR`
abbrev pub verify_of : List ℕ → List ℕ → Option Tool
verify_of first second = if is_folder first && is_folder second then Some (record { listing = verify; folders = first ∷ second ∷ [] }) else None

abbrev pub one_folder : List ℕ → List ℕ → Option Tool
one_folder listing folder = if bytes_eq listing (codes "recording-log") then recording_of folder else None

abbrev pub two_words : List ℕ → List ℕ → List ℕ → Option Tool
two_words listing one two =
    if bytes_eq listing (codes "describe") then describe_of one two
    else (if bytes_eq listing (codes "verify") then verify_of one two else None)

-- what the words ask for, None where they aren't those of a listing
abbrev pub tool_of : List (List ℕ) → Option Tool
tool_of (tool ∷ listing ∷ folder ∷ []) = if bytes_eq tool (codes "tool") then one_folder listing folder else None
tool_of (tool ∷ listing ∷ one ∷ two ∷ []) = if bytes_eq tool (codes "tool") then two_words listing one two else None
tool_of _ = None

-- what was read in place
abbrev pub tool_from : Asked → Tool
tool_from (asked.Describe services folder) = record { listing = describe services; folders = folder.now ∷ [] }
tool_from (asked.RecordingLog folder) = record { listing = recording; folders = folder.now ∷ [] }
tool_from (asked.Verify first second) = record { listing = verify; folders = first.now ∷ second.now ∷ [] }

-- so many disks: one for each folder
abbrev pub TakesDisks : Option Tool → ℕ → Type 0
TakesDisks None disks = Unit {0}
TakesDisks (Some tool) disks = disks ≡ length tool.folders
