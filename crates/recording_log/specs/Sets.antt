-- Sets of snapshots: one of the module and one of each service, all of one term and position.
use Rattle.std.specs.Prelude.{◌≡◌, ℕ, ◌+◌, ◌*◌, ◌<◌, ◌≤◌, Bool, not, ◌==◌, ℤ, pos, negsuc, ◌≤ℤ◌, IsTrue, List, length, slice_get, slice_set, Option, Some, MatchOption}
use Rattle.recording_log.specs.declared.entry.RecEntry.{RecEntry}
use Rattle.recording_log.specs.declared.entry.SnapshotAt.{SnapshotAt}
use Rattle.recording_log.specs.Valid.{is_snapshot}

-- the service number of the module
abbrev pub the_module : ℤ
the_module = negsuc 0

-- a valid SNAPSHOT entry of this service, term and position
abbrev pub IsPart : ℤ → ℤ → ℤ → RecEntry → Type 0
IsPart term position service e = IsTrue (is_snapshot e) × (e.term ≡ term) × (e.position ≡ position) × (e.service ≡ service)

-- one of them is such an entry
pub record HasPart (entries : List RecEntry) (term position service : ℤ) : Type 0 where
  pub index : ℕ
  pub entry : RecEntry
  pub at : slice_get entries index ≡ Some entry
  pub part : IsPart term position service entry

-- the set of this term and position is valid
pub record HasSet (services : ℕ) (entries : List RecEntry) (term position : ℤ) : Type 0 where
  pub of_module : HasPart entries term position the_module
  pub each : (s : ℕ) → s < services → HasPart entries term position (pos s)

abbrev pub HasNoSet : ℕ → List RecEntry → Type 0
HasNoSet services entries = (term position : ℤ) → HasSet services entries term position → ⊥

-- a set of this term and position isn't later than that of another: by position, and then by term
abbrev pub IsUpTo : ℤ → ℤ → RecEntry → Type 0
IsUpTo term position e = (position ≤ℤ e.position) × (position ≡ e.position → term ≤ℤ e.term)

-- entry e at index i is the module's of the latest valid set, and the last such one
pub record IsLatest (services : ℕ) (entries : List RecEntry) (i : ℕ) (e : RecEntry) : Type 0 where
  pub at : slice_get entries i ≡ Some e
  pub part : IsPart e.term e.position the_module e
  pub whole : HasSet services entries e.term e.position
  pub latest : (term position : ℤ) → HasSet services entries term position → IsUpTo term position e
  pub last : (j : ℕ) (d : RecEntry) → i < j → slice_get entries j ≡ Some d → IsPart e.term e.position the_module d → ⊥

-- entry e is the module's of a valid set
abbrev pub IsCandidate : ℕ → List RecEntry → RecEntry → Type 0
IsCandidate services entries e = IsPart e.term e.position the_module e × HasSet services entries e.term e.position

-- from index k on there is no such entry
abbrev pub NoneFrom : ℕ → List RecEntry → ℕ → Type 0
NoneFrom services entries k = (j : ℕ) (e : RecEntry) → k ≤ j → slice_get entries j ≡ Some e → IsCandidate services entries e → ⊥

-- of those from index k on, entry d at index b is the latest and the last
pub record IsBest (services : ℕ) (entries : List RecEntry) (k b : ℕ) (d : RecEntry) : Type 0 where
  pub is : IsCandidate services entries d
  pub best : (j : ℕ) (e : RecEntry) → k ≤ j → slice_get entries j ≡ Some e → IsCandidate services entries e → IsUpTo e.term e.position d
  pub last : (j : ℕ) (e : RecEntry) → b < j → slice_get entries j ≡ Some e → IsPart d.term d.position the_module e → ⊥

pub record BestFrom (services : ℕ) (entries : List RecEntry) (k b : ℕ) : Type 0 where
  pub from : k ≤ b
  pub within : b < length entries
  pub each : (d : RecEntry) → slice_get entries b ≡ Some d → IsBest services entries k b d

-- the latest from index k on, so far
abbrev pub IsSoFar : ℕ → List RecEntry → ℕ → Option ℕ → Type 0
IsSoFar services entries k latest = MatchOption latest (NoneFrom services entries k) (BestFrom services entries k)

-- the latest valid set, named by the module's recording
pub record IsLatestSet (services : ℕ) (entries : List RecEntry) (set : SnapshotAt) : Type 0 where
  pub index : ℕ
  pub entry : RecEntry
  pub latest : IsLatest services entries index entry
  pub recording : entry.recording ≡ pos set.recording
  pub term : entry.term ≡ set.term
  pub position : entry.position ≡ pos set.position

-- the kind of a SNAPSHOT entry whose kind's highest byte is written with 0x80
abbrev pub struck_kind : ℕ
struck_kind = 2147483649

-- the entries with the entry e at index i made invalid
abbrev pub struck : ℕ → RecEntry → List RecEntry → List RecEntry
struck i e entries = slice_set entries i (record e { kind = struck_kind })

-- the byte at this place is the highest one of the kind of entry d at index i, a SNAPSHOT entry
pub record IsStrike (at i : ℕ) (d : RecEntry) (entries : List RecEntry) : Type 0 where
  pub place : at ≡ 64 * i + 47
  pub there : slice_get entries i ≡ Some d
  pub snapshot : d.kind ≡ 1

-- what a crash leaves of the byte makes the entry invalid
abbrev pub is_struck : ℕ → Bool
is_struck byte = not (byte == 0)
