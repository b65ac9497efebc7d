-- The valid sets as a list, and what is found among the entries.
use Rattle.std.specs.Prelude.{◌≡◌, ◌⊎◌, ℕ, Bool, IsTrue, IsFalse, ◌<◌, ◌≤◌, ◌^◌, ℤ, pos, ◌≤ℤ◌, ◌<ℤ◌, List, length, slice_get, slice_index_or, Option, Some, MatchOption}
use Rattle.recording_log.specs.declared.entry.RecEntry.{RecEntry}
use Rattle.recording_log.specs.declared.entry.SnapshotAt.{SnapshotAt}
use Rattle.recording_log.specs.declared.entry.TermAt.{TermAt}
use Rattle.recording_log.specs.Sets.{IsPart, HasSet, IsCandidate}

-- a set is listed before another: by position, and at one position by term
abbrev pub IsBefore : SnapshotAt → SnapshotAt → Type 0
IsBefore a b = (a.position < b.position) ⊎ ((a.position ≡ b.position) × (a.term <ℤ b.term))

-- sets in order, each once
abbrev pub Rise : List SnapshotAt → Type 0
Rise sets = (i j : ℕ) (d : SnapshotAt) → i < j → j < length sets → IsBefore (slice_index_or sets i d) (slice_index_or sets j d)

-- a valid set, by a recording of the module's for it
pub record IsListed (services : ℕ) (entries : List RecEntry) (s : SnapshotAt) : Type 0 where
  pub recording : s.recording < 1024
  pub low : pos 0 ≤ℤ s.term
  pub high : s.term ≤ℤ pos (2 ^ 62)
  pub position : s.position ≤ 2 ^ 62
  pub whole : HasSet services entries s.term (pos s.position)

abbrev pub EachListed : ℕ → List RecEntry → List SnapshotAt → Type 0
EachListed services entries sets = (k : ℕ) (d : SnapshotAt) → k < length sets → IsListed services entries (slice_index_or sets k d)

-- one of the sets has this term and position
pub record IsAmong (term position : ℤ) (sets : List SnapshotAt) : Type 0 where
  pub index : ℕ
  pub within : index < length sets
  pub term_there : (d : SnapshotAt) → (slice_index_or sets index d).term ≡ term
  pub position_there : (d : SnapshotAt) → pos (slice_index_or sets index d).position ≡ position

-- each set of which one of the first entries is the module's is among these
abbrev pub HaveFirst : ℕ → List RecEntry → ℕ → List SnapshotAt → Type 0
HaveFirst services entries i sets = (j : ℕ) (e : RecEntry) → j < i → slice_get entries j ≡ Some e → IsCandidate services entries e → IsAmong e.term e.position sets

-- these are valid sets, and among them are those of which one of the first entries is the module's
pub record HaveThese (services : ℕ) (entries : List RecEntry) (i : ℕ) (sets : List SnapshotAt) : Type 0 where
  pub each : EachListed services entries sets
  pub first : HaveFirst services entries i sets

-- the valid sets, all of them, in order
pub record AreSets (services : ℕ) (entries : List RecEntry) (sets : List SnapshotAt) : Type 0 where
  pub each : EachListed services entries sets
  pub rise : Rise sets
  pub all : (term position : ℤ) → HasSet services entries term position → IsAmong term position sets

-- a set was put among others, in place of one of its term and position where there is one
pub record IsPutIn (set : SnapshotAt) (old new : List SnapshotAt) : Type 0 where
  pub rise : Rise new
  pub only : (k : ℕ) (d : SnapshotAt) → k < length new → (slice_index_or new k d ≡ set) ⊎ ((j : ℕ) × (j < length old) × (slice_index_or new k d ≡ slice_index_or old j d))
  pub here : IsAmong set.term (pos set.position) new
  pub kept : (term position : ℤ) → IsAmong term position old → IsAmong term position new

-- where a set belongs among others: those from there on aren't before it, and those before there are
pub record IsPlace (set : SnapshotAt) (sets : List SnapshotAt) (at : ℕ) : Type 0 where
  pub within : at ≤ length sets
  pub from : (k : ℕ) (d : SnapshotAt) → at ≤ k → k < length sets → IsBefore (slice_index_or sets k d) set → ⊥
  pub behind : (k : ℕ) (d : SnapshotAt) → k < at → IsBefore (slice_index_or sets k d) set

-- and whether one of its position and term is there
pub record IsFound (set : SnapshotAt) (sets : List SnapshotAt) (at : ℕ) (there : Bool) : Type 0 where
  pub place : IsPlace set sets at
  pub same : IsTrue there → (at < length sets) × ((d : SnapshotAt) → IsBefore set (slice_index_or sets at d) → ⊥)
  pub other : IsFalse there → (d : SnapshotAt) → at < length sets → IsBefore set (slice_index_or sets at d)

-- the last entry of a service, or of the module, in the set of this term and position
pub record IsLastPart (entries : List RecEntry) (term position service : ℤ) (e : RecEntry) : Type 0 where
  pub index : ℕ
  pub at : slice_get entries index ≡ Some e
  pub part : IsPart term position service e
  pub last : (j : ℕ) (d : RecEntry) → index < j → slice_get entries j ≡ Some d → IsPart term position service d → ⊥

-- a term stands at this index of a list, or nowhere from an index on
abbrev pub FindsFrom : List TermAt → TermAt → ℕ → Option ℕ → Type 0
FindsFrom terms term from found =
    MatchOption found ((k : ℕ) → from ≤ k → k < length terms → slice_get terms k ≡ Some term → ⊥) (λ i. (i < length terms) × (slice_get terms i ≡ Some term))

-- the entry is one of these
abbrev pub IsThere : RecEntry → List RecEntry → Type 0
IsThere entry entries = (i : ℕ) × (slice_get entries i ≡ Some entry)
