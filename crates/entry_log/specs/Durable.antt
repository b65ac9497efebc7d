-- What a member's disk stands for, as data.
use Rattle.std.specs.Prelude.{ℕ, zero, suc, ℤ, pos, negsuc, Bool, true, not, ◌&&◌, ◌||◌, ◌++◌, nat_eq, nat_lt, int_lt, if◌then◌else◌, List, [], ◌∷◌, Option, Some, None}
use Rattle.std.specs.List.{list_any}
use Rattle.entry_log.specs.Log.{Log, same_term}
use Rattle.entry_log.specs.Shape.{Shape, shape_of, ends_by}

-- one valid snapshot entry of the recording log, with the pieces of its file
pub record SnapshotEntry : Type 0 where
  pub recording : ℕ
  pub service : ℤ  -- -1 is the module
  pub term : ℤ
  pub position : ℕ
  pub stamp : ℤ
  pub pieces : List (List ℕ)

pub record Durable : Type 0 where
  pub candidate : ℤ
  pub voted : Option ℕ  -- the member voted for in the candidate term
  pub log : Log
  pub snapshots : List SnapshotEntry  -- as they stand in the recording log

-- what a formatted disk stands for
abbrev pub fresh : Durable
fresh = record { candidate = negsuc 0; voted = None; log = []; snapshots = [] }

-- an entry of this service, or of the module for -1, at a term and a position
abbrev pub is_entry_of : ℤ → ℤ → ℕ → SnapshotEntry → Bool
is_entry_of service term position e = same_term e.service service && (same_term e.term term && nat_eq e.position position)

abbrev pub have_services : ℕ → ℤ → ℕ → List SnapshotEntry → Bool
have_services zero term position entries = true
have_services (suc n) term position entries = list_any (is_entry_of (pos n) term position) entries && have_services n term position entries

-- A set of this term and position is valid where the module and each of the services have an entry of both.
abbrev pub has_set : ℕ → List SnapshotEntry → ℤ → ℕ → Bool
has_set services entries term position = list_any (is_entry_of (negsuc 0) term position) entries && have_services services term position entries

-- where a set of snapshots stands: the place in the log behind its snapshot action, and that action's term
pub record SnapshotSet : Type 0 where
  pub position : ℕ
  pub term : ℤ

-- a set is later than another where its position is greater, of two at one position where its term is
abbrev pub is_later : SnapshotSet → SnapshotSet → Bool
is_later a b = nat_lt b.position a.position || (nat_eq b.position a.position && int_lt b.term a.term)

-- one set more among those in order, unless it is there
abbrev pub with_set : SnapshotSet → List SnapshotSet → List SnapshotSet
with_set a [] = a ∷ []
with_set a (b ∷ bs) = if is_later a b then b ∷ with_set a bs else (if is_later b a then a ∷ b ∷ bs else b ∷ bs)

-- the sets of the entries es that are valid among all entries
abbrev pub sets_in : ℕ → List SnapshotEntry → List SnapshotEntry → List SnapshotSet
sets_in services all [] = []
sets_in services all (e ∷ es) =
    if has_set services all e.term e.position
    then with_set (record { position = e.position; term = e.term }) (sets_in services all es)
    else sets_in services all es

-- the valid sets of a member with so many services, each once, the later ones behind
abbrev pub sets_of : ℕ → List SnapshotEntry → List SnapshotSet
sets_of services entries = sets_in services entries entries

abbrev pub last_set : List SnapshotSet → Option SnapshotSet
last_set [] = None
last_set (a ∷ []) = Some a
last_set (a ∷ b ∷ bs) = last_set (b ∷ bs)

-- the latest valid set
abbrev pub latest_set : ℕ → List SnapshotEntry → Option SnapshotSet
latest_set services entries = last_set (sets_of services entries)

-- how many entries of a log of this shape a set stands for, none without one
abbrev pub entries_of_set : Option SnapshotSet → Shape → ℕ
entries_of_set None xs = 0
entries_of_set (Some s) xs = ends_by s.position xs

-- P1: with how many entries a member starts as its commit
abbrev pub first_commit : ℕ → Durable → ℕ
first_commit services d = entries_of_set (latest_set services d.snapshots) (shape_of d.log)

-- both are the same entry of the recording log
abbrev pub same_entry : SnapshotEntry → SnapshotEntry → Bool
same_entry a b = nat_eq a.recording b.recording && (same_term a.service b.service && (same_term a.term b.term && (nat_eq a.position b.position && same_term a.stamp b.stamp)))

-- an entry is put behind the others, unless it is there
abbrev pub put_in : SnapshotEntry → List SnapshotEntry → List SnapshotEntry
put_in e entries = if list_any (same_entry e) entries then entries else entries ++ e ∷ []

-- the last one that passes goes
abbrev pub without_last : (SnapshotEntry → Bool) → List SnapshotEntry → List SnapshotEntry
without_last test [] = []
without_last test (e ∷ es) = if test e && not (list_any test es) then es else e ∷ without_last test es

abbrev pub without_set : Option SnapshotSet → List SnapshotEntry → List SnapshotEntry
without_set None entries = entries
without_set (Some s) entries = without_last (is_entry_of (negsuc 0) s.term s.position) entries

-- P22: the last entry of the module in the latest valid set goes, where there is such a set
abbrev pub invalidated : ℕ → List SnapshotEntry → List SnapshotEntry
invalidated services entries = without_set (latest_set services entries) entries
