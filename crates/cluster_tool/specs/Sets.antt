-- The valid sets of snapshots among the entries of a recording log, as a list.
use Rattle.std.specs.Prelude.{ℕ, zero, suc, ℤ, pos, Bool, true, false, ◌&&◌, ◌||◌, ◌==◌, nat_lt, int_lt, if◌then◌else◌, List, [], ◌∷◌, nat_abs}
use Rattle.std.specs.Ordering.{int_eq}
use Rattle.recording_log.specs.declared.entry.RecEntry.{RecEntry}
use Rattle.recording_log.specs.declared.entry.SnapshotAt.{SnapshotAt}
use Rattle.recording_log.specs.Valid.{is_snapshot}
use Rattle.recording_log.specs.Sets.{the_module}

-- a SNAPSHOT entry that counts, of this term, position and service
abbrev pub is_part : ℤ → ℤ → ℤ → RecEntry → Bool
is_part term position service e = is_snapshot e && (int_eq e.term term && (int_eq e.position position && int_eq e.service service))

-- one of the entries is such an entry
abbrev pub has_part : ℤ → ℤ → ℤ → List RecEntry → Bool
has_part term position service [] = false
has_part term position service (e ∷ es) = is_part term position service e || has_part term position service es

-- each of so many services has one
abbrev pub has_services : List RecEntry → ℤ → ℤ → ℕ → Bool
has_services entries term position zero = true
has_services entries term position (suc n) = has_part term position (pos n) entries && has_services entries term position n

-- the set of this term and position is valid: the module and each service have one
abbrev pub has_set : ℕ → List RecEntry → ℤ → ℤ → Bool
has_set services entries term position = has_part term position the_module entries && has_services entries term position services

-- an entry is the module's of a valid set
abbrev pub names_set : ℕ → List RecEntry → RecEntry → Bool
names_set services entries e = is_snapshot e && (int_eq e.service the_module && has_set services entries e.term e.position)

-- the set that it names
abbrev pub set_named : RecEntry → SnapshotAt
set_named e = record { recording = nat_abs e.recording; term = e.term; position = nat_abs e.position }

-- a set is listed before another: by position, and at one position by term
abbrev pub is_before : SnapshotAt → SnapshotAt → Bool
is_before a b = nat_lt a.position b.position || (a.position == b.position && int_lt a.term b.term)

-- a set at its place among others, each position and term once
abbrev pub put_in : SnapshotAt → List SnapshotAt → List SnapshotAt
put_in s [] = s ∷ []
put_in s (t ∷ ts) = if is_before s t then s ∷ t ∷ ts else (if is_before t s then t ∷ put_in s ts else t ∷ ts)

-- the sets that these of the entries name
abbrev pub sets_among : ℕ → List RecEntry → List RecEntry → List SnapshotAt
sets_among services entries [] = []
sets_among services entries (e ∷ es) = if names_set services entries e then put_in (set_named e) (sets_among services entries es) else sets_among services entries es

-- the valid sets, by rising position, and at one position by rising term
abbrev pub sets_of : ℕ → List RecEntry → List SnapshotAt
sets_of services entries = sets_among services entries entries
