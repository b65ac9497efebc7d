-- Which entries count, and what they say.
use Rattle.std.specs.Prelude.{◌≡◌, ◌⊎◌, ℕ, ◌^◌, ℤ, pos, negsuc, int_lt, int_le, Bool, ◌&&◌, ◌||◌, ◌==◌, nat_le, if◌then◌else◌, List, [], ◌∷◌, nat_abs}
use Rattle.std.specs.List.{filter}
use Rattle.recording_log.specs.declared.entry.RecEntry.{RecEntry}
use Rattle.recording_log.specs.declared.entry.TermAt.{TermAt}
use Rattle.recording_log.specs.Entries.{Holds}

-- 0 to 2^62
abbrev pub in_range : ℤ → Bool
in_range z = int_le (pos 0) z && int_le z (pos (2 ^ 62))

-- what a SNAPSHOT entry names beside its term: a recording of 0 to 1,023, and a position
abbrev pub names_snapshot : RecEntry → Bool
names_snapshot e = int_le (pos 0) e.recording && int_lt e.recording (pos 1024) && in_range e.position

-- a TERM entry (kind 0) or a SNAPSHOT entry (kind 1) that counts
abbrev pub is_valid : RecEntry → Bool
is_valid e = nat_le e.kind 1 && in_range e.term && in_range e.base && (e.kind == 0 || names_snapshot e)

-- the entries that count, in the order of the file
abbrev pub valid_of : List RecEntry → List RecEntry
valid_of entries = filter is_valid entries

abbrev pub is_term : RecEntry → Bool
is_term e = is_valid e && (e.kind == 0)

abbrev pub is_snapshot : RecEntry → Bool
is_snapshot e = is_valid e && (e.kind == 1)

abbrev pub term_of : RecEntry → TermAt
term_of e = record { term = e.term; base = nat_abs e.base; stamp = e.stamp }

-- the leadership terms, in the order of the file
abbrev pub terms_of : List RecEntry → List TermAt
terms_of [] = []
terms_of (e ∷ es) = if is_term e then term_of e ∷ terms_of es else terms_of es

-- the entry of a leadership term
abbrev pub term_entry : ℤ → ℕ → ℤ → RecEntry
term_entry term base stamp = record { recording = pos 0; term = term; base = pos base; position = negsuc 0; stamp = stamp; service = negsuc 0; kind = 0 }

-- the entry of a snapshot of a service, or of the module
abbrev pub snapshot_entry : ℕ → ℤ → ℕ → ℕ → ℤ → ℤ → RecEntry
snapshot_entry recording term base position stamp service =
    record { recording = pos recording; term = term; base = pos base; position = pos position; stamp = stamp; service = service; kind = 1 }

-- the entries that count in the file are these
pub record Stands (valid : List RecEntry) (bytes : List ℕ) : Type 0 where
  pub entries : List RecEntry
  pub holds : Holds entries bytes
  pub counts : valid_of entries ≡ valid

abbrev pub StandsOne : List RecEntry → List RecEntry → List ℕ → Type 0
StandsOne before after bytes = Stands before bytes ⊎ Stands after bytes
