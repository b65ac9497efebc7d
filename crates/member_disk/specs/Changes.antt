-- What the changes make of what is kept.
use Rattle.std.specs.Prelude.{◌≡◌, ◌⊎◌, ℕ, ◌<◌, ◌≤◌, ◌==◌, ◌&&◌, ◌||◌, ◌^◌, ℤ, pos, negsuc, ◌≤ℤ◌, Bool, false, IsTrue, List, [], ◌∷◌, ◌++◌, slice_get, slice_index_or, length, Some, Result, IsErrOf, IfErr, if◌then◌else◌, ⊤}
use Rattle.cl_base.specs.Counts.{Rose}
use Rattle.cl_base.specs.declared.fault.MemberFault.{MemberFault}
use Rattle.cl_base.specs.declared.fault.MemberFault.TheVariants as fault
use Rattle.std.specs.Ordering.{int_eq}
use Rattle.entry_log.specs.Log.{Log}
use Rattle.recording_log.specs.declared.entry.RecEntry.{RecEntry}
use Rattle.recording_log.specs.declared.entry.TermAt.{TermAt}
use Rattle.recording_log.specs.Valid.{is_snapshot, snapshot_entry, terms_of}
use Rattle.recording_log.specs.Sets.{HasSet}
use Rattle.recording_log.specs.Listed.{IsThere, IsLastPart}
use Rattle.log_segment.specs.declared.kept.NewTerm.{NewTerm}
use Rattle.log_segment.specs.Held.{new_terms}
use Rattle.member_disk.specs.declared.durable.SnapshotHead.{SnapshotHead}
use Rattle.member_disk.specs.Kept.{Kept}

-- a term and a place of 0 to 2^62
pub record IsNewRanged (t : NewTerm) : Type 0 where
  pub low : pos 0 ≤ℤ t.term
  pub high : t.term ≤ℤ pos (2 ^ 62)
  pub base : t.base ≤ 2 ^ 62

abbrev pub AreNewRanged : List NewTerm → Type 0
AreNewRanged [] = ⊤
AreNewRanged (t ∷ ts) = IsNewRanged t × AreNewRanged ts

-- entries were added of which none is a snapshot's
abbrev pub NoneSnapshot : List RecEntry → Type 0
NoneSnapshot [] = ⊤
NoneSnapshot (e ∷ es) = (IsTrue (is_snapshot e) → ⊥) × NoneSnapshot es

pub record GrewByTerms (old new : List RecEntry) : Type 0 where
  pub added : List RecEntry
  pub is : new ≡ old ++ added
  pub none : NoneSnapshot added

-- the term stands among the leadership terms of these entries
abbrev pub term_at : NewTerm → TermAt
term_at t = record { term = t.term; base = t.base; stamp = t.stamp }

abbrev pub HasTerm : List RecEntry → NewTerm → Type 0
HasTerm entries t = (k : ℕ) × (slice_get (terms_of entries) k ≡ Some (term_at t))

-- the same as a test: one of these terms is this one
abbrev pub has_term : List TermAt → TermAt → Bool
has_term [] t = false
has_term (u ∷ us) t = (int_eq u.term t.term && (u.base == t.base) && int_eq u.stamp t.stamp) || has_term us t

-- each of these does
abbrev pub HaveTerms : List RecEntry → List NewTerm → Type 0
HaveTerms entries [] = ⊤
HaveTerms entries (t ∷ ts) = HasTerm entries t × HaveTerms entries ts

-- the first of these do
abbrev pub HaveEach : List RecEntry → List NewTerm → ℕ → Type 0
HaveEach entries ts n = (k : ℕ) (d : NewTerm) → k < n → k < length ts → HasTerm entries (slice_index_or ts k d)

-- a batch was appended, and before it the TERM entries that it needs
pub record IsAppended (batch : Log) (old new : Kept) : Type 0 where
  pub node : new.node ≡ old.node
  pub services : new.services ≡ old.services
  pub log : new.log ≡ old.log ++ batch
  pub entries : GrewByTerms old.entries new.entries
  pub terms : HaveTerms new.entries (new_terms 0 batch)

-- TERM entries alone were added
pub record HasMoreTerms (old new : Kept) : Type 0 where
  pub node : new.node ≡ old.node
  pub services : new.services ≡ old.services
  pub log : new.log ≡ old.log
  pub entries : GrewByTerms old.entries new.entries

-- where the first of these terms of a number begins, 0 where there is none
abbrev pub base_of : ℤ → List NewTerm → ℕ
base_of term [] = 0
base_of term (t ∷ ts) = if int_eq t.term term then t.base else base_of term ts

-- the entry of a snapshot that is put
abbrev pub entry_for : Kept → SnapshotHead → RecEntry
entry_for kept head = snapshot_entry head.recording head.term (base_of head.term (new_terms 0 kept.log)) head.position head.stamp head.service

-- a snapshot was put, where it wasn't there already
pub record IsPut (head : SnapshotHead) (old new : Kept) : Type 0 where
  pub again : IsThere (entry_for old head) old.entries → new ≡ old
  pub first : (IsThere (entry_for old head) old.entries → ⊥) → new ≡ record old { entries = old.entries ++ entry_for old head ∷ [] }

-- a snapshot that may be put: a recording of 0 to 1,023, a term and a position of 0 to 2^62
pub record IsHead (head : SnapshotHead) : Type 0 where
  pub recording : head.recording < 1024
  pub low : pos 0 ≤ℤ head.term
  pub high : head.term ≤ℤ pos (2 ^ 62)
  pub position : head.position ≤ 2 ^ 62

-- the module at -1, or one of so many services
abbrev pub IsMemberOf : ℕ → ℤ → Type 0
IsMemberOf services service = (service ≡ negsuc 0) ⊎ ((n : ℕ) × (service ≡ pos n) × (n < services))

-- some set is valid
pub record HasSome (services : ℕ) (entries : List RecEntry) : Type 0 where
  pub term : ℤ
  pub position : ℤ
  pub set : HasSet services entries term position

-- the entry of a service, or of the module, in the latest valid set
pub record IsLatestPart (services : ℕ) (entries : List RecEntry) (service : ℤ) (e : RecEntry) : Type 0 where
  pub part : IsLastPart entries e.term e.position service e
  pub whole : HasSet services entries e.term e.position
  pub latest : (term position : ℤ) → HasSet services entries term position → (position ≤ℤ e.position) × (position ≡ e.position → term ≤ℤ e.term)

-- an append answers Device, only where the disk's count rose, NoMemory, or LogFull
pub record HasAppendCause {T : Type 0} (old new : ℕ) (result : Result T MemberFault) : Type 0 where
  pub later : old ≤ new
  pub device : IsErrOf result fault.Device → Rose old new
  pub only : IfErr result (λ e. (e ≡ fault.Device) ⊎ ((e ≡ fault.NoMemory) ⊎ ((place : ℕ) × (e ≡ fault.LogFull place))))
