-- A change in parts, each of which a crash leaves done or not done.
use Rattle.std.specs.Prelude.{ℕ, length, take, ◌+◌, ◌-◌, ◌==◌, ◌&&◌, nat_lt, Bool, if◌then◌else◌, ℤ, List, [], ◌∷◌, ◌++◌, Option, Some, None, nat_le, Result, OnOk}
use Rattle.cl_base.specs.Disk.{DiskState, LeavesOnly, left_by}
use Rattle.cl_base.specs.Every.{takes}
use Rattle.cl_base.specs.Fuse.{FuseEnds}
use Rattle.cl_base.specs.Gated.{is_open_byte}
use Rattle.cl_base.specs.Runs.{EachImage}
use Rattle.cl_base.specs.declared.disk.Choice.{Choice}
use Rattle.cl_base.specs.declared.fault.MemberFault.{MemberFault}
use Rattle.cl_base.specs.declared.fault.MemberFault.TheVariants.{Device}
use Rattle.node_state.specs.Node.{names_slot, raised}
use Rattle.member_disk.specs.declared.durable.SnapshotHead.{SnapshotHead}
use Rattle.member_disk.specs.Changes.{entry_for, has_term, term_at}
use Rattle.recording_log.specs.Steps.{is_open}
use Rattle.recording_log.specs.Valid.{terms_of, term_entry}
use Rattle.entry_log.specs.Log.{Log, place}
use Rattle.log_segment.specs.declared.kept.NewTerm.{NewTerm}
use Rattle.log_segment.specs.Held.{new_term_of}
use Rattle.log_segment.specs.Spelled.{append_calls}
use Rattle.log_segment.specs.Cuts.{is_shut_byte}
use Rattle.member_disk.specs.Kept.{Kept, Stands, Means, EachStands, StandsAmong}

-- one part: its changing calls, the choices that leave it done where a fuse ended it at its last call, and what is kept
-- once it is done
pub record Part : Type 0 where
  pub calls : ℕ
  pub last : Choice → Bool
  pub makes : Kept

abbrev pub calls_of : List Part → ℕ
calls_of [] = 0
calls_of (p ∷ ps) = p.calls + calls_of ps

-- what is kept after all the parts
abbrev pub made : List Part → Kept → Kept
made [] kept = kept
made (p ∷ ps) kept = made ps p.makes

-- what is kept before them, and after each
abbrev pub stages : List Part → Kept → List Kept
stages [] kept = kept ∷ []
stages (p ∷ ps) kept = kept ∷ stages ps p.makes

-- what a choice leaves where a fuse let k calls pass and ended them
abbrev pub left_after : List Part → Kept → ℕ → Choice → Kept
left_after [] kept k choice = kept
left_after (p ∷ ps) kept k choice = if nat_lt k p.calls then (if (k == p.calls - 1) && p.last choice then p.makes else kept) else left_after ps p.makes (k - p.calls) choice

abbrev pub LeftAfter : List Part → Kept → DiskState → ℕ → Type 0
LeftAfter ps kept left k = (choice : Choice) → Stands (left_after ps kept k choice) (λ f. left_by choice (left.files f))

-- What a change of these parts leaves of a disk each image of which stood for what was kept.
pub record IsMade {D T : Type 0} (state : D → DiskState) (moment : D → ℕ) (left_since : D → ℕ → (ℕ → List ℕ) → Type 0) (ps : List Part) (kept : Kept) (old new : D) (result : Result T MemberFault) : Type 0 where
  -- after Ok each image stands for what is kept then
  pub done : OnOk result (EachStands (made ps kept) (state new).files)
  -- after any answer, and at any moment of the call, each image stands for what was kept before or after a part
  pub each : EachImage (StandsAmong (stages ps kept)) (state new).files
  pub run : LeavesOnly moment left_since old new (StandsAmong (stages ps kept))
  -- a fuse ends it exactly where it lets fewer calls pass, and then each choice leaves what the parts say
  pub fuse : FuseEnds (calls_of ps) Device (LeftAfter ps kept) (state old) (state new) result

-- a raise of the candidate term, with the member voted for
abbrev pub raise_part : Kept → ℤ → Option ℕ → Part
raise_part kept term voted = record { calls = 5; last = names_slot (1 - kept.node.slot); makes = record kept { node = raised kept.node term voted } }

-- a snapshot's entry, whose file is on the disk
abbrev pub entry_part : Kept → SnapshotHead → Part
entry_part kept head = record { calls = 5; last = takes is_open; makes = record kept { entries = kept.entries ++ entry_for kept head ∷ [] } }

-- a snapshot: its file in three calls, and then its entry
abbrev pub put_part : Kept → SnapshotHead → Part
put_part kept head = record { calls = 8; last = takes is_open; makes = record kept { entries = kept.entries ++ entry_for kept head ∷ [] } }

-- the addition of a TERM entry
abbrev pub term_part : Kept → NewTerm → Part
term_part kept t = record { calls = 5; last = takes is_open; makes = record kept { entries = kept.entries ++ term_entry t.term t.base t.stamp ∷ [] } }

-- what a term that begins in an entry wants added: its TERM entry, unless it is there
abbrev pub wanted_parts : Kept → Option NewTerm → List Part
wanted_parts kept None = []
wanted_parts kept (Some t) = if has_term (terms_of kept.entries) (term_at t) then [] else term_part kept t ∷ []

-- what the entries of a batch want added, each after the one before
abbrev pub term_parts : Kept → Log → List Part
term_parts kept [] = []
term_parts kept (e ∷ es) = wanted_parts kept (new_term_of 0 e.bytes) ++ term_parts (made (wanted_parts kept (new_term_of 0 e.bytes)) kept) es

-- a batch behind the log
abbrev pub batch_part : Kept → Log → Part
batch_part kept batch = record { calls = append_calls (place kept.log) batch; last = takes is_open_byte; makes = record kept { log = kept.log ++ batch } }

-- an append: the TERM entries that it wants, and then the batch
abbrev pub append_parts : Kept → Log → List Part
append_parts kept batch = term_parts kept batch ++ batch_part (made (term_parts kept batch) kept) batch ∷ []

-- the first entries of the log are kept
abbrev pub cut_part : Kept → ℕ → Part
cut_part kept n = record { calls = 2; last = takes is_shut_byte; makes = record kept { log = take n kept.log } }

-- a cut, which to the whole log has no call
abbrev pub cut_parts : Kept → ℕ → List Part
cut_parts kept n = if n == length kept.log then [] else cut_part kept n ∷ []

-- what is kept after a change of these parts and a crash by a choice, by what the fuse lets pass
abbrev pub by_fuse : List Part → Kept → Option ℕ → Choice → Kept
by_fuse ps kept None choice = made ps kept
by_fuse ps kept (Some k) choice = if nat_le (calls_of ps) k then made ps kept else left_after ps kept k choice

-- a mount of n changing calls under a fuse: what each choice leaves means the same
abbrev pub MountEnds : {T : Type 0} → ℕ → Kept → DiskState → DiskState → Result T MemberFault → Type 0
MountEnds n kept old new result = FuseEnds n Device (λ left k. (choice : Choice) → Means kept (λ f. left_by choice (left.files f))) old new result
