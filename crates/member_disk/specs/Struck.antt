-- A strike of an entry of the recording log: of a byte that a crash may leave torn, only what counts is said.
use Rattle.std.specs.Prelude.{◌⊎◌, ℕ, ◌==◌, ◌&&◌, if◌then◌else◌, List, Result, OnOk}
use Rattle.cl_base.specs.Disk.{DiskState, LeavesOnly, left_by}
use Rattle.cl_base.specs.Every.{takes}
use Rattle.cl_base.specs.Fuse.{FuseEnds}
use Rattle.cl_base.specs.Runs.{EachImage}
use Rattle.cl_base.specs.declared.disk.Choice.{Choice}
use Rattle.cl_base.specs.declared.fault.MemberFault.{MemberFault}
use Rattle.cl_base.specs.declared.fault.MemberFault.TheVariants.{Device}
use Rattle.node_state.specs.Node.{Tells}
use Rattle.recording_log.specs.declared.entry.RecEntry.{RecEntry}
use Rattle.recording_log.specs.Sets.{is_struck, struck}
use Rattle.recording_log.specs.Valid.{Stands, valid_of}
use Rattle.log_segment.specs.Segment.{LogIs}
use Rattle.member_disk.specs.Kept.{Kept, EachStands}

-- the files stand for what is kept, but for entries that don't count
pub record CountsAs (kept : Kept) (c : ℕ → List ℕ) : Type 0 where
  pub node : Tells kept.node (c 0)
  pub entries : Stands (valid_of kept.entries) (c 1)
  pub log : LogIs kept.log c

abbrev pub CountsAsOne : Kept → Kept → (ℕ → List ℕ) → Type 0
CountsAsOne before after c = CountsAs before c ⊎ CountsAs after c

-- what is kept once entry e at index i is struck
abbrev pub with_struck : Kept → ℕ → RecEntry → Kept
with_struck kept i e = record kept { entries = struck i e kept.entries }

-- what each choice leaves after a strike that a fuse ended: what counted before, but after one call what counts then
-- where the choice takes a byte other than 0 along
abbrev pub StruckLeft : Kept → Kept → DiskState → ℕ → Type 0
StruckLeft before after left k = (choice : Choice) → CountsAs (if (k == 1) && takes is_struck choice then after else before) (λ f. left_by choice (left.files f))

-- What a strike leaves of a disk each image of which stood for what was kept before.
pub record IsStruck {D T : Type 0} (state : D → DiskState) (moment : D → ℕ) (left_since : D → ℕ → (ℕ → List ℕ) → Type 0) (before after : Kept) (old new : D) (result : Result T MemberFault) : Type 0 where
  -- after Ok each image stands for what is kept then
  pub done : OnOk result (EachStands after (state new).files)
  -- after any answer, and at any moment of the call, what counts in each image is what counted before, or what counts then
  pub each : EachImage (CountsAsOne before after) (state new).files
  pub run : LeavesOnly moment left_since old new (CountsAsOne before after)
  -- a fuse ends it exactly where it lets fewer than two calls pass
  pub fuse : FuseEnds 2 Device (StruckLeft before after) (state old) (state new) result
