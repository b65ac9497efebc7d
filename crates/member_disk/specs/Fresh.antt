-- The disk of a new member.
use Rattle.std.specs.Prelude.{◌≡◌, ℕ, ◌≤◌, []}
use Rattle.cl_base.specs.Disk.{FileState, settled_file}
use Rattle.node_state.specs.Node as nodes
use Rattle.member_disk.specs.Kept.{Kept, EachStands, ReadsAs, IsSettled}

-- what a new member with so many services keeps
abbrev pub fresh : ℕ → Kept
fresh services = record { node = nodes.fresh; entries = []; log = []; services = services }

-- every file is empty, also after a crash
abbrev pub AreEmpty : (ℕ → FileState) → Type 0
AreEmpty files = (f : ℕ) → files f ≡ settled_file []

-- the files of a new member, all of them on the disk: no file of a snapshot has a byte
pub record IsFresh (files : ℕ → FileState) : Type 0 where
  pub each : (services : ℕ) → EachStands (fresh services) files
  pub reads : (services : ℕ) → ReadsAs (fresh services) files
  pub settled : IsSettled files
  pub snapshots : (f : ℕ) → 258 ≤ f → files f ≡ settled_file []
