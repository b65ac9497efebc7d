-- What calls leave of a member's disk.
use Rattle.std.specs.Prelude.{◌≡◌, ℕ, ◌≤◌, Bool, false, IsTrue, List, [], ◌∷◌, ◌++◌, take}
use Rattle.cl_base.specs.Disk.{DiskState}
use Rattle.cl_base.specs.Fuse.{Passed}
use Rattle.cl_base.specs.Runs.{EachImage}
use Rattle.node_state.specs.Node.{raised}
use Rattle.log_segment.specs.Held.{new_terms}
use Rattle.member_disk.specs.Kept.{Kept, Held as DiskHeld, EachStands}
use Rattle.member_disk.specs.Changes.{HaveTerms}
use Rattle.member_disk.specs.CutWell.{IsDurableOne, snapshots_of}
use Rattle.member_disk.specs.Parts.{Part, append_parts, calls_of, cut_parts, raise_part}
use Rattle.consensus_core.specs.declared.change.Change.{Change}
use Rattle.consensus_core.specs.declared.change.Change.TheVariants as changes

-- each term that begins in the log has its TERM entry
abbrev pub HasTerms : Kept → Type 0
HasTerms k = HaveTerms k.entries (new_terms 0 k.log)

-- what is kept after a change, but for further TERM entries
abbrev pub changed_kept : Change → Kept → Kept
changed_kept changes.Nothing k = k
changed_kept (changes.Raise term voted) k = record k { node = raised k.node term voted }
changed_kept (changes.Append entries) k = record k { log = k.log ++ entries }
changed_kept (changes.Cut n) k = record k { log = take n k.log }

-- the parts in which a change is made
abbrev pub parts_of : Change → Kept → List Part
parts_of changes.Nothing k = []
parts_of (changes.Raise term voted) k = raise_part k term voted ∷ []
parts_of (changes.Append entries) k = append_parts k entries
parts_of (changes.Cut n) k = cut_parts k n

-- the snapshots and the number of services stay, and each term still has its entry
pub record KeepsSets (a b : Kept) : Type 0 where
  pub services : b.services ≡ a.services
  pub snapshots : snapshots_of b.entries ≡ snapshots_of a.entries
  pub terms : HasTerms a → HasTerms b

module _ {D : Type 0} (state : D → DiskState) (is_told is_honest : D → Bool) where
  -- a disk of which a crash leaves only images that stand for what is kept
  pub record IsRight (d : DiskHeld D) : Type 0 where
    pub honest : IsTrue (is_honest d.disk)
    pub each : EachStands d.kept (state d.disk).files
    pub terms : HasTerms d.kept

  -- what calls that only read leave: all but, after a failure, the count of faults
  pub record Looked (a b : DiskHeld D) : Type 0 where
    pub kept : b.kept ≡ a.kept
    pub tells : is_told b.disk ≡ is_told a.disk
    pub honest : is_honest b.disk ≡ is_honest a.disk
    pub files : IsTrue (is_told a.disk) → (g : ℕ) → (state b.disk).files g ≡ (state a.disk).files g

  -- what a change leaves, whatever the answer: each image is durable as before or as after it, and no snapshot's file changed
  pub record Went (change : Change) (a b : DiskHeld D) : Type 0 where
    pub tells : is_told b.disk ≡ is_told a.disk
    pub honest : is_honest b.disk ≡ is_honest a.disk
    pub kept : KeepsSets a.kept b.kept
    pub each : IsRight a → EachImage (IsDurableOne a.kept (changed_kept change a.kept)) (state b.disk).files
    pub files : IsRight a → (g : ℕ) → 258 ≤ g → (state b.disk).files g ≡ (state a.disk).files g

  -- and once it is done: each image stands for what is kept then, and a fuse let all its calls pass
  pub record Done (change : Change) (a b : DiskHeld D) : Type 0 where
    pub stands : IsRight a → EachStands b.kept (state b.disk).files
    pub passed : IsRight a → (state a.disk).burnt ≡ false → Passed (calls_of (parts_of change a.kept)) (state a.disk) (state b.disk)
