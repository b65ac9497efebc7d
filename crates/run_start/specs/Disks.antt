-- Disks before a run.
use Rattle.std.specs.Prelude.{◌≡◌, ◌≢◌, ℕ, ◌<◌, ◌≤◌, Bool, IsTrue, List, [], Option, Some, None, length, slice_index_or}
use Rattle.cl_base.specs.Counts.{Rose}
use Rattle.cl_base.specs.Disk.{FileState, DiskState}

-- the files of the numbers below this one are empty
abbrev pub AreEmpty : (ℕ → FileState) → ℕ → Type 0
AreEmpty files count = (f : ℕ) → f < count → (files f).reads ≡ []

-- the first file of a member that isn't empty, if there is one
abbrev pub IsFirstUsed : (ℕ → FileState) → Option ℕ → Type 0
IsFirstUsed files None = AreEmpty files 1282
IsFirstUsed files (Some f) = (f < 1282) × AreEmpty files f × ((files f).reads ≢ [])

-- the same disk, looked at
pub record IsLookedAt {D : Type 0} (tells honest : D → Bool) (state : D → DiskState) (faults : D → ℕ) (old new : D) : Type 0 where
  pub same : tells new ≡ tells old
  pub still : honest new ≡ honest old
  pub later : faults old ≤ faults new
  pub stays : IsTrue (tells old) → state new ≡ state old

-- the count of a disk of these rose
pub record RoseAt {D : Type 0} (faults : D → ℕ) (old new : List D) (member : ℕ) : Type 0 where
  pub within : member < length old
  pub rose : (d : D) → Rose (faults (slice_index_or old member d)) (faults (slice_index_or new member d))

-- A file of a disk of these isn't empty, where the disk tells that: all files before it are empty, on its disk and on
-- those before.
pub record IsUsedAt {D : Type 0} (tells : D → Bool) (state : D → DiskState) (disks : List D) (member file : ℕ) : Type 0 where
  pub within : member < length disks
  pub before : (k : ℕ) (d : D) → k < member → IsTrue (tells (slice_index_or disks k d)) → AreEmpty (state (slice_index_or disks k d)).files 1282
  pub used : (d : D) → IsTrue (tells (slice_index_or disks member d)) → IsFirstUsed (state (slice_index_or disks member d)).files (Some file)

-- the first disks of these are empty, where they tell it
abbrev pub AreUnused : {D : Type 0} → (D → Bool) → (D → DiskState) → List D → ℕ → Type 0
AreUnused {D} tells state disks count = (k : ℕ) (d : D) → k < count → IsTrue (tells (slice_index_or disks k d)) → AreEmpty (state (slice_index_or disks k d)).files 1282
