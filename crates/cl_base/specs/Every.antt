-- What each image of one file of a disk is, and what a crash takes along of a byte that was written last.
use Rattle.std.specs.Prelude.{◌≡◌, ◌≢◌, ℕ, Bool, true, false, List}
use Rattle.cl_base.specs.Disk.{FileState, IsImage}
use Rattle.cl_base.specs.declared.disk.Choice.{Choice}
use Rattle.cl_base.specs.declared.disk.Choice.TheVariants.{Drop, Keep, Fill}

-- each image of the file has P, and the other files are as they were
pub record EveryImage (file : ℕ) (P : List ℕ → Type 0) (was files : ℕ → FileState) : Type 0 where
  pub this : (c : List ℕ) → IsImage (files file) c → P c
  pub others : (g : ℕ) → g ≢ file → files g ≡ was g

-- the file has P, and each other file is as a crash could leave it before
pub record FileIs (file : ℕ) (P : List ℕ → Type 0) (was : ℕ → FileState) (c : ℕ → List ℕ) : Type 0 where
  pub this : P (c file)
  pub others : (g : ℕ) → g ≢ file → IsImage (was g) (c g)

-- a crash by this choice leaves a byte that passes the test, where one that passes it was written last
abbrev pub takes : (ℕ → Bool) → Choice → Bool
takes passes Drop = false
takes passes Keep = true
takes passes (Fill x) = passes x
