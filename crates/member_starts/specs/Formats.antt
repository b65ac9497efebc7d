-- What is said of a disk that becomes that of a new member.
use Rattle.std.specs.Prelude.{◌≡◌, ℕ, false, None}
use Rattle.cl_base.specs.Disk.{DiskState}
use Rattle.cl_base.specs.Fuse.{Passed}
use Rattle.member_disk.specs.Fresh.{AreEmpty, IsFresh}

-- a disk without a byte, without a fuse, and without a fault so far
pub record IsBlank (d : DiskState) : Type 0 where
  pub empty : AreEmpty d.files
  pub lets : d.lets ≡ None
  pub alive : d.burnt ≡ false
  pub own : d.own_faults ≡ 0

-- `member_disk::format` answered Ok: its clause `fresh`, and that all its changing calls passed
pub record Formatted (old new : DiskState) : Type 0 where
  pub fresh : AreEmpty old.files → IsFresh new.files
  pub calls : ℕ
  pub passed : old.burnt ≡ false → Passed calls old new
