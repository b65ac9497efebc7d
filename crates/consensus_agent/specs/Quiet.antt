-- What calls that only read a member's disk answer.
use Rattle.std.specs.Prelude.{◌≡◌, ℕ, ◌≤◌, Bool, false, IsTrue}
use Rattle.cl_base.specs.Counts.{Rose}
use Rattle.cl_base.specs.Disk.{DiskState}
use Rattle.cl_base.specs.Looks.{Same}
use Rattle.cl_base.specs.declared.fault.MemberFault.{MemberFault}
use Rattle.cl_base.specs.declared.fault.MemberFault.TheVariants as fault
use Rattle.member_disk.specs.Kept.{Held as DiskHeld}

module _ {D : Type 0} (faults : D → ℕ) (state : D → DiskState) (is_told : D → Bool) where
  -- they were done: all that the disk tells is as it was
  pub record Quiet (a b : DiskHeld D) : Type 0 where
    pub later : faults a.disk ≤ faults b.disk
    pub same : IsTrue (is_told a.disk) → Same (state a.disk) (state b.disk)

  -- one was not done: Device is answered only where the count of faults rose, and where no fuse had refused a call, the disk's own
  pub record Failed (a b : DiskHeld D) (e : MemberFault) : Type 0 where
    pub later : faults a.disk ≤ faults b.disk
    pub device : e ≡ fault.Device → Rose (faults a.disk) (faults b.disk)
    pub own : IsTrue (is_told a.disk) → (state a.disk).burnt ≡ false → e ≡ fault.Device → Rose (state a.disk).own_faults (state b.disk).own_faults
