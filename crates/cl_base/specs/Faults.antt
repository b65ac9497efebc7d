-- How a member's faults come from a disk's.
use Rattle.std.specs.Prelude.{◌≡◌, ◌⊎◌, ℕ, ◌≤◌, Result, IsErrOf, IfErr}
use Rattle.cl_base.specs.Counts.{Rose}
use Rattle.cl_base.specs.declared.fault.Trouble.{Trouble}
use Rattle.cl_base.specs.declared.fault.Trouble.TheVariants as trouble
use Rattle.cl_base.specs.declared.fault.MemberFault.{MemberFault}
use Rattle.cl_base.specs.declared.fault.MemberFault.TheVariants as fault

abbrev pub fault_of : Trouble → MemberFault
fault_of trouble.Failed = fault.Device
fault_of trouble.NoMemory = fault.NoMemory

abbrev pub IsNoLogFull : MemberFault → Type 0
IsNoLogFull (fault.LogFull place) = ⊥
IsNoLogFull _ = Unit {0}

-- a changing call of a member's file answers Device, only where the disk's count rose, or NoMemory
pub record HasDeviceCause {T : Type 0} (old new : ℕ) (result : Result T MemberFault) : Type 0 where
  pub later : old ≤ new
  pub device : IsErrOf result fault.Device → Rose old new
  pub only : IfErr result (λ e. (e ≡ fault.Device) ⊎ (e ≡ fault.NoMemory))

-- a mount answers Device, only where the disk's count rose, NoMemory, or Damaged
pub record HasMountCause {T : Type 0} (old new : ℕ) (result : Result T MemberFault) : Type 0 where
  pub later : old ≤ new
  pub device : IsErrOf result fault.Device → Rose old new
  pub not_full : IfErr result IsNoLogFull
