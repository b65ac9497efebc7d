-- Why a run can't begin on its disks.
use Rattle.std.specs.Prelude.{◌≡◌, ℕ, ◌<◌, ◌⊎◌, Bool, true, List, length, Option, Some, None}
use Rattle.cl_base.specs.Disk.{DiskState}
use Rattle.scenario.specs.declared.order.Order.{Order}
use Rattle.run_start.specs.Disks.{RoseAt, IsUsedAt}
use Rattle.run_start.specs.Needed.{has_backup}
use Rattle.run_start.specs.Reading.{AreOrders}
use Rattle.run_start.specs.declared.status.Status.{Status}
use Rattle.run_start.specs.declared.status.Status.TheVariants.{FewDisks, Used, DiskFault, NoMemory}

-- why a run of so many members, which needs so many disks, can't begin on these disks
abbrev pub CannotBegin : {D : Type 0} → (D → Bool) → (D → DiskState) → (D → ℕ) → ℕ → ℕ → List D → List D → Status → Type 0
CannotBegin tells state faults members needed old new (FewDisks m disks) = (m ≡ members) × (disks ≡ length old) × (disks < needed)
CannotBegin tells state faults members needed old new (Used disk file) = (disk < needed) × IsUsedAt tells state old disk file
CannotBegin tells state faults members needed old new (DiskFault disk) = (disk < needed) × RoseAt faults old new disk
CannotBegin tells state faults members needed old new NoMemory = Unit {0}
CannotBegin tells state faults members needed old new _ = ⊥

-- fewer disks than members, or as many, where some order of what a source gave is of the backup
abbrev pub AreFew : Bool → List ℕ → ℕ → ℕ → Type 0
AreFew told had members disks = (disks < members) ⊎ ((disks ≡ members) × (orders : List Order) × AreOrders told had orders × (has_backup orders ≡ true))

-- why the first of these disks can't be found empty
abbrev pub LookFails : {D : Type 0} → (D → Bool) → (D → DiskState) → (D → ℕ) → ℕ → List D → List D → Status → Type 0
LookFails tells state faults count old new (Used disk file) = (disk < count) × IsUsedAt tells state old disk file
LookFails tells state faults count old new (DiskFault disk) = (disk < count) × RoseAt faults old new disk
LookFails tells state faults count old new NoMemory = Unit {0}
LookFails tells state faults count old new _ = ⊥

-- the same of an answer, where there is one
abbrev pub IfLookFails : {D : Type 0} → (D → Bool) → (D → DiskState) → (D → ℕ) → ℕ → List D → List D → Option Status → Type 0
IfLookFails tells state faults count old new None = Unit {0}
IfLookFails tells state faults count old new (Some s) = LookFails tells state faults count old new s

-- why the first of these disks, so many, can't be formatted
abbrev pub FormatFails : {D : Type 0} → (D → ℕ) → ℕ → List D → List D → Status → Type 0
FormatFails faults count old new (DiskFault disk) = (disk < count) × RoseAt faults old new disk
FormatFails faults count old new NoMemory = Unit {0}
FormatFails faults count old new _ = ⊥

-- the same of an answer, where there is one
abbrev pub IfFails : {D : Type 0} → (D → ℕ) → ℕ → List D → List D → Option Status → Type 0
IfFails faults count old new None = Unit {0}
IfFails faults count old new (Some s) = FormatFails faults count old new s
