-- How a run ends.
use Rattle.std.specs.Prelude.{◌≡◌, ℕ, Bool, false, List, Option, Some, None}
use Rattle.cl_base.specs.Disk.{DiskState}
use Rattle.plan.specs.declared.words.Plan.{Plan}
use Rattle.plan.specs.declared.words.Plan.TheVariants as plans
use Rattle.scenario.specs.Orders.{members_of}
use Rattle.scenario.specs.declared.order.Order.{Order}
use Rattle.run_start.specs.Begins.{CannotBegin}
use Rattle.run_start.specs.Needed.{has_backup, disks_of}
use Rattle.run_start.specs.Reading.{AreOrders, IsUnread, IsChecked}
use Rattle.run_start.specs.Status.{IsOrGivesUp}
use Rattle.run_start.specs.declared.status.Status.{Status}
use Rattle.run_start.specs.declared.status.Status.TheVariants.{Done, Usage, WriteFault, FewDisks, Used, DiskFault}

-- how a run of these orders on these disks ends
abbrev pub Ends : {D : Type 0} → (D → Bool) → (D → DiskState) → (D → ℕ) → List Order → List D → List D → Status → Type 0
Ends tells state faults orders old new Done = Unit {0}
Ends tells state faults orders old new WriteFault = Unit {0}
Ends tells state faults orders old new s = CannotBegin tells state faults (members_of orders) (disks_of orders) old new s

module _ {D : Type 0} (tells : D → Bool) (state : D → DiskState) (faults : D → ℕ) (old new : List D) where
  -- How a run of what a source had ends, on these disks: a run that began, and one that couldn't, had the orders that were
  -- read; else they couldn't be read. What failed in writing is told apart.
  abbrev pub IsRun : Bool → List ℕ → ℕ → ℕ → Status → Type 0
  IsRun told had before after Done = (orders : List Order) × AreOrders told had orders
  IsRun told had before after WriteFault = Unit {0}
  IsRun told had before after (FewDisks m n) = (orders : List Order) × AreOrders told had orders × CannotBegin tells state faults (members_of orders) (disks_of orders) old new (FewDisks m n)
  IsRun told had before after (Used m f) = (orders : List Order) × AreOrders told had orders × CannotBegin tells state faults (members_of orders) (disks_of orders) old new (Used m f)
  IsRun told had before after (DiskFault m) = (orders : List Order) × AreOrders told had orders × CannotBegin tells state faults (members_of orders) (disks_of orders) old new (DiskFault m)
  IsRun told had before after s = IsUnread told had before after s

  -- How a call ends whose words ask for this, if they ask for something.
  abbrev pub IsAnswered : Option Plan → Bool → List ℕ → ℕ → ℕ → Status → Type 0
  IsAnswered (Some (plans.Run dir)) told had before after s = IsRun told had before after s
  IsAnswered (Some (plans.Make n dir)) told had before after s = (orders : List Order) × (has_backup orders ≡ false) × Ends tells state faults orders old new s
  IsAnswered (Some plans.Check) told had before after s = IsChecked told had before after s
  IsAnswered None told had before after s = IsOrGivesUp s Usage
