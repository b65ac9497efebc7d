-- What the bytes of a source are read as.
use Rattle.std.specs.Prelude.{◌≡◌, ℕ, ◌≤◌, ◌<◌, Bool, IsTrue, List, length, Some, None}
use Rattle.cl_base.specs.Counts.{Rose}
use Rattle.scenario.specs.Orders.{orders_of, first_fault}
use Rattle.scenario.specs.declared.fault.Cause.{Cause}
use Rattle.scenario.specs.declared.order.Order.{Order}
use Rattle.run_start.specs.declared.status.Status.{Status}
use Rattle.run_start.specs.declared.status.Status.TheVariants.{Done, WriteFault, Refused, TooLong, ReadFault, NoMemory}

-- all that a source gave: what it had, where it tells that
abbrev pub IsGiven : Bool → List ℕ → List ℕ → Type 0
IsGiven tells had bytes = (length bytes ≤ 1048576) × (IsTrue tells → bytes ≡ had)

-- these are the orders of what a source gave
abbrev pub AreOrders : Bool → List ℕ → List Order → Type 0
AreOrders tells had orders = (bytes : List ℕ) × IsGiven tells had bytes × (first_fault bytes ≡ None) × (orders ≡ orders_of bytes)

-- this is the first faulty line of what a source gave
abbrev pub IsFaulty : Bool → List ℕ → ℕ → Cause → Type 0
IsFaulty tells had line cause = (bytes : List ℕ) × IsGiven tells had bytes × (first_fault bytes ≡ Some (record { line = line; cause = cause }))

-- why a source gave no orders, where its count of faults was `old` and is `new`
abbrev pub IsUnread : Bool → List ℕ → ℕ → ℕ → Status → Type 0
IsUnread tells had old new ReadFault = Rose old new
IsUnread tells had old new TooLong = IsTrue tells → 1048576 < length had
IsUnread tells had old new (Refused line cause) = IsFaulty tells had line cause
IsUnread tells had old new NoMemory = Unit {0}
IsUnread tells had old new _ = ⊥

-- how a reading of a source ends, whose orders are only written
abbrev pub IsChecked : Bool → List ℕ → ℕ → ℕ → Status → Type 0
IsChecked tells had old new Done = Unit {0}
IsChecked tells had old new WriteFault = Unit {0}
IsChecked tells had old new s = IsUnread tells had old new s
