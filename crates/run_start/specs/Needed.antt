-- How many disks a run needs.
use Rattle.std.specs.Prelude.{ℕ, ◌+◌, Bool, true, false, ◌||◌, if◌then◌else◌, List, fold}
use Rattle.scenario.specs.Orders.{members_of}
use Rattle.scenario.specs.declared.order.Order.{Order}
use Rattle.scenario.specs.declared.order.Order.TheVariants as orders

-- an order of the backup
abbrev pub is_of_backup : Order → Bool
is_of_backup (orders.Backup line member) = true
is_of_backup (orders.BackupOff line) = true
is_of_backup (orders.BackupLose line) = true
is_of_backup _ = false

abbrev pub found_backup : Bool → Order → Bool
found_backup found o = found || is_of_backup o

-- some order is of the backup
abbrev pub has_backup : List Order → Bool
has_backup os = fold found_backup false os

-- one for each member, and one for the backup where there is one
abbrev pub disks_of : List Order → ℕ
disks_of os = members_of os + (if has_backup os then 1 else 0)
