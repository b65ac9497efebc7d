-- A running member, between its phases or in one that goes on.
use Rattle.std.specs.Prelude.{◌≡◌, Bool, true, false}
use Rattle.run_orders.specs.Stands.{UpSeen}
use Rattle.run_seats.specs.declared.running.State.{State}
use Rattle.run_seats.specs.declared.running.State.TheVariants as states

-- what stands to the world of a run, and whether a phase goes on
pub record RunningSeen (D : Type 0) : Type 0 where
  pub member : UpSeen D
  pub going : Bool

abbrev pub idle_seen : {D : Type 0} → UpSeen D → RunningSeen D
idle_seen u = record { member = u; going = false }

abbrev pub going_seen : {D : Type 0} → UpSeen D → RunningSeen D
going_seen u = record { member = u; going = true }

abbrev pub running_of : {D : Type 0} → State D → RunningSeen D
running_of (states.Idle u) = idle_seen u
running_of (states.Going u) = going_seen u
