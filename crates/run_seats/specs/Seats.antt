-- One member of a run in its seat.
use Rattle.std.specs.Prelude.{◌≡◌, ℕ, List, Option, Some, None, map}
use Rattle.cl_base.specs.declared.disk.Choice.{Choice}
use Rattle.run_orders.specs.Stands.{Down, EndedSeen, HomeSeen, SeatSeen, Up}
use Rattle.run_seats.specs.Running.{RunningSeen}
use Rattle.run_seats.specs.declared.ended.ServiceRun.{ServiceRun}
use Rattle.run_seats.specs.declared.seat.Home.{Home}
use Rattle.run_seats.specs.declared.seat.Home.TheVariants as homes

-- a member's number and its place; no home while its disk is taken to be read
pub record SeatHeld (D : Type 0) : Type 0 where
  pub member : ℕ
  pub home : Option (HomeSeen D)
  pub choice : Choice
  pub ended : List EndedSeen

abbrev pub home_of : {D : Type 0} → Home D → Option (HomeSeen D)
home_of (homes.Up r) = Some (Up r.member r.going)
home_of (homes.Down disk) = Some (Down disk)
home_of homes.Taken = None

abbrev pub ended_seen : ServiceRun → EndedSeen
ended_seen r = record { from = r.from; inputs = r.inputs }

-- it is seen so
pub record IsSeen {D : Type 0} (s : SeatHeld D) (x : SeatSeen D) : Type 0 where
  pub home : s.home ≡ Some x.home
  pub choice : s.choice ≡ x.choice
  pub ended : s.ended ≡ x.ended
