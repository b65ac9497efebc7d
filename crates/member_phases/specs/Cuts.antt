-- What a fault of the disk makes of a phase.
use Rattle.std.specs.Prelude.{ℕ, List}
use Rattle.cl_base.specs.Disk.{DiskState}
use Rattle.service_api.specs.declared.shipped.Kind.{Kind}
use Rattle.run_world.specs.Seat.{Seat}
use Rattle.run_world.specs.Rounds.{Phased}
use Rattle.run_world.specs.RunWorld.{RunWorld}
use Rattle.run_orders.specs.Stands.{IsSeat, SeatSeen}
use Rattle.member_phases.specs.Seats.{with_seat}

module _ {D : Type 0} (state : D → DiskState) (kinds : List Kind) where
  -- A phase of member m that a fault of its disk ended leads from one world to another: there its place y, stopped, stands to its seat, and all else is as it was.
  pub record IsCutPhase (m : ℕ) (y : SeatSeen D) (w : RunWorld) : Type 0 where
    pub after : Seat
    pub phased : Phased kinds m w (with_seat m after w)
    pub seat : IsSeat state kinds y after
