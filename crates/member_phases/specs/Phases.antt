-- What a phase of a member makes of a run.
use Rattle.std.specs.Prelude.{◌≡◌, ℕ, false, List, fold, set}
use Rattle.cl_base.specs.Disk.{DiskState}
use Rattle.cl_base.specs.declared.disk.Choice.{Choice}
use Rattle.egress.specs.declared.sent.Sent.{Sent}
use Rattle.service_api.specs.declared.shipped.Kind.{Kind}
use Rattle.service_phases.specs.Pairs.{Each2}
use Rattle.service_runs.specs.Hosts.{Output}
use Rattle.run_world.specs.Seat.{Seat}
use Rattle.run_world.specs.Rounds.{Phased}
use Rattle.run_world.specs.RunWorld.{RunWorld, seat, with_records}
use Rattle.run_orders.specs.Kept.{HasFaults}
use Rattle.run_orders.specs.Stands.{IsRecord, IsUp, RunSeen, SeatSeen, UpSeen, more_sent}
use Rattle.member_phases.specs.Seats.{with_seat}

-- the driver once member m is this and these records are sent
abbrev pub phase_seen : {D : Type 0} → ℕ → SeatSeen D → List Sent → RunSeen D → RunSeen D
phase_seen m y sent x = record { now = x.now; seats = set x.seats m y; net = x.net; streams = fold more_sent x.streams sent; printed = x.printed }

module _ {D : Type 0} (state : D → DiskState) (kinds : List Kind) where
  -- A whole phase of member m leads from one world to another: there the member stands to its seat, the records that it sent are added, and all else is as it was.
  pub record IsPhase (m : ℕ) (u v : UpSeen D) (sent : List Sent) (w : RunWorld) : Type 0 where
    pub after : Seat
    pub records : List Output
    pub phased : Phased kinds m w (with_records records (with_seat m after w))
    pub up : IsUp state kinds v false after
    pub each : Each2 IsRecord records sent
    pub ended : after.ended ≡ (seat w m).ended
    pub faults : (choice : Choice) → HasFaults (state u.disk.disk) choice (seat w m).faults → HasFaults (state v.disk.disk) choice after.faults
