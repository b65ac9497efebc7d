-- What a phase makes of a member's seat.
use Rattle.std.specs.Prelude.{ℕ, map, set}
use Rattle.entry_log.specs.Log.{Log}
use Rattle.run_world.specs.Seat.{Seat}
use Rattle.run_world.specs.RunWorld.{RunWorld, committed}

-- each service consumed all that is committed
abbrev pub all_fed : Seat → Seat
all_fed s = record s { run = record s.run { inputs = map (λ (xs : Log). committed s.member) s.run.inputs } }

-- the world with this seat, and all else as it is
abbrev pub with_seat : ℕ → Seat → RunWorld → RunWorld
with_seat m s w = record w { seats = set w.seats m s }
