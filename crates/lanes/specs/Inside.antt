-- What the fields of a lane say, and the facts that tie them.
use Rattle.std.specs.Prelude.{◌≡◌, true, false, Option, None, IsSome}
use Rattle.std.specs.Arc.{arc_value}
use Rattle.crossbeam_queue.specs.Passes.{view, IsPassOf}
use Rattle.service_container.specs.declared.container.Served.{Served}
use Rattle.lanes.specs.declared.lane.Lane.TheInside.{Inside}

-- the job that a lane was lent
abbrev pub job_lent : Inside → Option Served
job_lent l = (view l.pass).lent

-- the lane's pass drives its queue, and the lane knows whether something is lent
pub record IsLane (l : Inside) : Type 0 where
  pub pass : IsPassOf (arc_value l.shared).queue l.pass
  pub drives : (view l.pass).drives ≡ true
  pub lent : l.is_lent ≡ true → IsSome (view l.pass).lent
  pub none : l.is_lent ≡ false → (view l.pass).lent ≡ None
