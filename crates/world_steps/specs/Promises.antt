-- What is promised of each world that is reached, besides what is promised of its members alone.
use Rattle.std.specs.Prelude.{◌≡◌, ℕ, ◌≤◌, ◌≤ℤ◌, true, take}
use Rattle.entry_log.specs.Log.{IsPrefixOf}
use Rattle.module_state.specs.Entries.{events_in}
use Rattle.world.specs.World.{World, member}
use Rattle.service_runs.specs.Served.{SnapsHold, InputsHold, PrintedHolds, OutputsHold}
use Rattle.one_log.specs.Led.{Led}
use Rattle.one_log.specs.Formed.{LogsFormed, ModulesKnow, EventsStand, LeadersNamed}
use Rattle.one_log.specs.Ruled.{rules_of, AreRecorded, StartsRestore}
use Rattle.world_steps.specs.Steps.{Seen, Stands}

-- what a step leaves of each member, stops included
pub record GoesOn (w v : World) : Type 0 where
  pub candidates : (m : ℕ) → (member w m).durable.candidate ≤ℤ (member v m).durable.candidate
  pub kept : (m : ℕ) → IsPrefixOf (take (member w m).values.rest.commit (member w m).durable.log) (member v m).durable.log
  pub commits : (m : ℕ) → (member w m).up ≡ true → (member v m).up ≡ true → (member w m).values.rest.commit ≤ (member v m).values.rest.commit

-- of the world with its services and modules: snapshots, inputs, the printed log, what was sent to clients, and that each
-- log is well formed
pub record IsServed (s : Seen) : Type 0 where
  pub world : Led
  pub stands : Stands world s
  pub snaps : SnapsHold (rules_of s.kinds) world.hosted
  pub inputs : InputsHold world.hosted
  pub printed : PrintedHolds world.hosted
  pub outputs : OutputsHold (rules_of s.kinds) world.hosted
  pub formed : LogsFormed s.kinds world
  pub know : ModulesKnow world
  pub members : (m : ℕ) → EventsStand s.kinds (events_in (member s.world m).durable.log)
  pub stand : EventsStand s.kinds (events_in s.printed)
  pub named : LeadersNamed world
  pub recorded : AreRecorded s.kinds world
  pub starts : StartsRestore s.kinds world
