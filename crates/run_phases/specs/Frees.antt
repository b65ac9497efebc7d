-- A free phase: its jobs are lent to its lanes.
use Rattle.std.specs.Prelude.{◌≡◌, ◌≤◌, List, []}
use Rattle.commit_counter.specs.Ends.{Fed}
use Rattle.run_phases.specs.declared.free.Free.{Free}
use Rattle.service_phases.specs.Pairs.{Each}
use Rattle.service_phases.specs.Feeds.{MayFinish}
use Rattle.service_phases.specs.Stages.{Stage, Runs, IsFeeding}

-- a phase that feeds: no container is kept, and its feeds run within the commit
pub record IsGoing (s : Stage) (feeds : List Fed) : Type 0 where
  pub feeding : IsFeeding s feeds
  pub place : s.first ≤ s.commit
  pub kept : s.lending.kept ≡ []

module _ {G : Type 0} where
  -- the phase runs
  pub record IsFree (s : Stage) (p : Free G) : Type 0 where
    pub runs : Runs s p.feeds p.lanes
    pub finish : Each MayFinish p.feeds
