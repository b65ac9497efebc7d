-- A member whose phase goes on over its calls.
use Rattle.std.specs.Prelude.{◌≡◌, false}
use Rattle.run_phases.specs.declared.free.Free.{Free}
use Rattle.run_phases.specs.Frees.{IsFree, IsGoing}
use Rattle.service_phases.specs.Feeds.{HasCommit}
use Rattle.service_phases.specs.Pairs.{Each}
use Rattle.service_phases.specs.Stages.{Stage}

module _ {G : Type 0} where
  -- the phase goes on: it is not over, and what is committed is published to each service
  pub record GoesOn (s : Stage) (p : Free G) : Type 0 where
    pub free : IsFree s p
    pub going : IsGoing s p.feeds
    pub published : Each (HasCommit s.commit) p.feeds
    pub on : s.over ≡ false
