-- What a phase has of a log.
use Rattle.std.specs.Prelude.{ℕ, List}
use Rattle.cl_base.specs.declared.entry.Entry.{Entry}
use Rattle.commit_counter.specs.Ends.{Fed}
use Rattle.service_phases.specs.Pairs.{Each, Each2}
use Rattle.service_phases.specs.Feeds.{FeedsFrom, FeedHolds, Finishes}
use Rattle.service_phases.specs.Phases.{IsWithin}
use Rattle.service_phases.specs.Stages.{Stage}

-- what it was fed is the log's, and then its end was published
abbrev pub FromToEnd : List Entry → ℕ → Fed → Fed → Type 0
FromToEnd log commit b g = (f : Fed) × FeedsFrom log commit b f × Finishes f g

-- what each container had consumed as it was lent is the log's, within the commit, and so is what each feed was fed since
pub record FeedsLog (log : List Entry) (s : Stage) (feeds : List Fed) : Type 0 where
  pub lent : Each (IsWithin log s.commit) s.lending.lent
  pub fed : Each2 (FeedsFrom log s.commit) s.lending.begun feeds

-- the same of what each feed published: what is left of it once the log was cut
pub record HoldsLog (log : List Entry) (s : Stage) (feeds : List Fed) : Type 0 where
  pub lent : Each (IsWithin log s.commit) s.lending.lent
  pub fed : Each2 (FeedHolds log s.commit) s.lending.begun feeds
