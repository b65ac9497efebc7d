-- A member's phase as contracts see it: where the member stands, and what is true of a phase from its beginning to its end.
use Rattle.std.specs.Prelude.{◌≡◌, ℕ, ◌^◌, ◌<◌, ◌≤◌, Bool, true, false, List, [], map}
use Rattle.commit_counter.specs.Ends.{Fed, Polled}
use Rattle.service_container.specs.Held.{Held, consumed_to}
use Rattle.service_container.specs.declared.container.Served.{Served}
use Rattle.service_phases.specs.Pairs.{Each, Each2}
use Rattle.service_phases.specs.Feeds.{IsFed, HasCommit}
use Rattle.service_phases.specs.Phases.{Lending, Began, IsAt, IsReady, forgetting, RanFor, OneImage}

-- what a member has of its services, the index of the first entry that its module has not consumed, its commit, and whether its phase is over
pub record Stage : Type 0 where
  pub lending : Lending
  pub first : ℕ
  pub commit : ℕ
  pub over : Bool

-- no phase runs, and each service stands where the module does
pub record IsIdle (s : Stage) : Type 0 where
  pub kept : Each (IsAt s.first) s.lending.kept
  pub lent : s.lending.lent ≡ []
  pub place : s.first ≤ s.commit
  pub bound : s.commit < 2 ^ 62

-- the containers with their outboxes emptied
abbrev pub forgot : Lending → Lending
forgot l = record l { kept = map forgetting l.kept }

-- a phase began
pub record Begins (s t : Stage) (feeds : List Fed) (jobs : List Served) : Type 0 where
  pub first : t.first ≡ s.first
  pub commit : t.commit ≡ s.commit
  pub over : t.over ≡ false
  pub began : Began (forgot s.lending) t.lending feeds jobs

-- feeds of a running phase; once it is over they have published the commit
pub record IsFeeding (s : Stage) (feeds : List Fed) : Type 0 where
  pub fed : Each (IsFed s.first s.commit) feeds
  pub over : s.over ≡ true → Each (HasCommit s.commit) feeds
  pub bound : s.commit < 2 ^ 62

-- a container that may be lent for this phase
pub record IsLent (first : ℕ) (c : Held) : Type 0 where
  pub place : first ≤ consumed_to c
  pub ready : IsReady c

-- the image of a feed began at this container's place
abbrev pub StartsAt : Held → Fed → Type 0
StartsAt c f = f.start ≡ consumed_to c

-- the poller of a feed's image, with nothing taken
pub record PollsFor (f : Fed) (p : Polled) : Type 0 where
  pub name : p.name ≡ f.name
  pub start : p.start ≡ f.start
  pub list : p.list ≡ []

-- a phase runs with these feeds, and these are its jobs before they run
pub record Runs (s : Stage) (feeds : List Fed) (jobs : List Served) : Type 0 where
  pub lent : Each (IsLent s.first) s.lending.lent
  pub starts : Each2 StartsAt s.lending.lent feeds
  pub pollers : Each2 (λ f s. PollsFor f s.poller) feeds jobs
  pub containers : Each2 (λ c s. s.container ≡ c) s.lending.lent jobs

-- the jobs of a phase ran, and its feeds were finished
pub record HasRun (s : Stage) (feeds : List Fed) (served : List Served) : Type 0 where
  pub ran : Each2 RanFor s.lending.lent served
  pub images : Each2 OneImage feeds served
  pub finished : Each (λ f. f.ended ≡ true) feeds
