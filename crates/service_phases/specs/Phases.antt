-- The containers of a member through a phase.
use Rattle.std.specs.Prelude.{◌≡◌, ℕ, ◌^◌, ◌<◌, ◌≤◌, true, false, List, [], map, length, take, drop}
use Rattle.cl_base.specs.declared.entry.Entry.{Entry}
use Rattle.commit_counter.specs.Ends.{Fed, Polled, IsPrefix, HasEnded, taken_to}
use Rattle.service_container.specs.Held.{Held, consumed_to, Consumes}
use Rattle.service_container.specs.declared.container.Served.{Served}
use Rattle.service_container.specs.declared.container.ServeEnd.TheVariants.{Ended}
use Rattle.service_phases.specs.Pairs.{Each2}

-- the containers that are kept, and of a phase that runs the containers as they were lent and the feeds as they began
pub record Lending : Type 0 where
  pub kept : List Held
  pub lent : List Held
  pub begun : List Fed

-- a container may be lent
abbrev pub IsReady : Held → Type 0
IsReady c = (consumed_to c < 2 ^ 62) × (c.whole ≡ true)

-- the containers of jobs
abbrev pub containers : List Served → List Held
containers jobs = map (λ s. s.container) jobs

-- the containers of jobs are kept, and no phase runs
abbrev pub keeping : List Served → Lending
keeping jobs = record { kept = containers jobs; lent = []; begun = [] }

-- a container has consumed all before this index, and is whole
pub record IsAt (index : ℕ) (c : Held) : Type 0 where
  pub place : consumed_to c ≡ index
  pub whole : c.whole ≡ true

-- the container with its outbox emptied
abbrev pub forgetting : Held → Held
forgetting c = record c { outbox = [] }

-- an image as it begins, for this container
pub record BeginsAt (c : Held) (f : Fed) : Type 0 where
  pub start : f.start ≡ consumed_to c
  pub list : f.list ≡ []
  pub commit : f.commit ≡ consumed_to c
  pub running : f.ended ≡ false

-- the poller of an image that begins
abbrev pub PollerOf : Fed → Polled → Type 0
PollerOf f p = p ≡ record { name = f.name; start = f.start; list = []; seen = f.start; last = false }

-- a container may be served by a poller
abbrev pub IsServable : Polled → Held → Type 0
IsServable p c = (taken_to p ≡ consumed_to c) × IsReady c

-- a job may begin
abbrev pub MayServe : Served → Type 0
MayServe s = IsServable s.poller s.container

-- its container ended in the ordinary way
abbrev pub HasEndedWell : Served → Type 0
HasEndedWell s = s.end ≡ Ended

-- a container that ended in the ordinary way is whole, and its image was at its end
abbrev pub EndsWell : Served → Type 0
EndsWell s = HasEndedWell s → (s.container.whole ≡ true) × HasEnded s.poller

-- a job ran
abbrev pub Ran : Served → Served → Type 0
Ran s t = Consumes s.container s.poller t.container t.poller × EndsWell t

-- a job of the phase that ran, with this container as it was lent
pub record RanFor (c : Held) (s : Served) : Type 0 where
  pub poller : Polled
  pub start : poller.start ≡ consumed_to c
  pub list : poller.list ≡ []
  pub consumes : Consumes c poller s.container s.poller
  pub end : EndsWell s

-- the feed's image is the job's
abbrev pub OneImage : Fed → Served → Type 0
OneImage f s = s.poller.name ≡ f.name

-- an image may be closed
abbrev pub MayClose : Fed → Served → Type 0
MayClose f s = (f.name ≡ s.poller.name) × (f.ended ≡ true)

-- what closing an image told
pub record Closed (f : Fed) (s : Served) : Type 0 where
  pub taken : IsPrefix s.poller.list f.list
  pub within : taken_to s.poller ≤ f.commit
  pub whole : HasEnded s.poller → taken_to s.poller ≡ f.commit

-- what the service consumed is the log's from its base on, within the commit
pub record IsWithin (log : List Entry) (commit : ℕ) (c : Held) : Type 0 where
  pub inputs : c.inputs ≡ take (length c.inputs) (drop c.base log)
  pub due : consumed_to c ≤ commit

-- what the service consumed is all of the log from its base up to the commit
pub record HasAll (log : List Entry) (commit : ℕ) (c : Held) : Type 0 where
  pub within : IsWithin log commit c
  pub all : consumed_to c ≡ commit
  pub whole : c.whole ≡ true

-- a phase of this member began
pub record Began (a b : Lending) (feeds : List Fed) (jobs : List Served) : Type 0 where
  pub lending : b ≡ record { kept = []; lent = a.kept; begun = feeds }
  pub begins : Each2 BeginsAt a.kept feeds
  pub pollers : Each2 (λ f s. PollerOf f s.poller) feeds jobs
  pub containers : Each2 (λ c s. s.container ≡ c) a.kept jobs
