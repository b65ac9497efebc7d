-- The feeds of a phase, against a log and its commit.
use Rattle.std.specs.Prelude.{◌≡◌, ℕ, ◌+◌, ◌-◌, ◌≤◌, true, false, ◌⊎◌, List, ◌++◌, length, take, drop, min, max}
use Rattle.cl_base.specs.declared.entry.Entry.{Entry}
use Rattle.commit_counter.specs.Ends.{Fed, fed_to}

-- these entries stand in the log from an index on
pub record IsStretch (log : List Entry) (first : ℕ) (entries : List Entry) : Type 0 where
  pub list : entries ≡ take (length entries) (drop first log)
  pub reach : first + length entries ≤ length log

-- it is a later stand of the same image
pub record SameImage (b f : Fed) : Type 0 where
  pub name : f.name ≡ b.name
  pub start : f.start ≡ b.start
  pub role : f.role ≡ b.role

-- what it was fed is the log from its start on, as far as it goes, and what it published is within the commit
pub record FeedsFrom (log : List Entry) (commit : ℕ) (b f : Fed) : Type 0 where
  pub image : SameImage b f
  pub running : f.ended ≡ false
  pub list : f.list ≡ take (length f.list) (drop b.start log)
  pub reach : fed_to f ≤ length log
  pub begun : b.start ≤ f.commit
  pub pushed : f.commit ≤ fed_to f
  pub due : f.commit ≤ commit

-- what it published is the log's: what is left of a feed's facts after the log was cut
pub record FeedHolds (log : List Entry) (commit : ℕ) (b f : Fed) : Type 0 where
  pub image : SameImage b f
  pub list : take (f.commit - b.start) f.list ≡ take (f.commit - b.start) (drop b.start log)
  pub begun : b.start ≤ f.commit
  pub pushed : f.commit ≤ fed_to f
  pub due : f.commit ≤ commit

-- the same, and the end was published
abbrev pub FeedEnds : List Entry → ℕ → Fed → Fed → Type 0
FeedEnds log commit b f = FeedHolds log commit b f × (f.ended ≡ true)

-- the feed took a part of these entries, which begins with what it wanted next
pub record TakesMore (first : ℕ) (entries : List Entry) (f g : Fed) : Type 0 where
  pub feed : g ≡ record f { list = g.list }
  pub list : g.list ≡ f.list ++ take (length g.list - length f.list) (drop (fed_to f - first) entries)
  pub longer : length f.list ≤ length g.list
  pub within : length f.list ≡ length g.list ⊎ fed_to g ≤ first + length entries

-- the lesser of the commit and of what was fed is published
abbrev pub Publishes : ℕ → Fed → Fed → Type 0
Publishes commit f g = g ≡ record f { commit = max f.commit (min (fed_to f) commit) }

-- a feed that runs, from an index on: it published no more than the commit, and no more than it was fed
pub record IsFed (first commit : ℕ) (f : Fed) : Type 0 where
  pub start : first ≤ f.start
  pub running : f.ended ≡ false
  pub pushed : f.commit ≤ fed_to f
  pub due : f.commit ≤ commit

-- the same feed, fed and published on
pub record FedOn (commit : ℕ) (f g : Fed) : Type 0 where
  pub feed : g ≡ record f { list = g.list; commit = g.commit }
  pub pushed : g.commit ≤ fed_to g
  pub due : g.commit ≤ commit
  pub rises : f.commit ≤ g.commit

-- what it was fed is published, as far as it is committed
abbrev pub IsPublished : ℕ → Fed → Type 0
IsPublished commit f = min (fed_to f) commit ≤ f.commit

-- the end may be published
abbrev pub MayFinish : Fed → Type 0
MayFinish f = (f.ended ≡ false) × (f.commit ≤ fed_to f)

-- the end is published
abbrev pub Finishes : Fed → Fed → Type 0
Finishes f g = g ≡ record f { ended = true }

-- it was looked how far the service has taken
abbrev pub Looked : Fed → Fed → Type 0
Looked f g = g ≡ record f { found = g.found }

-- it is fed on and then finished
abbrev pub FedToEnd : ℕ → Fed → Fed → Type 0
FedToEnd commit f g = (m : Fed) × FedOn commit f m × Finishes m g

-- the commit is published
abbrev pub HasCommit : ℕ → Fed → Type 0
HasCommit commit f = f.commit ≡ commit
