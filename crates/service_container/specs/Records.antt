-- The records that a service leaves at the snapshot actions that it consumes.
use Rattle.std.specs.Prelude.{ℕ, ◌+◌, ◌==◌, if◌then◌else◌, List, [], ◌∷◌, ◌++◌, Option, Some, None}
use Rattle.cl_base.specs.declared.entry.Entry.{Entry}
use Rattle.sbe_events.specs.declared.event.Event.{Event}
use Rattle.sbe_events.specs.declared.event.Event.TheVariants.{Term, Opened, Message, ServiceMessage, Timer, Closed, Snapshot}
use Rattle.sbe_events.specs.Spelling.{event_of}
use Rattle.service_api.specs.declared.shipped.Shipped.{Shipped}
use Rattle.service_api.specs.Shipped.{spelled_of}
use Rattle.service_api.specs.Service.{at_entry}

-- what an event at an index leaves: the records of the state after it, where it is a snapshot action
abbrev pub left_by : ℕ → Option Event → Shipped → List (ℕ × List ℕ)
left_by i (Some (Snapshot term position stamp)) s = (i, spelled_of s) ∷ []
left_by i (Some (Term term position stamp base leader)) s = []
left_by i (Some (Opened term corr session stamp stream channel)) s = []
left_by i (Some (Message term session stamp payload)) s = []
left_by i (Some (ServiceMessage term service number stamp payload)) s = []
left_by i (Some (Timer term corr stamp)) s = []
left_by i (Some (Closed term session stamp reason)) s = []
left_by i None s = []

-- what the entry at an index leaves, with the state after it
abbrev pub left_at : ℕ → Entry → Shipped → List (ℕ × List ℕ)
left_at i x s = left_by i (event_of x.bytes) s

-- what the entries from an index on leave, in order
abbrev pub records_from : Shipped → ℕ → List Entry → List (ℕ × List ℕ)
records_from s i [] = []
records_from s i (x ∷ xs) = left_at i x (at_entry s i x).0 ++ records_from (at_entry s i x).0 (i + 1) xs

-- the first records of a list that stand with an index
abbrev pub found_at : ℕ → List (ℕ × List ℕ) → Option (List ℕ)
found_at i [] = None
found_at i (r ∷ rs) = if r.0 == i then Some r.1 else found_at i rs
