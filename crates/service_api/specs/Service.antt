-- A service over a log: its state and its outputs are those of its events, one after the other. An entry whose bytes are no event leaves the state as it is, and gives nothing.
use Rattle.std.specs.Prelude.{ℕ, ◌+◌, zero, suc, List, [], ◌∷◌, ◌++◌, map, Option, Some, None}
use Rattle.cl_base.specs.declared.entry.Entry.{Entry}
use Rattle.sbe_events.specs.declared.event.Event.{Event}
use Rattle.sbe_events.specs.Spelling.{event_of}
use Rattle.service_api.specs.declared.output.Output.{Output}
use Rattle.service_api.specs.declared.shipped.Kind.{Kind}
use Rattle.service_api.specs.declared.shipped.Shipped.{Shipped}
use Rattle.service_api.specs.Shipped.{first_of, applied_of}

-- the state after the event at an index, if there is one, and what comes out
abbrev pub at_event : Shipped → ℕ → Option Event → Shipped × List Output
at_event s i (Some e) = applied_of s i e
at_event s i None = (s, [])

-- the state after the entry at an index, and what comes out
abbrev pub at_entry : Shipped → ℕ → Entry → Shipped × List Output
at_entry s i x = at_event s i (event_of x.bytes)

-- the state after the entries from an index on
abbrev pub state_from : Shipped → ℕ → List Entry → Shipped
state_from s i [] = s
state_from s i (x ∷ xs) = state_from (at_entry s i x).0 (i + 1) xs

-- outputs, each with the index of its entry
abbrev pub numbered : ℕ → List Output → List (ℕ × Output)
numbered i outputs = map (λ o. (i, o)) outputs

-- what comes out of the entries from an index on, in order
abbrev pub outbox_from : Shipped → ℕ → List Entry → List (ℕ × Output)
outbox_from s i [] = []
outbox_from s i (x ∷ xs) = numbered i (at_entry s i x).1 ++ outbox_from (at_entry s i x).0 (i + 1) xs

-- what comes out of the k-th of the entries from an index on
abbrev pub outputs_from : Shipped → ℕ → List Entry → ℕ → List Output
outputs_from s i [] k = []
outputs_from s i (x ∷ xs) zero = (at_entry s i x).1
outputs_from s i (x ∷ xs) (suc k) = outputs_from (at_entry s i x).0 (i + 1) xs k

-- the state of a service over a log
abbrev pub state_of : Kind → List Entry → Shipped
state_of kind log = state_from (first_of kind) 0 log

-- its outputs at an entry of the log
abbrev pub outputs_of : Kind → List Entry → ℕ → List Output
outputs_of kind log i = outputs_from (first_of kind) 0 log i
