-- The entries of a log past those that the module consumed, with their events.
use Rattle.std.specs.Prelude.{◌≡◌, ℕ, List, map, Option, Some}
use Rattle.std.specs.List.{AllByRecursion}
use Rattle.cl_base.specs.declared.entry.Entry.{Entry}
use Rattle.sbe_events.specs.declared.event.Event.{Event}
use Rattle.sbe_events.specs.Spelling.{HasSpelling, event_of}

-- the entries, their events, and room for how many more
pub record Ahead : Type 0 where
  pub entries : List Entry
  pub events : List Event
  pub room : ℕ

-- the event that an entry spells
abbrev pub event_in : Entry → Option Event
event_in x = event_of x.bytes

abbrev pub some_event : Event → Option Event
some_event e = Some e

-- these are the events of these entries, one of each, and each has a spelling
pub record AreEvents (xs : List Entry) (es : List Event) : Type 0 where
  pub same : map some_event es ≡ map event_in xs
  pub spelled : AllByRecursion HasSpelling es
