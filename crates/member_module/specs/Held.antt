-- The module's state on one member, as contracts see it.
use Rattle.std.specs.Prelude.{◌≡◌, ℕ, ℤ, if◌then◌else◌, List, [], ◌∷◌, ◌++◌, Option, Some, None, IfSome}
use Rattle.std.specs.Ordering.{int_eq}
use Rattle.cl_base.specs.declared.entry.Entry.{Entry}
use Rattle.sbe_events.specs.declared.event.Event.{Event}
use Rattle.sbe_events.specs.Spelling.{HasSpelling}
use Rattle.module_state.specs.Module.{Module, module_after, tentative}
use Rattle.member_module.specs.Ahead.{Ahead}

-- the module after what it consumed, how many entries these were, the entries past them, the event that comes next where there is one, the module at the log's end where it was brought up, each session's last keep-alive of the reign, and when the reign began
pub record Held : Type 0 where
  pub state : Module
  pub consumed : ℕ
  pub ahead : Ahead
  pub coming : Option Event
  pub latest : Option Module
  pub alive : List (ℤ × ℕ)
  pub since : ℕ

-- the module at the log's end, but for what the services ask at the entries ahead
abbrev pub at_end : Held → Module
at_end m = tentative m.state m.ahead.events

-- the events ahead, with the one that comes
abbrev pub with_coming : Option Event → List Event → List Event
with_coming None es = es
with_coming (Some e) es = es ++ e ∷ []

-- what was brought up is the module after the events ahead and the one that comes
abbrev pub IsBroughtUp : Held → Type 0
IsBroughtUp m = IfSome m.latest (λ t. t ≡ tentative m.state (with_coming m.coming m.ahead.events))

-- the event that comes has a spelling
abbrev pub ComesSpelled : Held → Type 0
ComesSpelled m = IfSome m.coming HasSpelling

-- the module after one more event, where it was brought up
abbrev pub brought_past : Event → Option Module → Option Module
brought_past e None = None
brought_past e (Some t) = Some (module_after t e)

-- the state that was brought up, else the one after what was consumed
abbrev pub latest_of : Option Module → Module → Module
latest_of None m = m
latest_of (Some t) m = t

-- these entries are ahead, with these events
pub record Holds (m : Held) (xs : List Entry) (es : List Event) : Type 0 where
  pub entries : m.ahead.entries ≡ xs
  pub events : m.ahead.events ≡ es

-- each session's last keep-alive after one of this session at this moment (ms)
abbrev pub heard : ℤ → ℕ → List (ℤ × ℕ) → List (ℤ × ℕ)
heard session now [] = (session, now) ∷ []
heard session now (a ∷ rest) = if int_eq a.0 session then (session, now) ∷ rest else a ∷ heard session now rest
