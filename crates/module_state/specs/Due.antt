-- The entries that are due.
use Rattle.std.specs.Prelude.{ℕ, suc, ◌+◌, ℤ, pos, nat_le, Bool, false, ◌&&◌, ◌==◌, if◌then◌else◌, List, [], ◌∷◌, ◌++◌, filter, Option, Some, None}
use Rattle.std.specs.Ordering.{int_eq}
use Rattle.sbe_events.specs.declared.event.Event.{Event}
use Rattle.sbe_events.specs.declared.event.Event.TheVariants as events
use Rattle.session_manager.specs.declared.session.Session.{Session}
use Rattle.session_manager.specs.Sessions.{SessionTable, session_of, is_idle}
use Rattle.timer_service.specs.Timers.{TimerTable, timers_due}
use Rattle.pending_messages.specs.Pending.{PendingTable}
use Rattle.module_state.specs.Module.{Module}
use Rattle.module_state.specs.Allowed.{rings}

-- the last keep-alive of a session, 0 where there was none
abbrev pub alive_at : ℤ → List (ℤ × ℕ) → ℕ
alive_at id [] = 0
alive_at id (a ∷ rest) = if int_eq a.0 id then a.1 else alive_at id rest

-- nothing was heard of the session for 10,000 ms: it is idle, and there was no keep-alive
abbrev pub is_silent : List (ℤ × ℕ) → ℕ → ℕ → Session → Bool
is_silent alive since now s = is_idle now since s && nat_le (alive_at s.id alive + 10000) now

abbrev pub is_marked : Option Session → Bool
is_marked None = false
is_marked (Some s) = s.closing

abbrev pub close_of : ℤ → ℕ → ℤ → ℕ → List Event
close_of term now id reason = events.Closed term id (pos now) reason ∷ []

-- the close of an open session: a marked one by its service, a silent one for its silence
abbrev pub close_due : SessionTable → List (ℤ × ℕ) → ℤ → ℕ → ℕ → Session → List Event
close_due consumed alive term now since s =
    if is_marked (session_of consumed s.id) then close_of term now s.id 1
    else (if is_silent alive since now s then close_of term now s.id 2 else [])

-- the same of a session that is there
abbrev pub close_due_to : SessionTable → List (ℤ × ℕ) → ℤ → ℕ → ℕ → Option Session → List Event
close_due_to consumed alive term now since None = []
close_due_to consumed alive term now since (Some s) = close_due consumed alive term now since s

abbrev pub closes_due : SessionTable → List (ℤ × ℕ) → ℤ → ℕ → ℕ → List Session → List Event
closes_due consumed alive term now since [] = []
closes_due consumed alive term now since (s ∷ ss) = close_due consumed alive term now since s ++ closes_due consumed alive term now since ss

-- no event of a timer came
abbrev pub is_quiet : List Event → ℤ × ℤ → Bool
is_quiet ahead a = rings a.0 ahead == 0

-- the timers that are over and of which no event came since, by deadline and then by name
abbrev pub over : List Event → ℕ → TimerTable → TimerTable
over ahead now ts = filter (λ a. rings a.0 ahead == 0) (timers_due (pos now) ts)

abbrev pub rings_of : ℤ → ℕ → TimerTable → List Event
rings_of term now [] = []
rings_of term now (a ∷ rest) = events.Timer term a.0 (pos now) ∷ rings_of term now rest

-- the messages of service v that wait, the first of them with the number above n
abbrev pub messages_of : ℤ → ℕ → ℕ → ℕ → List (List ℕ) → List Event
messages_of term now v n [] = []
messages_of term now v n (p ∷ ps) = events.ServiceMessage term v (pos (n + 1)) (pos now) p ∷ messages_of term now v (n + 1) ps

-- those of all services, from service v on
abbrev pub messages_due : ℤ → ℕ → ℕ → PendingTable → List Event
messages_due term now v [] = []
messages_due term now v (o ∷ os) = messages_of term now v o.appended o.waiting ++ messages_due term now (suc v) os

-- What is due: closes by rising id, timers by deadline and name, messages by service and number.
abbrev pub due : Module → Module → List Event → List (ℤ × ℕ) → ℤ → ℕ → ℕ → List Event
due consumed tentative ahead alive term now since =
    closes_due consumed.sessions alive term now since tentative.sessions.listed
    ++ (rings_of term now (over ahead now consumed.timers) ++ messages_due term now 0 tentative.pending)
