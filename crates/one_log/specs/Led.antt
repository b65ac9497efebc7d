-- The world with its modules: what each member's module applied, and what a leader may append.
use Rattle.std.specs.Prelude.{ℕ, ◌-◌, ◌^◌, ℤ, pos, Bool, true, false, ◌&&◌, List, [], ◌∷◌, ◌++◌, length, take, drop, nat_eq, nat_le, nat_lt, is_some, if◌then◌else◌}
use Rattle.std.specs.Ordering.{int_eq}
use Rattle.entry_log.specs.Log.{Log, place}
use Rattle.sbe_events.specs.declared.event.Event.{Event}
use Rattle.sbe_events.specs.declared.event.Event.TheVariants as events
use Rattle.sbe_events.specs.Spelling.{term_of}
use Rattle.service_api.specs.declared.shipped.Kind.{Kind}
use Rattle.module_state.specs.Module.{Module, tentative}
use Rattle.session_manager.specs.Sessions.{session_of}
use Rattle.module_state.specs.Services.{module_of}
use Rattle.module_state.specs.Places.{entry_of, stamp_of}
use Rattle.module_state.specs.Logs.{due_in}
use Rattle.module_state.specs.Entries.{events_in, IsSpellable}
use Rattle.consensus_core.specs.Member.{Cut}
use Rattle.world.specs.World.{Passes, Duty, Client, member}
use Rattle.service_runs.specs.Hosts.{Rules, Hosted, Act, Rows, act, hosted}

pub record Led : Type 0 where
  pub hosted : Hosted
  pub consumed : ℕ → Log  -- the entries that each running member's module has applied, as they stood when it did

-- with the log's next entries, until there are k
abbrev pub further : Log → ℕ → Log → Log
further xs k log = xs ++ take (k - length xs) (drop (length xs) log)

-- a start's module has the entries of the set that it begins with, and goes on with its log's next ones
abbrev pub consumes : Led → Hosted → ℕ → Log
consumes w v m =
    if (member v.world m).up
    then (if (member w.hosted.world m).up then further (w.consumed m) (v.hosts m).applied (member v.world m).durable.log else take (v.hosts m).applied (member v.world m).durable.log)
    else []

abbrev pub goes_on : Rules → Led → Act → Led
goes_on r w a = record { hosted = act r w.hosted a; consumed = consumes w (act r w.hosted a) }

-- the events of the log past those that the module applied
abbrev pub ahead_of : Led → ℕ → List Event
ahead_of w m = events_in (drop (length (w.consumed m)) (member w.hosted.world m).durable.log)

-- what is due at this moment, over the applied state and the tentative log; the keep-alives and the beginning of the reign are any
abbrev pub due_at : List Kind → Led → ℕ → List (ℤ × ℕ) → ℕ → List Event
due_at kinds w m alive since = due_in kinds (events_in (w.consumed m)) (ahead_of w m) alive (member w.hosted.world m).values.election.term w.hosted.world.now since

-- the tentative state
abbrev pub view_at : List Kind → Led → ℕ → Module
view_at kinds w m = tentative (module_of kinds (events_in (w.consumed m))) (ahead_of w m)

abbrev pub has_room : Log → Log → Bool
has_room log es = nat_le (place (log ++ es)) 16777216

-- what decide and action let pass: an open with the next id, a message and a close with reason 0 of an open session, and a snapshot action at the log's place
abbrev pub admits : Module → ℕ → Event → Bool
admits view at (events.Opened term corr session stamp stream channel) = int_eq session view.sessions.next_id && nat_lt (length view.sessions.listed) 1024
admits view at (events.Message term session stamp payload) = is_some (session_of view.sessions session)
admits view at (events.Closed term session stamp reason) = nat_eq reason 0 && is_some (session_of view.sessions session)
admits view at (events.Snapshot term position stamp) = int_eq position (pos at) && nat_lt view.counts.actions 256
admits view at _ = false

-- of the leader's term, stamped now, admitted over its tentative state, and there is room
abbrev pub is_asked : List Kind → Led → ℕ → Event → Bool
is_asked kinds w m e =
    int_eq (stamp_of e) (pos w.hosted.world.now)
    && (int_eq (term_of e) (member w.hosted.world m).values.election.term
    && (admits (view_at kinds w m) (place (member w.hosted.world m).durable.log) e
    && has_room (member w.hosted.world m).durable.log (entry_of e ∷ [])))

pub data Turn : Type 0 where
  Acts : (act : Act) → Turn  -- an act that brings no entries of its own
  Leads : (member : ℕ) → (alive : List (ℤ × ℕ)) → (since : ℕ) → Cut → Turn  -- a duty, with what is due
  Asks : (member : ℕ) → (event : Event) → IsSpellable event → Cut → Turn  -- a client's event, or an operator's

-- no duty and no client's event; time rises to at most 2^60
abbrev pub is_bare : Act → Bool
is_bare (Rows (Duty m due cut)) = false
is_bare (Rows (Client m event cut)) = false
is_bare (Rows (Passes now)) = nat_le now (2 ^ 60)
is_bare _ = true

-- what isn't of this kind changes nothing
abbrev pub turn : List Kind → Rules → Led → Turn → Led
turn kinds r w (Acts a) = if is_bare a then goes_on r w a else w
turn kinds r w (Leads m alive since cut) = goes_on r w (Rows (Duty m (due_at kinds w m alive since) cut))
turn kinds r w (Asks m e fits cut) = if is_asked kinds w m e then goes_on r w (Rows (Client m e cut)) else w

abbrev pub turns : List Kind → Rules → Led → List Turn → Led
turns kinds r w [] = w
turns kinds r w (t ∷ ts) = turns kinds r (turn kinds r w t) ts

-- formatted members, stopped
abbrev pub led : ℕ → Led
led n = record { hosted = hosted n; consumed = λ m. [] }
