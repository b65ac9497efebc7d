-- Where a log ends, and what it means to the module: the open sessions, the next session's number and the leader.
use Rattle.std.specs.Prelude.{ℕ, ℤ, pos, negsuc, ◌+ℤ◌, Bool, not, List, [], ◌∷◌, ◌++◌, filter, find, fold, length, Option}
use Rattle.entry_log.specs.Log.{same_term, end_after}
use Rattle.sbe_events.specs.Spelling.{spelling_of, term_of}
use Rattle.sbe_events.specs.declared.event.Event.{Event}
use Rattle.sbe_events.specs.declared.event.Event.TheVariants as event
use Rattle.echo_run.specs.declared.module.Session.{Session}
use Rattle.echo_run.specs.declared.module.Module.{Module}

-- the bytes of an event in the log
unfoldable pub event_len : Event → ℕ
event_len e = length (spelling_of e)

-- where events end that are written from place p
abbrev pub place_from : ℕ → List Event → ℕ
place_from p [] = p
place_from p (e ∷ es) = place_from (end_after p (event_len e)) es

abbrev pub place_of : List Event → ℕ
place_of log = place_from 0 log

-- the term of the last event, -1 where there is none
abbrev pub last_term : List Event → ℤ
last_term log = fold (λ t e. term_of e) (negsuc 0) log

abbrev pub empty : Module
empty = record { sessions = []; next_id = pos 1; leader = negsuc 0 }

abbrev pub is_session : ℤ → Session → Bool
is_session id s = same_term s.id id

abbrev pub others_than : ℤ → List Session → List Session
others_than id sessions = filter (λ s. not (is_session id s)) sessions

abbrev pub opened : Module → Session → Module
opened m s = record m { sessions = m.sessions ++ s ∷ []; next_id = m.next_id +ℤ pos 1 }

abbrev pub closed : Module → ℤ → Module
closed m id = record m { sessions = others_than id m.sessions }

-- an open opens its session, a close closes it, and a new term names its leader
abbrev pub module_after : Module → Event → Module
module_after m (event.Term term position stamp base leader) = record m { leader = leader }
module_after m (event.Opened term corr session stamp stream channel) = opened m (record { id = session; corr = corr; stream = stream })
module_after m (event.Closed term session stamp reason) = closed m session
module_after m _ = m

-- the module of a log
abbrev pub module_of : List Event → Module
module_of log = fold module_after empty log

-- the session of this number, where it is open
abbrev pub session_of : Module → ℤ → Option Session
session_of m id = find (is_session id) m.sessions
