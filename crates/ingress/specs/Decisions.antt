-- What is done with what a client sends, and with an operator's action: the first row that applies, or the event.
use Rattle.std.specs.Prelude.{◌≡◌, ℕ, ◌-◌, ◌≤◌, ◌<◌, ◌^◌, pos, ◌≤ℤ◌, true, ◌++◌, length, Option, Some, None, IsSome, ⊤}
use Rattle.std.specs.List.{AllByRecursion}
use Rattle.wire_prims.specs.StrictLaws.{Between}
use Rattle.entry_log.specs.Log.{end_after}
use Rattle.sbe_client.specs.declared.ingress.Ingress.{Ingress}
use Rattle.sbe_client.specs.declared.ingress.Ingress.TheVariants as ingress
use Rattle.sbe_events.specs.Spelling.{HasSpelling, spelling_of, term_of}
use Rattle.sbe_events.specs.declared.event.Event.{Event}
use Rattle.sbe_events.specs.declared.event.Event.TheVariants as event
use Rattle.session_manager.specs.declared.session.Session.{Session}
use Rattle.session_manager.specs.Sessions.{SessionTable, session_of}
use Rattle.ingress.specs.declared.outcome.Outcome.{Outcome}
use Rattle.ingress.specs.declared.decision.Decided.{Decided}
use Rattle.ingress.specs.declared.decision.Decided.TheVariants as decisions
use Rattle.ingress.specs.declared.view.View.{View}
use Rattle.ingress.specs.Outcomes.{Rows, first_row, leading_rows, naming_rows, size_rows, open_rows, action_rows, room_rows}

-- what a member's view is: the commit isn't past the log's end, and a leader's term is a number of the log
pub record IsSeen (v : View) : Type 0 where
  pub commit : v.commit_place ≤ v.place
  pub place : v.place ≤ 2 ^ 62
  pub term : v.ready ≡ true → Between (pos 0) (pos (2 ^ 62)) v.term

-- refused by a row, or what else is done
abbrev pub unless : Option Outcome → Decided → Decided
unless (Some o) d = decisions.Refuse o
unless None d = d

-- where an event would end
abbrev pub end_of : View → Event → ℕ
end_of v e = end_after v.place (length (spelling_of e))

-- an event is appended where it has room
abbrev pub admitted : View → Event → Decided
admitted v e = unless (first_row (room_rows v (end_of v e))) (decisions.Append e)

-- the rows before the room that an entry needs
abbrev pub rows_before : View → Ingress → Rows
rows_before v (ingress.Connect corr stream channel) = leading_rows v ++ size_rows (length channel) 1024 ++ open_rows v
rows_before v (ingress.Message term session payload) = leading_rows v ++ naming_rows v term session ++ size_rows (length payload) 16384
rows_before v (ingress.Close term session) = leading_rows v ++ naming_rows v term session
rows_before v (ingress.KeepAlive term session) = leading_rows v ++ naming_rows v term session

-- what passed them
abbrev pub passed_on : View → ℕ → Ingress → Decided
passed_on v now (ingress.Connect corr stream channel) = admitted v (event.Opened v.term corr v.sessions.now.table.next_id (pos now) stream channel)
passed_on v now (ingress.Message term session payload) = admitted v (event.Message v.term session (pos now) payload)
passed_on v now (ingress.Close term session) = admitted v (event.Closed v.term session (pos now) 0)
passed_on v now (ingress.KeepAlive term session) = decisions.Alive session

-- what is done with a message of a client
abbrev pub decided : View → ℕ → Ingress → Decided
decided v now m = unless (first_row (rows_before v m)) (passed_on v now m)

-- what is done with a snapshot action, so many being in the log
abbrev pub decided_action : View → ℕ → ℕ → Decided
decided_action v actions now =
    unless (first_row (leading_rows v ++ action_rows actions)) (admitted v (event.Snapshot v.term (pos v.place) (pos now)))

-- ids are at least 1, and the next is in its range
pub record IdsAreNamed (m : SessionTable) : Type 0 where
  pub next : Between (pos 1) (pos (2 ^ 62)) m.next_id
  pub each : AllByRecursion (λ (s : Session). pos 1 ≤ℤ s.id) m.listed

-- what is appended can be written
abbrev pub IsSpelled : Decided → Type 0
IsSpelled (decisions.Refuse o) = ⊤
IsSpelled (decisions.Alive session) = ⊤
IsSpelled (decisions.Append e) = HasSpelling e

-- Of what may follow a log, so many snapshot actions being in it: an open takes the next id, fewer than 1,024 sessions
-- being open; a message and a close by its client are of an open session; a snapshot action names the log's place, fewer
-- than 256 being there. Each has the time as its stamp.
abbrev pub MayFollow : View → ℕ → ℕ → Event → Type 0
MayFollow v actions now (event.Opened term corr session stamp stream channel) = (session ≡ v.sessions.now.table.next_id) × (length v.sessions.now.table.listed < 1024) × (stamp ≡ pos now)
MayFollow v actions now (event.Message term session stamp payload) = IsSome (session_of v.sessions.now.table session) × (stamp ≡ pos now)
MayFollow v actions now (event.Closed term session stamp reason) = (reason ≡ 0) × IsSome (session_of v.sessions.now.table session) × (stamp ≡ pos now)
MayFollow v actions now (event.Snapshot term position stamp) = (position ≡ pos v.place) × (actions < 256) × (stamp ≡ pos now)
MayFollow v actions now (event.Term term position stamp base leader) = ⊥
MayFollow v actions now (event.ServiceMessage term service number stamp payload) = ⊥
MayFollow v actions now (event.Timer term corr stamp) = ⊥

-- what a leader appends: an event of its term that may follow, with room in the log and in the window
pub record IsAdmitted (v : View) (actions now : ℕ) (e : Event) : Type 0 where
  pub leads : v.ready ≡ true
  pub term : term_of e ≡ v.term
  pub row : MayFollow v actions now e
  pub place : end_of v e ≤ 16777216
  pub window : end_of v e - v.commit_place ≤ 32768

abbrev pub Admits : View → ℕ → ℕ → Decided → Type 0
Admits v actions now (decisions.Refuse o) = ⊤
Admits v actions now (decisions.Alive session) = (v.ready ≡ true) × IsSome (session_of v.sessions.now.table session)
Admits v actions now (decisions.Append e) = IsAdmitted v actions now e
