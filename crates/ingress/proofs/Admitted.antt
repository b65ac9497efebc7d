-- What is appended may follow the log, and has room.
use Rattle.std.proofs.Common.{◌≡◌, ℕ, ◌-◌, ◌≤◌, ◌<◌, ℤ, pos, Bool, true, false, not, leb, ltb, List, ◌++◌, length, Option, Some, None, IsSome, is_none, refl, arith}
use Rattle.std.proofs.lemmas.Bool.Decides.{nat_tests}
use Rattle.sbe_client.specs.declared.ingress.Ingress.{Ingress}
use Rattle.sbe_client.specs.declared.ingress.Ingress.TheVariants as ingress
use Rattle.sbe_events.specs.Spelling.{term_of}
use Rattle.sbe_events.specs.declared.event.Event.{Event}
use Rattle.sbe_events.specs.declared.event.Event.TheVariants as event
use Rattle.session_manager.specs.declared.session.Session.{Session}
use Rattle.session_manager.specs.Sessions.{session_of}
use Rattle.ingress.specs.declared.outcome.Outcome.{Outcome}
use Rattle.ingress.specs.declared.decision.Decided.{Decided}
use Rattle.ingress.specs.declared.decision.Decided.TheVariants as decisions
use Rattle.ingress.specs.declared.view.View.{View}
use Rattle.ingress.specs.Outcomes.{first_row, leading_rows, action_rows, room_rows}
use Rattle.ingress.specs.Decisions.{unless, end_of, rows_before, passed_on, admitted, decided, decided_action, MayFollow, IsAdmitted, Admits}
use Rattle.ingress.proofs.Rows.{none_applies, leads, short}

unless_admits : (v : View) (actions now : ℕ) (o : Option Outcome) (d : Decided) → (o ≡ None → Admits v actions now d) → Admits v actions now (unless o d)
unless_admits v actions now None d h = h refl
unless_admits v actions now (Some x) d h = tt

there : (o : Option Session) → is_none o ≡ false → IsSome o
there None e = absurd cc
there (Some s) e = refl

few : (n limit : ℕ) → leb limit n ≡ false → n < limit
few n limit e = grind (arith, nat_tests)

admits_event : (v : View) (actions now : ℕ) (e : Event) → v.ready ≡ true → term_of e ≡ v.term → MayFollow v actions now e → Admits v actions now (admitted v e)
admits_event v actions now e lead term row =
    unless_admits v actions now (first_row (room_rows v (end_of v e))) (decisions.Append e) (λ none.
    let free = none_applies (room_rows v (end_of v e)) none in
    record { leads = lead; term = term; row = row; place = short (end_of v e) 16777216 free.1.0; window = short (end_of v e - v.commit_place) 32768 free.0 })

pub admits : (v : View) (actions now : ℕ) (m : Ingress) → Admits v actions now (decided v now m)
admits v actions now (ingress.Connect corr stream channel) =
    unless_admits v actions now (first_row (rows_before v (ingress.Connect corr stream channel))) (passed_on v now (ingress.Connect corr stream channel)) (λ none.
    let free = none_applies (rows_before v (ingress.Connect corr stream channel)) none in
    admits_event v actions now (event.Opened v.term corr v.sessions.now.table.next_id (pos now) stream channel) (leads v.ready free.0) refl (refl, few (length v.sessions.now.table.listed) 1024 free.1.1.0, refl))
admits v actions now (ingress.Message term session payload) =
    unless_admits v actions now (first_row (rows_before v (ingress.Message term session payload))) (passed_on v now (ingress.Message term session payload)) (λ none.
    let free = none_applies (rows_before v (ingress.Message term session payload)) none in
    admits_event v actions now (event.Message v.term session (pos now) payload) (leads v.ready free.0) refl (there (session_of v.sessions.now.table session) free.1.1.0, refl))
admits v actions now (ingress.Close term session) =
    unless_admits v actions now (first_row (rows_before v (ingress.Close term session))) (passed_on v now (ingress.Close term session)) (λ none.
    let free = none_applies (rows_before v (ingress.Close term session)) none in
    admits_event v actions now (event.Closed v.term session (pos now) 0) (leads v.ready free.0) refl (refl, there (session_of v.sessions.now.table session) free.1.1.0, refl))
admits v actions now (ingress.KeepAlive term session) =
    unless_admits v actions now (first_row (rows_before v (ingress.KeepAlive term session))) (decisions.Alive session) (λ none.
    let free = none_applies (rows_before v (ingress.KeepAlive term session)) none in
    (leads v.ready free.0, there (session_of v.sessions.now.table session) free.1.1.0))

pub action_admits : (v : View) (actions now : ℕ) → Admits v actions now (decided_action v actions now)
action_admits v actions now =
    unless_admits v actions now (first_row (leading_rows v ++ action_rows actions)) (admitted v (event.Snapshot v.term (pos v.place) (pos now))) (λ none.
    let free = none_applies (leading_rows v ++ action_rows actions) none in
    admits_event v actions now (event.Snapshot v.term (pos v.place) (pos now)) (leads v.ready free.0) refl (refl, few actions 256 free.1.0, refl))
