-- What a member decided to append is what the world lets be asked of it.
use Rattle.std.proofs.Common.{◌≡◌, ℕ, ◌<◌, ◌≤◌, pos, true, ◌&&◌, List, [], ◌∷◌, ◌++◌, length, IsSome, sym, ap, ◌∙◌, subst}
use Rattle.std.specs.Ordering.{int_eq}
use Rattle.std.proofs.lemmas.Bool.{and_from, le-leb}
use Rattle.entry_log.specs.Log.{Log, end_after, place}
use Rattle.entry_log.specs.Shape.{end_from-shape_of}
use Rattle.entry_log.specs.Places.{place_from-append}
use Rattle.sbe_events.specs.Spelling.{spelling_of, term_of}
use Rattle.sbe_events.specs.declared.event.Event.{Event}
use Rattle.sbe_events.specs.declared.event.Event.TheVariants as events
use Rattle.service_api.specs.declared.shipped.Kind.{Kind}
use Rattle.session_manager.specs.Sessions.{SessionTable, session_of}
use Rattle.session_manager.proofs.OrderLaws.{agrees}
use Rattle.module_state.specs.Admitted.{IsAdmitted as Admitted}
use Rattle.module_state.specs.Module.{Module}
use Rattle.module_state.specs.Places.{entry_of, stamp_of}
use Rattle.consensus_core.specs.declared.values.Values.{Values}
use Rattle.consensus_core.specs.Member.{is_ready}
use Rattle.ingress.specs.declared.view.View.{View}
use Rattle.ingress.specs.Decisions.{IsAdmitted, MayFollow}
use Rattle.consensus_agent.specs.Accepted.{IsView}
use Rattle.one_log.specs.Led.{admits, has_room}
use Rattle.one_log.proofs.Turns.{admits-all}
use Rattle.run_world.specs.Seat.{Seat}
use Rattle.run_world.specs.RunWorld.{may_ask, view_at}

-- what may follow over a view is admitted over the module that it shows
admitted : (w : View) (t : Module) (at now : ℕ) (e : Event) → w.sessions.now.table ≡ t.sessions → w.place ≡ at → MayFollow w t.counts.actions now e → Admitted t at e
admitted w t at now (events.Opened term corr session stamp stream channel) sessions place row =
    (row.0 ∙ ap (λ (x : SessionTable). x.next_id) sessions, subst (λ (x : SessionTable). length x.listed < 1024) sessions row.1)
admitted w t at now (events.Message term session stamp payload) sessions place row = subst (λ (x : SessionTable). IsSome (session_of x session)) sessions row.0
admitted w t at now (events.Closed term session stamp reason) sessions place row = (row.0, subst (λ (x : SessionTable). IsSome (session_of x session)) sessions row.1)
admitted w t at now (events.Snapshot term position stamp) sessions place row = (row.0 ∙ ap pos place, row.1)
admitted w t at now (events.Term term position stamp base leader) sessions place row = absurd row
admitted w t at now (events.ServiceMessage term service number stamp payload) sessions place row = absurd row
admitted w t at now (events.Timer term corr stamp) sessions place row = absurd row

-- it is stamped now
stamped : (w : View) (actions now : ℕ) (e : Event) → MayFollow w actions now e → stamp_of e ≡ pos now
stamped w actions now (events.Opened term corr session stamp stream channel) row = row.2
stamped w actions now (events.Message term session stamp payload) row = row.1
stamped w actions now (events.Closed term session stamp reason) row = row.2
stamped w actions now (events.Snapshot term position stamp) row = row.2
stamped w actions now (events.Term term position stamp base leader) row = absurd row
stamped w actions now (events.ServiceMessage term service number stamp payload) row = absurd row
stamped w actions now (events.Timer term corr stamp) row = absurd row

-- where its entry ends
pub ends : (log : Log) (e : Event) → place (log ++ entry_of e ∷ []) ≡ end_after (place log) (length (spelling_of e))
ends log e = place_from-append 0 log (entry_of e ∷ [])

pub view-place : (w : View) (v : Values) (log : Log) (t : Module) → IsView w v log t → w.place ≡ place log
view-place w v log t is = is.place ∙ end_from-shape_of 0 log

-- its entry has room in the log
pub room : (w : View) (v : Values) (log : Log) (t : Module) (actions now : ℕ) (e : Event) → IsView w v log t → IsAdmitted w actions now e → place (log ++ entry_of e ∷ []) ≤ 16777216
room w v log t actions now e is ad =
    subst (λ (p : ℕ). p ≤ 16777216) (sym (ends log e)) (subst (λ (p : ℕ). end_after p (length (spelling_of e)) ≤ 16777216) (view-place w v log t is) ad.place)

-- the member is ready to lead
pub ready : (w : View) (v : Values) (log : Log) (t : Module) (actions now : ℕ) (e : Event) → IsView w v log t → IsAdmitted w actions now e → is_ready v.election.state ≡ true
ready w v log t actions now e is ad = sym is.ready ∙ ad.leads

pub may-ask : (kinds : List Kind) (s : Seat) (now : ℕ) (w : View) (e : Event) → IsView w s.member.values s.member.durable.log (view_at kinds s) → IsAdmitted w (view_at kinds s).counts.actions now e → may_ask kinds s now e ≡ true
may-ask kinds s now w e is ad =
    let log = s.member.durable.log in
    let t = view_at kinds s in
    let term = s.member.values.election.term in
    let fits : admits t (place log) e ≡ true = admits-all t (place log) e (admitted w t (place log) now e (is.sessions ad.leads) (view-place w s.member.values log t is) ad.row) in
    let holds : has_room log (entry_of e ∷ []) ≡ true = le-leb (place (log ++ entry_of e ∷ [])) 16777216 (room w s.member.values log t t.counts.actions now e is ad) in
    and_from (int_eq (stamp_of e) (pos now)) (int_eq (term_of e) term && (admits t (place log) e && has_room log (entry_of e ∷ []))) (agrees (stamp_of e) (pos now) (stamped w t.counts.actions now e ad.row))
    (and_from (int_eq (term_of e) term) (admits t (place log) e && has_room log (entry_of e ∷ [])) (agrees (term_of e) term (ad.term ∙ is.term))
    (and_from (admits t (place log) e) (has_room log (entry_of e ∷ [])) fits holds))
