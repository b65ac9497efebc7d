-- What is appended can be written.
use Rattle.std.proofs.Common.{◌≡◌, ℕ, ◌≤◌, ◌^◌, ℤ, pos, ◌≤ℤ◌, Bool, true, false, cond, not, ltb, List, [], ◌∷◌, ◌++◌, length, Option, Some, None, FitsSigned, w64, refl, sym, ap, ◌∙◌, arith, is_none}
use Rattle.std.specs.Prelude.{find}
use Rattle.std.specs.List.{AllByRecursion}
use Rattle.std.proofs.lemmas.Int.{ints}
use Rattle.std.proofs.lemmas.Bool.Decides.{Decides-int_eq, nat_tests}
use Rattle.wire_prims.specs.StrictLaws.{Between}
use Rattle.sbe_client.specs.Spelling.{IngressFits}
use Rattle.sbe_client.specs.declared.ingress.Ingress.{Ingress}
use Rattle.sbe_client.specs.declared.ingress.Ingress.TheVariants as ingress
use Rattle.sbe_events.specs.Spelling.{HasSpelling, IsNumber, IsClient}
use Rattle.sbe_events.specs.declared.event.Event.{Event}
use Rattle.sbe_events.specs.declared.event.Event.TheVariants as event
use Rattle.session_manager.specs.declared.session.Session.{Session}
use Rattle.session_manager.specs.Sessions.{session_of, is_of}
use Rattle.ingress.specs.declared.outcome.Outcome.{Outcome}
use Rattle.ingress.specs.declared.decision.Decided.{Decided}
use Rattle.ingress.specs.declared.decision.Decided.TheVariants as decisions
use Rattle.ingress.specs.declared.view.View.{View}
use Rattle.ingress.specs.Outcomes.{Rows, first_row, leading_rows, action_rows, room_rows}
use Rattle.ingress.proofs.Rows.{none_applies, leads, short}
use Rattle.ingress.specs.Decisions.{IsSeen, IdsAreNamed, IsSpelled, unless, end_of, rows_before, passed_on, admitted, decided, decided_action}

-- what passes every row can be written
unless_spelled : (o : Option Outcome) (d : Decided) → (o ≡ None → IsSpelled d) → IsSpelled (unless o d)
unless_spelled None d h = h refl
unless_spelled (Some x) d h = tt

admitted_spelled : (v : View) (e : Event) → HasSpelling e → IsSpelled (admitted v e)
admitted_spelled v e h = unless_spelled (first_row (room_rows v (end_of v e))) (decisions.Append e) (λ none. h)

stamp_number : (now : ℕ) → now ≤ 2 ^ 60 → IsNumber (pos now)
stamp_number now h = (omega (arith, ints), omega (arith, ints))

-- a session that is found has an id that can be written
found_client : (id : ℤ) (l : List Session) → FitsSigned w64 id → AllByRecursion (λ (s : Session). pos 1 ≤ℤ s.id) l → is_none (find (is_of id) l) ≡ false → IsClient id
found_client id [] f h e = absurd cc
found_client id (s ∷ l) f h e = at (is_of id s) refl (found_client id l f h.1)
  where
    at : (b : Bool) → is_of id s ≡ b → (is_none (find (is_of id) l) ≡ false → IsClient id) → IsClient id
    at true same later = let here : s.id ≡ id = (Decides-int_eq s.id id).0 same in let least : pos 1 ≤ℤ s.id = h.0 in (omega (arith, ints), omega (arith, ints))
    at false other later = later (sym (ap (λ b. is_none (cond b (Some s) (find (is_of id) l))) other) ∙ e)

named_client : (v : View) (session : ℤ) → FitsSigned w64 session → IdsAreNamed v.sessions.now.table → is_none (session_of v.sessions.now.table session) ≡ false → IsClient session
named_client v session f ids e = found_client session v.sessions.now.table.listed f ids.each e

next_client : (z : ℤ) → Between (pos 1) (pos (2 ^ 62)) z → IsClient z
next_client z b = let low = b.0 in let high = b.1 in (omega (arith, ints), omega (arith, ints))

pub spelled : (v : View) (now : ℕ) (m : Ingress) → IsSeen v → now ≤ 2 ^ 60 → IngressFits m → IdsAreNamed v.sessions.now.table → IsSpelled (decided v now m)
spelled v now (ingress.Connect corr stream channel) seen moment fits ids =
    unless_spelled (first_row (rows_before v (ingress.Connect corr stream channel))) (passed_on v now (ingress.Connect corr stream channel)) (λ none.
    let free = none_applies (rows_before v (ingress.Connect corr stream channel)) none in
    admitted_spelled v (event.Opened v.term corr v.sessions.now.table.next_id (pos now) stream channel) (seen.term (leads v.ready free.0), fits.0, next_client _ ids.next, stamp_number now moment, fits.1, short (length channel) 1024 free.1.0))
spelled v now (ingress.Message term session payload) seen moment fits ids =
    unless_spelled (first_row (rows_before v (ingress.Message term session payload))) (passed_on v now (ingress.Message term session payload)) (λ none.
    let free = none_applies (rows_before v (ingress.Message term session payload)) none in
    admitted_spelled v (event.Message v.term session (pos now) payload) (seen.term (leads v.ready free.0), named_client v session fits.1 ids free.1.1.0, stamp_number now moment, short (length payload) 16384 free.1.1.1.0))
spelled v now (ingress.Close term session) seen moment fits ids =
    unless_spelled (first_row (rows_before v (ingress.Close term session))) (passed_on v now (ingress.Close term session)) (λ none.
    let free = none_applies (rows_before v (ingress.Close term session)) none in
    admitted_spelled v (event.Closed v.term session (pos now) 0) (seen.term (leads v.ready free.0), named_client v session fits.1 ids free.1.1.0, stamp_number now moment, omega arith))
spelled v now (ingress.KeepAlive term session) seen moment fits ids = unless_spelled (first_row (rows_before v (ingress.KeepAlive term session))) (decisions.Alive session) (λ none. tt)

pub action_spelled : (v : View) (actions now : ℕ) → IsSeen v → now ≤ 2 ^ 60 → IsSpelled (decided_action v actions now)
action_spelled v actions now seen moment =
    unless_spelled (first_row (leading_rows v ++ action_rows actions)) (admitted v (event.Snapshot v.term (pos v.place) (pos now))) (λ none.
    let free = none_applies (leading_rows v ++ action_rows actions) none in
    let place = seen.place in
    admitted_spelled v (event.Snapshot v.term (pos v.place) (pos now)) (seen.term (leads v.ready free.0), (omega (arith, ints), omega (arith, ints)), stamp_number now moment))
