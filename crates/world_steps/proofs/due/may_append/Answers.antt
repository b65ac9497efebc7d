use Rattle.std.proofs.Common.{◌≡◌, ◌≤◌, ◌&&◌, ℕ, Bool, [], ◌∷◌, length, sym, ap, subst, ◌∙◌}
use Rattle.std.specs.Prelude.{nat_le}
use Rattle.cl_base.specs.declared.entry.Entry.{Entry}
use Rattle.sbe_events.specs.Laws.{encoded}
use Rattle.sbe_events.specs.Spelling.{spelling_of}
use Rattle.entry_log.specs.Log.{end_after, place}
use Rattle.module_state.specs.Entries.{events_in}
use Rattle.module_state.specs.Module.{first_module, tentative}
use Rattle.module_state.specs.Places.{entry_of}
use Rattle.consensus_core.proofs.Measured.{event_short}
use Rattle.one_log.specs.Led.{admits, has_room}
use Rattle.world_steps.proofs.Logs.{place_with}
use Rattle.world_steps.proofs.due.may_append.Goals as goal
use Rattle.world_steps.proofs.due.may_append.Goals.{then-admitted, else-admitted}

pub has_room-requires-clause-len : goal.has_room-requires-clause-len
has_room-requires-clause-len c =
    let e = c.args.event.now in
    subst (λ (x : Entry). length x.bytes ≤ 32768) (sym c.in_ok-entry.ensures) (event_short (spelling_of e) e (encoded e c.requires.event))

pub returns : goal.returns
returns c =
    let e = c.args.event.now in
    let log = c.args.log.now in
    let state = tentative (first_module c.args.services) (events_in log) in
    let view : c.in_ok-view.view ≡ state = c.in_ok-view.ensures ∙ (λ i. tentative (c.in_ok-fresh.ensures i) ((c.as_slice.ensures.value ∙ c.in_ok-events.ensures.events) i)) in
    let admitted : c.admits-admitted.result ≡ admits state (place log) e = c.admits-admitted.ensures ∙ (λ i. admits (view i) (c.in_ok-place.ensures.place i) e) in
    let room : nat_le (end_after c.in_ok-place.place (length c.in_ok-entry.entry.bytes)) 16777216 ≡ has_room log (entry_of e ∷ []) =
    (λ i. nat_le (end_after (c.in_ok-place.ensures.place i) (length (c.in_ok-entry.ensures i).bytes)) 16777216) ∙ ap (λ (n : ℕ). nat_le n 16777216) (sym (place_with log (entry_of e))) in
    elim c.if-admitted.branch [
      | then-admitted w ↦ w.result-is ∙ w.has_room.ensures ∙ room ∙ sym (ap (λ (b : Bool). b && has_room log (entry_of e ∷ [])) (sym admitted ∙ w.if-admitted.true))
      | else-admitted w ↦ w.result-is ∙ w.if-admitted.false ∙ sym (ap (λ (b : Bool). b && has_room log (entry_of e ∷ [])) (sym admitted ∙ w.if-admitted.false))
    ]
