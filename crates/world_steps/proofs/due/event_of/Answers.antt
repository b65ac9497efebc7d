use Rattle.std.proofs.Common.{◌≡◌, None, Some, refl, sym, ap, ◌∙◌}
use Rattle.sbe_events.specs.Spelling.{event_of, first_fault}
use Rattle.world_steps.proofs.Events.{no_event}
use Rattle.world_steps.proofs.due.event_of.Goals as goal

none : (c : goal.In-Err-Bad) → event_of c.args.entry.now.bytes ≡ None
none c =
    let fault : first_fault c.as_slice.result.now ≡ Some c.in-Err-Bad.field-0-0 = (c.decode_event.ensures.bad c.in-Err-Bad.field-0-0).0 (cc) in
    no_event c.args.entry.now.bytes c.in-Err-Bad.field-0-0 (ap first_fault (sym c.as_slice.ensures) ∙ fault)

pub returns-in-Err-Bad-clause-found : goal.returns-in-Err-Bad-clause-found
returns-in-Err-Bad-clause-found c = rw (none c) refl
