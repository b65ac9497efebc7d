use Rattle.std.proofs.Common.{◌≡◌, None, Some, append-nil, refl, sym, ap, ◌∙◌}
use Rattle.sbe_events.specs.Spelling.{event_of, first_fault}
use Rattle.service_api.specs.ServiceLaws.{no_event}
use Rattle.service_container.proofs.works.Works.apply.Goals as goal

none : (c : goal.In-Err-Bad) → event_of c.args.entry.now.bytes ≡ None
none c =
    let fault : first_fault c.as_slice.result.now ≡ Some c.in-Err-Bad.field-0-0 = (c.decode_event.ensures.bad c.in-Err-Bad.field-0-0).0 (cc) in
    no_event c.args.entry.now.bytes c.in-Err-Bad.field-0-0 (ap first_fault (sym c.as_slice.ensures) ∙ fault)

pub returns-in-Err-Bad-clause-state : goal.returns-in-Err-Bad-clause-state
returns-in-Err-Bad-clause-state c = rw (none c) refl

pub returns-in-Err-Bad-clause-outbox : goal.returns-in-Err-Bad-clause-outbox
returns-in-Err-Bad-clause-outbox c = rw (none c) (sym (append-nil _))

pub returns-in-Err-Bad-clause-records : goal.returns-in-Err-Bad-clause-records
returns-in-Err-Bad-clause-records c = rw (none c) (sym (append-nil _))
