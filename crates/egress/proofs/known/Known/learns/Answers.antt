use Rattle.std.proofs.Common.{sym, ◌∙◌}
use Rattle.sbe_client.specs.Reading.{first_fault_egress}
use Rattle.egress.proofs.Heard.{learns_read, learns_none, learns_message, no_fault}
use Rattle.egress.proofs.known.Known.learns.Goals as goal

pub returns-then-get_u16-eq-MESSAGE : goal.returns-then-get_u16-eq-MESSAGE
returns-then-get_u16-eq-MESSAGE c = sym (learns_message c.args.self c.args.bytes.now (sym c.get_u16.ensures ∙ c.if-get_u16-eq-MESSAGE.true))

pub returns-in-Ok : goal.returns-in-Ok
returns-in-Ok c =
    let free = no_fault (first_fault_egress c.args.bytes.now) (λ bad e. let f = (c.decode_egress.ensures.bad bad).1 e in cc) in
    c.told.ensures ∙ sym (learns_read c.args.self c.args.bytes.now c.in-Ok.message free c.in-Ok.ensures.read)

pub returns-in-Err-Bad : goal.returns-in-Err-Bad
returns-in-Err-Bad c = sym (learns_none c.args.self c.args.bytes.now c.in-Err-Bad.field-0-0 ((c.decode_egress.ensures.bad c.in-Err-Bad.field-0-0).0 cc))
