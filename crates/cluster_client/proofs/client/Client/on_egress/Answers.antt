use Rattle.sbe_client.specs.Reading.{first_fault_egress}
use Rattle.std.proofs.Common.{◌≡◌, Err, rules, ap, sym, ◌∙◌}
use Rattle.cluster_client.proofs.Listed.{same_err, same_faults}
use Rattle.cluster_client.proofs.client.Client.on_egress.Goals as goal

pub returns-in_err-message-clause-bad : goal.returns-in_err-message-clause-bad
returns-in_err-message-clause-bad c = λ bad.
    let iff = c.in_err-message.ensures.bad bad in
    let is : c.from_residual.result ≡ Err c.in_err-message.field-0.0 = search rules in
    (λ e. iff.0 (ap (λ x. Err x) (same_err (sym is ∙ e))), λ g. is ∙ ap (λ x. Err x) (same_err (iff.1 g)))

pub returns-clause-bad : goal.returns-clause-bad
returns-clause-bad c = λ bad. same_faults (first_fault_egress c.args.bytes.now) c.in_ok-message.message c.hear.result bad (c.in_ok-message.ensures.bad bad)

pub returns-clause-read : goal.returns-clause-read
returns-clause-read c = (c.in_ok-message.message, c.in_ok-message.ensures.read)
