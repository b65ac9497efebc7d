use Rattle.std.proofs.Common.{◌≤◌, length, sym, ap, ◌∙◌, arith}
use Rattle.pending_messages.proofs.ServiceLaws.{at_past}
use Rattle.module_state.specs.Dispatch.{pending_asked}
use Rattle.module_state.proofs.parts.pending_ask.Goals as goal

pub returns-else-service-len-clause-ok : goal.returns-else-service-len-clause-ok
returns-else-service-len-clause-ok c =
    let past : length c.args.pending.now ≤ c.args.service = omega (arith, c.len.ensures) in
    sym (at_past c.args.service _ c.args.pending.now past) ∙ ap (pending_asked c.args.pending.now c.args.service) (sym c.in-Offer.is)
