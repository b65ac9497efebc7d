use Rattle.std.proofs.Common.{◌<◌, length, ap, sym, subst, ◌∙◌}
use Rattle.pending_messages.specs.Pending.{PendingTable, ServiceOffers}
use Rattle.pending_messages.proofs.ServiceLaws.{found}
use Rattle.pending_messages.proofs.pending.Pending.waiting.Goals as goal

pub returns : goal.returns
returns c =
    let within : c.args.service < length c.self.inside.services.items = subst (λ (l : PendingTable). c.args.service < length l) (sym c.self.view_is) c.requires in
    c.waiting.ensures ∙ ap (λ (o : ServiceOffers). o.waiting) (found c.args.service c.self.inside.services.items c.args.self.now c.index.result.now within c.self.view_is c.index.ensures)
