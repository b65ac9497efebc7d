use Rattle.std.proofs.Common.{◌≡◌, ◌<◌, List, length, get_or, arith, refl, sym, ap, ◌∙◌}
use Rattle.consensus_core.specs.Member.{Sent}
use Rattle.world_steps.specs.Steps.{sent_at}
use Rattle.world_steps.proofs.Made.{taking-made, packet-found, with_world}
use Rattle.world_steps.proofs.cluster.World.delivers.Goals as goal

pub takes-requires-clause-spelled : goal.takes-requires-clause-spelled
takes-requires-clause-spelled c =
    let t = c.args.self.now in
    let inside : c.args.which < length t.world.sent = (let n = ap length c.sent-all.ensures in omega arith) in
    let to : c.sent.inside.to ≡ (sent_at t.world c.args.which).to = ap (λ (o : Sent). o.to) (c.sent.view_is ∙ packet-found t t c.args.which c.index-all-which.result refl inside (c.index-all-which.is ∙ ap (λ (xs : List Sent). get_or xs c.args.which c.index-all-which.result) c.sent-all.ensures)) in
    (taking-made t c.args.which c.sent.inside.to c.args.cut c.requires inside to (sym c.is_running.ensures ∙ c.if-not-is_running.false)).spelled

pub takes-requires-clause-speaks : goal.takes-requires-clause-speaks
takes-requires-clause-speaks c =
    let t = c.args.self.now in
    let inside : c.args.which < length t.world.sent = (let n = ap length c.sent-all.ensures in omega arith) in
    let to : c.sent.inside.to ≡ (sent_at t.world c.args.which).to = ap (λ (o : Sent). o.to) (c.sent.view_is ∙ packet-found t t c.args.which c.index-all-which.result refl inside (c.index-all-which.is ∙ ap (λ (xs : List Sent). get_or xs c.args.which c.index-all-which.result) c.sent-all.ensures)) in
    (taking-made t c.args.which c.sent.inside.to c.args.cut c.requires inside to (sym c.is_running.ensures ∙ c.if-not-is_running.false)).speaks

pub returns : goal.returns
returns c =
    let t = c.args.self.now in
    let inside : c.args.which < length t.world.sent = (let n = ap length c.sent-all.ensures in omega arith) in
    let to : c.sent.inside.to ≡ (sent_at t.world c.args.which).to = ap (λ (o : Sent). o.to) (c.sent.view_is ∙ packet-found t t c.args.which c.index-all-which.result refl inside (c.index-all-which.is ∙ ap (λ (xs : List Sent). get_or xs c.args.which c.index-all-which.result) c.sent-all.ensures)) in
    c.in_ok-takes.ensures ∙ ap (with_world t) (taking-made t c.args.which c.sent.inside.to c.args.cut c.requires inside to (sym c.is_running.ensures ∙ c.if-not-is_running.false)).step_is
