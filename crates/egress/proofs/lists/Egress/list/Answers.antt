use Rattle.std.proofs.Common.{◌≡◌, List, sym, ap, ◌∙◌, subst, get_or}
use Rattle.std.proofs.lemmas.Int.{to_z-of_z}
use Rattle.egress.specs.Streams.{StreamSeen, StreamsRise}
use Rattle.egress.proofs.Placed.{sent_at, sent_none}
use Rattle.egress.proofs.lists.Egress.list.Goals as goal

pub returns-in-Ok : goal.returns-in-Ok
returns-in-Ok c =
    let f = c.ranges.stream in
    let found = simp to_z-of_z at c.in-Ok.ensures.found in
    let rise = subst (λ (l : List StreamSeen). StreamsRise l) c.self.view_is c.self.invariant in
    let item = subst (λ (l : List StreamSeen). c.index.result.now ≡ get_or l c.in-Ok.place c.index.result.now) c.self.view_is c.index.ensures in
    c.sent.ensures ∙ ap (λ (b : StreamSeen). b.sent) item ∙ sym (sent_at c.args.stream c.args.self.now c.in-Ok.place c.index.result.now rise found.0 found.1)

pub returns-in-Err : goal.returns-in-Err
returns-in-Err c =
    let f = c.ranges.stream in
    let none = simp to_z-of_z at c.in-Err.ensures.none in
    sym (sent_none c.args.stream c.args.self.now c.in-Err.field-0 none.1)
