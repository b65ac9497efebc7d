use Rattle.std.proofs.Common.{ℕ, List, [], Err, refl, ◌∙◌, subst}
use Rattle.line_text.specs.Written.{IsPart}
use Rattle.line_text.proofs.Telling.{adds_part, adds_ends}
use Rattle.cluster_tool.proofs.page.Page.flush.Goals as goal

pub returns-in_err-give-clause-told : goal.returns-in_err-give-clause-told
returns-in_err-give-clause-told g c =
    let d = c.in_err-give.field-0.0 in
    adds_ends g.O.Sink.tells g.O.Sink.held g.O.Sink.fault_count {T = Unit {0}} {U = Unit {0}} c.args.sink.now c.give.new.sink c.args.self.now c.args.self.now c.args.self.now [] (Err d) c.from_residual.result d refl c.from_residual.ensures
    (adds_part g.O.Sink.tells g.O.Sink.held g.O.Sink.fault_count {T = Unit {0}} c.args.sink.now c.give.new.sink c.args.self.now c.args.self.now d c.in_err-give.ensures.cause c.in_err-give.ensures.tells
    (λ t. subst (λ (x : List ℕ). IsPart (g.O.Sink.held c.args.sink.now) x (g.O.Sink.held c.give.new.sink)) (c.as_bytes.ensures.value ∙ c.self.view_is) (c.in_err-give.ensures.part t)))
