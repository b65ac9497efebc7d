use Rattle.std.proofs.Common.{◌∙◌, ap}
use Rattle.echo_run.specs.declared.sent.Outcome.TheVariants as outcome
use Rattle.echo_run.proofs.OrdersOffers.{ends, pressed, full, accepted}
use Rattle.echo_run.proofs.run.Run.offer.Goals as goal

pub returns-then-waiting-gt-WINDOW_LIMIT-clause-outcome : goal.returns-then-waiting-gt-WINDOW_LIMIT-clause-outcome
returns-then-waiting-gt-WINDOW_LIMIT-clause-outcome c =
    pressed c.args.self.now c.requires.kept c.args.event c.end_behind-end.result c.end_behind-end.ensures
    c.saturating_sub-waiting.result c.saturating_sub-waiting.ensures c.if-waiting-gt-WINDOW_LIMIT.true

pub returns-then-end-gt-LOG_LIMIT-clause-outcome : goal.returns-then-end-gt-LOG_LIMIT-clause-outcome
returns-then-end-gt-LOG_LIMIT-clause-outcome c =
    full c.args.self.now c.requires.kept c.args.event c.end_behind-end.result c.end_behind-end.ensures
    c.saturating_sub-waiting.result c.saturating_sub-waiting.ensures c.if-waiting-gt-WINDOW_LIMIT.false c.if-end-gt-LOG_LIMIT.true

pub append-requires-clause-end : goal.append-requires-clause-end
append-requires-clause-end c = ends c.args.self.now c.requires.kept c.args.event c.end_behind-end.result c.end_behind-end.ensures

pub returns-clause-outcome : goal.returns-clause-outcome
returns-clause-outcome c =
    ap outcome.Accepted c.len-index.ensures
    ∙ accepted c.args.self.now c.requires.kept c.args.event c.end_behind-end.result c.end_behind-end.ensures
    c.saturating_sub-waiting.result c.saturating_sub-waiting.ensures c.if-waiting-gt-WINDOW_LIMIT.false c.if-end-gt-LOG_LIMIT.false
