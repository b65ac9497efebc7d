use Rattle.run_report.specs.declared.line.Line.TheVariants as line
use Rattle.run_report.specs.Text.{line_text}
use Rattle.line_text.proofs.Telling.{adds_then, adds_stops}
use Rattle.run_report.proofs.page.Page.summary.Goals as goal

pub returns-in_err-line-clause-told : goal.returns-in_err-line-clause-told
returns-in_err-line-clause-told g c = adds_stops g.O.Sink.tells g.O.Sink.held g.O.Sink.fault_count _ _ _ _ _ _ (line_text line.Done) _ _ _ c.in_err-line.was c.from_residual.ensures c.line.ensures

pub returns-clause-told : goal.returns-clause-told
returns-clause-told g c = adds_then g.O.Sink.tells g.O.Sink.held g.O.Sink.fault_count _ _ _ _ _ _ _ _ _ _ c.in_ok-line.ensures c.done.ensures.told
