use Rattle.run_report.specs.Text.{set_lines}
use Rattle.line_text.proofs.Telling.{adds_then, adds_stops}
use Rattle.run_report.proofs.page.Page.backup.Goals as goal

pub returns-in_err-line : goal.returns-in_err-line
returns-in_err-line g c = adds_stops g.O.Sink.tells g.O.Sink.held g.O.Sink.fault_count _ _ _ _ _ _ (set_lines c.args.sets.now) _ _ _ c.in_err-line.was c.from_residual.ensures c.line.ensures

pub returns : goal.returns
returns g c = adds_then g.O.Sink.tells g.O.Sink.held g.O.Sink.fault_count _ _ _ _ _ _ _ _ _ _ c.in_ok-line.ensures c.sets.ensures
