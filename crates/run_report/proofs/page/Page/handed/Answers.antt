use Rattle.std.proofs.Common.{◌+◌, ◌<◌, ◌++◌, length, take, drop, sym, ap, ◌∙◌, arith}
use Rattle.run_report.specs.Text.{got_line, got_lines}
use Rattle.run_report.proofs.Listed.{lines_more, lines_cut, got_is}
use Rattle.line_text.proofs.Telling.{adds_then, adds_stops, adds_as}
use Rattle.run_report.proofs.page.Page.handed.Goals as goal

pub returns-in_err-line : goal.returns-in_err-line
returns-in_err-line g c =
    let i = c.loop-got.got-index in
    let here : i < length c.args.messages.now = omega arith in
    let more = lines_more got_line i c.args.messages.now c.got-item.result here c.got-item.is in
    adds_as g.O.Sink.tells g.O.Sink.held g.O.Sink.fault_count _ _ _ _ _ _ _ (lines_cut got_line (i + 1) c.args.messages.now)
    (adds_stops g.O.Sink.tells g.O.Sink.held g.O.Sink.fault_count _ _ _ _ _ _ (got_lines (drop (i + 1) c.args.messages.now)) _ _ _ c.in_err-line.was c.from_residual.ensures
    (adds_as g.O.Sink.tells g.O.Sink.held g.O.Sink.fault_count _ _ _ _ _ _ _ (ap (λ y. got_lines (take i c.args.messages.now) ++ y) (got_is _) ∙ sym more)
    (adds_then g.O.Sink.tells g.O.Sink.held g.O.Sink.fault_count _ _ _ _ _ _ _ _ _ _ c.loop-got.invariant c.line.ensures)))

pub loop-got-preserved : goal.loop-got-preserved
loop-got-preserved g c =
    let i = c.loop-got.got-index in
    let here : i < length c.args.messages.now = omega arith in
    let more = lines_more got_line i c.args.messages.now c.got-item.result here c.got-item.is in
    adds_as g.O.Sink.tells g.O.Sink.held g.O.Sink.fault_count _ _ _ _ _ _ _ (ap (λ y. got_lines (take i c.args.messages.now) ++ y) (got_is _) ∙ sym more)
    (adds_then g.O.Sink.tells g.O.Sink.held g.O.Sink.fault_count _ _ _ _ _ _ _ _ _ _ c.loop-got.invariant c.in_ok-line.ensures)
