use Rattle.std.proofs.Common.{◌+◌, ◌<◌, ◌++◌, length, take, drop, sym, ap, ◌∙◌, arith}
use Rattle.run_report.specs.Text.{record_line, record_lines}
use Rattle.run_report.proofs.Listed.{lines_more, lines_cut, record_is}
use Rattle.line_text.proofs.Telling.{adds_then, adds_stops, adds_as}
use Rattle.run_report.proofs.page.Page.records.Goals as goal

pub returns-in_err-line : goal.returns-in_err-line
returns-in_err-line g c =
    let i = c.loop-record.record-index in
    let here : i < length c.args.sent.now = omega arith in
    let more = lines_more record_line i c.args.sent.now c.record-item.result here c.record-item.is in
    adds_as g.O.Sink.tells g.O.Sink.held g.O.Sink.fault_count _ _ _ _ _ _ _ (lines_cut record_line (i + 1) c.args.sent.now)
    (adds_stops g.O.Sink.tells g.O.Sink.held g.O.Sink.fault_count _ _ _ _ _ _ (record_lines (drop (i + 1) c.args.sent.now)) _ _ _ c.in_err-line.was c.from_residual.ensures
    (adds_as g.O.Sink.tells g.O.Sink.held g.O.Sink.fault_count _ _ _ _ _ _ _ (ap (λ y. record_lines (take i c.args.sent.now) ++ y) (record_is _) ∙ sym more)
    (adds_then g.O.Sink.tells g.O.Sink.held g.O.Sink.fault_count _ _ _ _ _ _ _ _ _ _ c.loop-record.invariant c.line.ensures)))

pub loop-record-preserved : goal.loop-record-preserved
loop-record-preserved g c =
    let i = c.loop-record.record-index in
    let here : i < length c.args.sent.now = omega arith in
    let more = lines_more record_line i c.args.sent.now c.record-item.result here c.record-item.is in
    adds_as g.O.Sink.tells g.O.Sink.held g.O.Sink.fault_count _ _ _ _ _ _ _ (ap (λ y. record_lines (take i c.args.sent.now) ++ y) (record_is _) ∙ sym more)
    (adds_then g.O.Sink.tells g.O.Sink.held g.O.Sink.fault_count _ _ _ _ _ _ _ _ _ _ c.loop-record.invariant c.in_ok-line.ensures)
