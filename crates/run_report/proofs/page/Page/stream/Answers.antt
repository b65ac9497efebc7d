use Rattle.std.proofs.Common.{sym}
use Rattle.std.proofs.lemmas.Int.{to_z-of_z}
use Rattle.run_report.specs.Text.{record_lines}
use Rattle.run_report.proofs.Listed.{stream_none, stream_some}
use Rattle.line_text.proofs.Telling.{adds_start, adds_then, adds_stops, adds_as}
use Rattle.run_report.proofs.page.Page.stream.Goals as goal

pub returns-then-count-eq0 : goal.returns-then-count-eq0
returns-then-count-eq0 g c =
    adds_as g.O.Sink.tells g.O.Sink.held g.O.Sink.fault_count _ _ _ _ _ _ _ (sym (stream_none c.args.stream c.args.sent.now c.if-count-eq0.true))
    (adds_start g.O.Sink.tells g.O.Sink.held g.O.Sink.fault_count c.args.sink.now c.args.self.now tt)

pub returns-in_err-line : goal.returns-in_err-line
returns-in_err-line g c =
    let f = c.ranges.stream in
    adds_as g.O.Sink.tells g.O.Sink.held g.O.Sink.fault_count _ _ _ _ _ _ _ (stream_some c.args.stream c.args.sent.now c.if-count-eq0.false)
    (adds_stops g.O.Sink.tells g.O.Sink.held g.O.Sink.fault_count _ _ _ _ _ _ (record_lines c.args.sent.now) _ _ _ c.in_err-line.was c.from_residual.ensures (simp to_z-of_z at c.line.ensures))

pub returns : goal.returns
returns g c =
    let f = c.ranges.stream in
    adds_as g.O.Sink.tells g.O.Sink.held g.O.Sink.fault_count _ _ _ _ _ _ _ (stream_some c.args.stream c.args.sent.now c.if-count-eq0.false)
    (adds_then g.O.Sink.tells g.O.Sink.held g.O.Sink.fault_count _ _ _ _ _ _ _ _ _ _ (simp to_z-of_z at c.in_ok-line.ensures) c.records.ensures)
