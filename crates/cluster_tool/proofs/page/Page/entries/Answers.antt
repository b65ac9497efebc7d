use Rattle.std.proofs.Common.{◌+◌, ◌<◌, ◌++◌, length, take, drop, sym, ap, ◌∙◌, arith}
use Rattle.cluster_tool.specs.Text.{recorded_line, recorded_lines}
use Rattle.run_report.proofs.Listed.{lines_more_at, lines_cut}
use Rattle.line_text.proofs.Telling.{adds_then, adds_stops, adds_as}
use Rattle.cluster_tool.proofs.Spelled.{recorded_is}
use Rattle.cluster_tool.proofs.page.Page.entries.Goals as goal

pub returns-in_err-line : goal.returns-in_err-line
returns-in_err-line g c =
    let i = c.loop-entry.entry-index in
    let here : i < length c.args.entries.now = omega arith in
    let more = lines_more_at recorded_line i c.args.entries.now _ here in
    adds_as g.O.Sink.tells g.O.Sink.held g.O.Sink.fault_count _ _ _ _ _ _ _ (lines_cut recorded_line (i + 1) c.args.entries.now)
    (adds_stops g.O.Sink.tells g.O.Sink.held g.O.Sink.fault_count _ _ _ _ _ _ (recorded_lines (drop (i + 1) c.args.entries.now)) _ _ _ c.in_err-line.was c.from_residual.ensures
    (adds_as g.O.Sink.tells g.O.Sink.held g.O.Sink.fault_count _ _ _ _ _ _ _ (ap (λ y. recorded_lines (take i c.args.entries.now) ++ y) (recorded_is _) ∙ sym more)
    (adds_then g.O.Sink.tells g.O.Sink.held g.O.Sink.fault_count _ _ _ _ _ _ _ _ _ _ c.loop-entry.invariant c.line.ensures)))

pub loop-entry-preserved : goal.loop-entry-preserved
loop-entry-preserved g c =
    let i = c.loop-entry.entry-index in
    let here : i < length c.args.entries.now = omega arith in
    let more = lines_more_at recorded_line i c.args.entries.now _ here in
    adds_as g.O.Sink.tells g.O.Sink.held g.O.Sink.fault_count _ _ _ _ _ _ _ (ap (λ y. recorded_lines (take i c.args.entries.now) ++ y) (recorded_is _) ∙ sym more)
    (adds_then g.O.Sink.tells g.O.Sink.held g.O.Sink.fault_count _ _ _ _ _ _ _ _ _ _ c.loop-entry.invariant c.in_ok-line.ensures)
