use Rattle.std.proofs.Common.{◌+◌, ◌<◌, ◌++◌, length, take, drop, sym, ap, ◌∙◌, arith}
use Rattle.run_report.specs.Text.{set_line, set_lines}
use Rattle.run_report.proofs.Listed.{lines_more_at, lines_cut, set_is}
use Rattle.line_text.proofs.Telling.{adds_then, adds_stops, adds_as}
use Rattle.run_report.proofs.page.Page.sets.Goals as goal

pub returns-in_err-line : goal.returns-in_err-line
returns-in_err-line g c =
    let i = c.loop-set.set-index in
    let here : i < length c.args.sets.now = omega arith in
    let more = lines_more_at set_line i c.args.sets.now _ here in
    adds_as g.O.Sink.tells g.O.Sink.held g.O.Sink.fault_count _ _ _ _ _ _ _ (lines_cut set_line (i + 1) c.args.sets.now)
    (adds_stops g.O.Sink.tells g.O.Sink.held g.O.Sink.fault_count _ _ _ _ _ _ (set_lines (drop (i + 1) c.args.sets.now)) _ _ _ c.in_err-line.was c.from_residual.ensures
    (adds_as g.O.Sink.tells g.O.Sink.held g.O.Sink.fault_count _ _ _ _ _ _ _ (ap (λ y. set_lines (take i c.args.sets.now) ++ y) (set_is _) ∙ sym more)
    (adds_then g.O.Sink.tells g.O.Sink.held g.O.Sink.fault_count _ _ _ _ _ _ _ _ _ _ c.loop-set.invariant c.line.ensures)))

pub loop-set-preserved : goal.loop-set-preserved
loop-set-preserved g c =
    let i = c.loop-set.set-index in
    let here : i < length c.args.sets.now = omega arith in
    let more = lines_more_at set_line i c.args.sets.now _ here in
    adds_as g.O.Sink.tells g.O.Sink.held g.O.Sink.fault_count _ _ _ _ _ _ _ (ap (λ y. set_lines (take i c.args.sets.now) ++ y) (set_is _) ∙ sym more)
    (adds_then g.O.Sink.tells g.O.Sink.held g.O.Sink.fault_count _ _ _ _ _ _ _ _ _ _ c.loop-set.invariant c.in_ok-line.ensures)
