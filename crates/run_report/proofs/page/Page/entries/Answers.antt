use Rattle.std.proofs.Common.{◌+◌, ◌<◌, ◌++◌, length, take, drop, sym, ap, ◌∙◌, arith}
use Rattle.run_report.specs.Text.{entry_lines}
use Rattle.run_report.proofs.Listed.{entries_more, entries_cut, entry_is}
use Rattle.line_text.proofs.Telling.{adds_then, adds_stops, adds_as}
use Rattle.run_report.proofs.page.Page.entries.Goals as goal

pub returns-in_err-line : goal.returns-in_err-line
returns-in_err-line g c =
    let i = c.loop-i.i in
    let here : i < length c.args.entries.now = omega arith in
    let more = entries_more c.args.kind c.args.first i c.args.entries.now c.index-entries-i.result here c.index-entries-i.is in
    adds_as g.O.Sink.tells g.O.Sink.held g.O.Sink.fault_count _ _ _ _ _ _ _ (entries_cut c.args.kind c.args.first (i + 1) c.args.entries.now)
    (adds_stops g.O.Sink.tells g.O.Sink.held g.O.Sink.fault_count _ _ _ _ _ _ (entry_lines c.args.kind (c.args.first + (i + 1)) (drop (i + 1) c.args.entries.now)) _ _ _ c.in_err-line.was c.from_residual.ensures
    (adds_as g.O.Sink.tells g.O.Sink.held g.O.Sink.fault_count _ _ _ _ _ _ _ (ap (λ y. entry_lines c.args.kind c.args.first (take i c.args.entries.now) ++ y) (entry_is _ _ _) ∙ sym more)
    (adds_then g.O.Sink.tells g.O.Sink.held g.O.Sink.fault_count _ _ _ _ _ _ _ _ _ _ c.loop-i.invariant c.line.ensures)))

pub loop-i-preserved : goal.loop-i-preserved
loop-i-preserved g c =
    let i = c.loop-i.i in
    let here : i < length c.args.entries.now = omega arith in
    let more = entries_more c.args.kind c.args.first i c.args.entries.now c.index-entries-i.result here c.index-entries-i.is in
    adds_as g.O.Sink.tells g.O.Sink.held g.O.Sink.fault_count _ _ _ _ _ _ _ (ap (λ y. entry_lines c.args.kind c.args.first (take i c.args.entries.now) ++ y) (entry_is _ _ _) ∙ sym more)
    (adds_then g.O.Sink.tells g.O.Sink.held g.O.Sink.fault_count _ _ _ _ _ _ _ _ _ _ c.loop-i.invariant c.in_ok-line.ensures)
