use Rattle.std.proofs.Common.{◌++◌, sym, append_assoc, length}
use Rattle.run_report.specs.declared.line.EntryKind.TheVariants as kinds
use Rattle.run_report.specs.declared.line.Line.TheVariants as line
use Rattle.run_report.specs.Text.{line_text, entry_lines, set_lines}
use Rattle.line_text.proofs.Telling.{adds_then, adds_stops, adds_as}
use Rattle.run_report.proofs.page.Page.member.Goals as goal

pub returns-in_err-line : goal.returns-in_err-line
returns-in_err-line g c =
    let head = line_text (line.Member c.args.end (length c.args.sets.now)) in
    let own = entry_lines kinds.Own c.args.end.same c.args.own.now in
    let sets = set_lines c.args.sets.now in
    adds_as g.O.Sink.tells g.O.Sink.held g.O.Sink.fault_count _ _ _ _ _ _ _ (sym (append_assoc head own sets))
    (adds_stops g.O.Sink.tells g.O.Sink.held g.O.Sink.fault_count _ _ _ _ _ _ (own ++ sets) _ _ _ c.in_err-line.was c.from_residual.ensures c.line.ensures)

pub returns-in_err-entries : goal.returns-in_err-entries
returns-in_err-entries g c =
    adds_stops g.O.Sink.tells g.O.Sink.held g.O.Sink.fault_count _ _ _ _ _ _ (set_lines c.args.sets.now) _ _ _ c.in_err-entries.was c.from_residual-in_err-entries.ensures
    (adds_then g.O.Sink.tells g.O.Sink.held g.O.Sink.fault_count _ _ _ _ _ _ _ _ _ _ c.in_ok-line.ensures c.entries.ensures)

pub returns : goal.returns
returns g c = adds_then g.O.Sink.tells g.O.Sink.held g.O.Sink.fault_count _ _ _ _ _ _ _ _ _ _ (adds_then g.O.Sink.tells g.O.Sink.held g.O.Sink.fault_count _ _ _ _ _ _ _ _ _ _ c.in_ok-line.ensures c.in_ok-entries.ensures) c.sets.ensures
