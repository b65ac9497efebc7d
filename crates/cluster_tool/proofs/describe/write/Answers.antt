use Rattle.std.proofs.Common.{ℕ, List, [], ◌++◌, sym, subst, append_assoc}
use Rattle.line_text.specs.Written.{Adds}
use Rattle.run_report.specs.Text.{set_lines}
use Rattle.line_text.proofs.Telling.{adds_then, adds_stops, adds_as}
use Rattle.cluster_tool.specs.declared.line.Line.TheVariants as line
use Rattle.cluster_tool.specs.Text.{line_text}
use Rattle.cluster_tool.proofs.describe.write.Goals as goal

pub returns-in_err-line : goal.returns-in_err-line
returns-in_err-line g c =
    let head = line_text (line.Summary c.args.summary) in
    let sets = set_lines c.args.sets.now in
    let end = line_text line.Done in
    subst (λ (p : List ℕ). Adds {T = Unit {0}} g.O.Sink.tells g.O.Sink.held g.O.Sink.fault_count c.args.sink.now c.line.new.sink p [] (head ++ sets ++ end) c.from_residual.result) c.new-page.ensures
    (adds_as g.O.Sink.tells g.O.Sink.held g.O.Sink.fault_count _ _ _ _ _ _ _ (sym (append_assoc head sets end))
    (adds_stops g.O.Sink.tells g.O.Sink.held g.O.Sink.fault_count _ _ _ _ _ _ (sets ++ end) _ _ _ c.in_err-line.was c.from_residual.ensures c.line.ensures))

pub returns-in_err-sets : goal.returns-in_err-sets
returns-in_err-sets g c =
    let head = line_text (line.Summary c.args.summary) in
    let sets = set_lines c.args.sets.now in
    let end = line_text line.Done in
    subst (λ (p : List ℕ). Adds {T = Unit {0}} g.O.Sink.tells g.O.Sink.held g.O.Sink.fault_count c.args.sink.now c.sets.new.sink p [] (head ++ sets ++ end) c.from_residual-in_err-sets.result) c.new-page.ensures
    (adds_stops g.O.Sink.tells g.O.Sink.held g.O.Sink.fault_count _ _ _ _ _ _ end _ _ _ c.in_err-sets.was c.from_residual-in_err-sets.ensures
    (adds_then g.O.Sink.tells g.O.Sink.held g.O.Sink.fault_count _ _ _ _ _ _ _ _ _ _ c.in_ok-line.ensures c.sets.ensures))
