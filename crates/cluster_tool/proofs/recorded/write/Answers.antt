use Rattle.std.proofs.Common.{ℕ, List, [], subst}
use Rattle.line_text.specs.Written.{Adds}
use Rattle.line_text.proofs.Telling.{adds_stops}
use Rattle.cluster_tool.specs.declared.line.Line.TheVariants as line
use Rattle.cluster_tool.specs.Text.{line_text, recording_text}
use Rattle.cluster_tool.proofs.recorded.write.Goals as goal

pub returns-in_err-entries : goal.returns-in_err-entries
returns-in_err-entries g c =
    subst (λ (p : List ℕ). Adds {T = Unit {0}} g.O.Sink.tells g.O.Sink.held g.O.Sink.fault_count c.args.sink.now c.entries.new.sink p [] (recording_text c.args.entries.now) c.from_residual.result) c.new-page.ensures
    (adds_stops g.O.Sink.tells g.O.Sink.held g.O.Sink.fault_count _ _ _ _ _ _ (line_text line.Done) _ _ _ c.in_err-entries.was c.from_residual.ensures c.entries.ensures)
