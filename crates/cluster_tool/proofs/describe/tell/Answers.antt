use Rattle.std.proofs.Common.{◌≡◌, ℕ, List, [], ◌++◌, length, ap, ◌∙◌}
use Rattle.member_disk.specs.Kept.{Kept}
use Rattle.run_report.specs.Text.{set_lines}
use Rattle.line_text.proofs.Telling.{adds_as}
use Rattle.cluster_tool.specs.declared.line.Summary.{Summary}
use Rattle.cluster_tool.specs.declared.line.Line.TheVariants as line
use Rattle.cluster_tool.specs.Sets.{sets_of}
use Rattle.cluster_tool.specs.Text.{line_text, summary_with}
use Rattle.cluster_tool.proofs.Sets.{sets_listed}
use Rattle.cluster_tool.proofs.describe.tell.Goals as goal

-- the lines of as many sets
same_text : (kept : Kept) (terms n m : ℕ) (x y : List ℕ) → n ≡ m → x ≡ y
    → line_text (line.Summary (summary_with kept terms n)) ++ x ++ line_text line.Done ≡ line_text (line.Summary (summary_with kept terms m)) ++ y ++ line_text line.Done
same_text kept terms n m x y many same = λ i. line_text (line.Summary (summary_with kept terms (many i))) ++ same i ++ line_text line.Done

pub returns : goal.returns
returns g c =
    let kept = c.args.durable.now in
    let sets = c.sets-sets.result.now in
    let listed = sets_listed kept.services kept.entries sets c.sets-sets.ensures in
    let text = ap (λ (s : Summary). line_text (line.Summary s) ++ set_lines sets ++ line_text line.Done) c.summary_of-summary.ensures
    ∙ same_text kept c.args.terms (length sets) (length (sets_of kept.services kept.entries)) (set_lines sets) (set_lines (sets_of kept.services kept.entries)) listed.1 listed.0 in
    adds_as g.O.Sink.tells g.O.Sink.held g.O.Sink.fault_count c.args.sink.now c.write.new.sink [] [] _ _ c.write.result text c.write.ensures
