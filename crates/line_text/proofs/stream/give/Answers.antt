use Rattle.std.proofs.Common.{arith, ◌∙◌}
use Rattle.line_text.proofs.Parts.{front_more}
use Rattle.line_text.proofs.stream.give.Goals as goal

pub loop-at-preserved : goal.loop-at-preserved
loop-at-preserved g c =
    let before = c.loop-at.invariant in
    let wrote = c.in_ok-n.ensures in
    record {
      within = omega arith;
      same = wrote.tells ∙ before.same;
      later = omega (arith, wrote.cause.later, before.later);
      front = λ t. front_more _ _ _ c.args.text.now c.loop-at.at c.in_ok-n.n _ before.within wrote.within (before.front t) (wrote.told (rw before.same t));
    }
