use Rattle.std.proofs.Common.{arith, ◌≡◌, ℕ, ◌<◌, ◌+◌, ◌-◌, ◌++◌, ◌∷◌, suc, ap, ◌∙◌, sym, append_assoc}
use Rattle.std.specs.Prelude.{flat_map}
use Rattle.std.specs.List.{range_with_len}
use Rattle.scenario.specs.Made.{message_step}
use Rattle.scenario.proofs.making.put_half.Goals as goal

range_first : (a end : ℕ) → a < end → range_with_len a (end - a) ≡ a ∷ range_with_len (a + 1) (end - (a + 1))
range_first a end lt = let e : end - a ≡ suc (end - (a + 1)) = omega arith in ap (range_with_len a) e

pub loop-number-preserved : goal.loop-number-preserved
loop-number-preserved c =
    let i = c.loop-number.number in
    let end = c.args.end in
    let step = message_step c.args.member end in
    let rest = flat_map step (range_with_len (i + 1) (end - (i + 1))) in
    ap (λ o. o ++ rest) c.in_ok-put_step.ensures ∙ append_assoc c.loop-number.out.items (step i) rest
    ∙ ap (λ r. c.loop-number.out.items ++ flat_map step r) (sym (range_first i end (omega arith))) ∙ c.loop-number.invariant
