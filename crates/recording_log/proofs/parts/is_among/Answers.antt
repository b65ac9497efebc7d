-- The first such entry, or none.
use Rattle.std.proofs.Common.{◌≡◌, arith, to_z, of_z, w32, true, false, refl, sym, ◌∙◌}
use Rattle.std.proofs.lemmas.Int.{to_z-of_z}
use Rattle.recording_log.proofs.SetLemmas.{part_found, none_more, none_at_end}
use Rattle.recording_log.proofs.parts.is_among.Goals as goal

pub returns-then-is_part : goal.returns-then-is_part
returns-then-is_part c =
    let same : to_z w32 (of_z w32 c.args.service) ≡ c.args.service = grind (arith, to_z-of_z) in
    (λ t. part_found c.args.entries.now c.loop-e.e-index c.args.of.term c.args.of.position c.args.service _ (omega arith) same (c.is_part.ensures.0 c.if-is_part.true), λ has. refl)

pub loop-e-preserved : goal.loop-e-preserved
loop-e-preserved c =
    none_more c.args.entries.now c.loop-e.e-index c.args.of.term c.args.of.position _ c.loop-e.invariant
    (λ part. let yes_it_is : c.is_part.result ≡ true = c.is_part.ensures.1 part in let clash : true ≡ false = sym yes_it_is ∙ c.if-is_part.false in absurd (cc))

pub returns : goal.returns
returns c =
    let same : to_z w32 (of_z w32 c.args.service) ≡ c.args.service = grind (arith, to_z-of_z) in
    (λ is. absurd (cc), λ has. absurd (none_at_end c.args.entries.now c.loop-e.e-index c.args.of.term c.args.of.position c.args.service _ (omega arith) same c.loop-e.invariant has))
