-- Each service, and then the module.
use Rattle.std.proofs.Common.{◌≡◌, true, false, pos, arith, rules, sym, ◌∙◌, below_more}
use Rattle.std.proofs.lemmas.Int.{to_z-of_z}
use Rattle.recording_log.proofs.SetLemmas.{part_of}
use Rattle.recording_log.proofs.sets.has_set.Goals as goal

pub returns-then-not-has : goal.returns-then-not-has
returns-then-not-has c entries tells =
    let out : c.has.result ≡ false = search rules in (
      λ is. absurd (cc),
      λ set.
          let is : c.has.result ≡ true = (c.has.ensures entries tells).1 (part_of _ _ _ (pos c.loop-s.s) _ (set.each c.loop-s.s (omega arith)) (grind (arith, to_z-of_z))) in
          let clash : true ≡ false = sym is ∙ out in absurd (cc),
    )

pub loop-s-preserved : goal.loop-s-preserved
loop-s-preserved c entries tells =
    let is : c.has.result ≡ true = search rules in
    below_more _ _ (c.loop-s.invariant entries tells) (part_of _ _ _ _ (pos c.loop-s.s) ((c.has.ensures entries tells).0 is) (grind (arith, to_z-of_z)))

pub returns : goal.returns
returns c entries tells = (
  λ is. record { of_module = (c.has-2.ensures entries tells).0 is; each = λ s below. c.loop-s.invariant entries tells s (omega arith) },
  λ set. (c.has-2.ensures entries tells).1 set.of_module,
)
