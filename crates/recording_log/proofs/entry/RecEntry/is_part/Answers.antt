-- The last test.
use Rattle.std.proofs.Common.{◌≡◌, IsTrue, of_z, to_z, w32, ◌∙◌, sym, ap, arith, rules, eq-eqb, eqb-true}
use Rattle.std.proofs.lemmas.Int.{to_z-of_z}
use Rattle.recording_log.specs.Valid.{is_snapshot}
use Rattle.recording_log.proofs.entry.RecEntry.is_part.Goals as goal

pub returns : goal.returns
returns c =
    let s = c.args.self in
    let b0 : to_z w32 (of_z w32 s.service) ≡ s.service = grind (arith, to_z-of_z) in
    let b1 : to_z w32 (of_z w32 c.args.service) ≡ c.args.service = grind (arith, to_z-of_z) in
    let b2 : s.term ≡ c.args.of.term = grind (arith, to_z-of_z) in
    let b3 : s.position ≡ c.args.of.position = grind (arith, to_z-of_z) in
    let snap : IsTrue (is_snapshot s) = search rules in
    (λ is. (snap, b2, b3, sym b0 ∙ ap (to_z w32) (eqb-true _ _ is) ∙ b1), λ part. eq-eqb _ _ (ap (of_z w32) part.3))
