-- By position, and then by term.
use Rattle.std.proofs.Common.{◌≡◌, ◌≤ℤ◌, arith}
use Rattle.std.proofs.lemmas.Int.{ints, to_z-of_z}
use Rattle.recording_log.proofs.sets.is_later.Goals as goal

pub returns-then-a-b-2-clause-up_to : goal.returns-then-a-b-2-clause-up_to
returns-then-a-b-2-clause-up_to c = λ is.
    let near : c.args.a.position ≤ℤ c.args.b.position = grind (arith, ints, to_z-of_z) in
    let low : c.args.a.term ≤ℤ c.args.b.term = grind (arith, ints, to_z-of_z) in
    (near, λ same. low)

pub returns-clause-later : goal.returns-clause-later
returns-clause-later c = λ is up.
    let same : c.args.a.position ≡ c.args.b.position = grind (arith, ints, to_z-of_z) in
    let le = up.1 same in
    grind (arith, ints, to_z-of_z)
