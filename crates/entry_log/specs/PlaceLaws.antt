-- Places don't fall along a log.
use Rattle.std.proofs.Common.{ℕ, ◌≤◌, [], ◌∷◌, arith}
use Rattle.std.proofs.lemmas.Bool.Decides.{nat_tests}
use Rattle.entry_log.specs.Log.{end_after}
use Rattle.entry_log.specs.Shape.{Shape, end_from}

-- an entry doesn't end before the place where it is written
pub end_after-up : (p n : ℕ) → p ≤ end_after p n
unfolding end_after
end_after-up p n = grind (arith, nat_tests)

pub end_from-up : (p : ℕ) (xs : Shape) → p ≤ end_from p xs
end_from-up p [] = omega arith
end_from-up p (x ∷ xs) = let a = end_after-up p x.len in let b = end_from-up (end_after p x.len) xs in omega (arith, a, b)
