-- Which log is better.
use Rattle.std.proofs.Common.{◌≡◌, ◌⊎◌, ℕ, ◌≤◌, false, arith, ℤ, ◌<ℤ◌}
use Rattle.std.proofs.lemmas.Int.{ints}
use Rattle.std.proofs.lemmas.Bool.Decides.{nat_tests}
use Rattle.entry_log.specs.Log.{better}

pub better-self : (t : ℤ) (p : ℕ) → better t p t p ≡ false
better-self t p = grind (arith, ints, nat_tests)

-- the other is as good
pub better-not : (t1 : ℤ) (p1 : ℕ) (t2 : ℤ) (p2 : ℕ) → better t1 p1 t2 p2 ≡ false → (t1 <ℤ t2) ⊎ ((t1 ≡ t2) × (p1 ≤ p2))
better-not t1 p1 t2 p2 h = grind (arith, ints, nat_tests)
