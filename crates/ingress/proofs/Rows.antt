-- The rows of the table of outcomes, read backwards: where none applies, each test is false.
use Rattle.std.proofs.Common.{◌≡◌, ℕ, ◌≤◌, Bool, true, false, cond, not, ltb, List, [], ◌∷◌, Option, Some, None, refl, arith}
use Rattle.std.specs.List.{AllByRecursion}
use Rattle.std.proofs.lemmas.Bool.Decides.{nat_tests}
use Rattle.ingress.specs.declared.outcome.Outcome.{Outcome}
use Rattle.ingress.specs.Outcomes.{Rows, first_row}

one_row : (b : Bool) (o : Outcome) (x : Option Outcome) → cond b (Some o) x ≡ None → (b ≡ false) × (x ≡ None)
one_row true o x e = absurd cc
one_row false o x e = (refl, e)

-- where no row applies, each test is false
pub none_applies : (rows : Rows) → first_row rows ≡ None → AllByRecursion (λ (r : Bool × Outcome). r.0 ≡ false) rows
none_applies [] e = tt
none_applies (r ∷ rs) e = let h = one_row r.0 r.1 (first_row rs) e in (h.0, none_applies rs h.1)

pub leads : (b : Bool) → not b ≡ false → b ≡ true
leads true e = refl
leads false e = absurd cc

pub short : (n limit : ℕ) → ltb limit n ≡ false → n ≤ limit
short n limit e = grind (arith, nat_tests)
