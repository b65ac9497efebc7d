-- Reading on, line by line.
use Rattle.std.proofs.Common.{◌≡◌, ℕ, ◌+◌, List, [], ◌∷◌, length, refl, arith, Ok, Err, true}
use Rattle.std.specs.Prelude.{◌==◌}
use Rattle.std.proofs.lemmas.Bool.{eqb-true}
use Rattle.scenario.specs.declared.fault.Cause.{Cause}
use Rattle.scenario.specs.declared.order.Order.{Order}
use Rattle.scenario.specs.Lines.{lines}
use Rattle.scenario.specs.Orders.{told_by, read_from, orders_after, refused_at, at_end}

pub nothing : (xs : List ℕ) → (length xs == 0) ≡ true → xs ≡ []
nothing [] e = refl
nothing (x ∷ xs) e = absurd (omega (arith, eqb-true (length (x ∷ xs)) 0 e))

-- behind the last line
pub read_done : (before : List Order) (n : ℕ) → read_from before n (lines []) ≡ record { orders = before; fault = at_end n (told_by before) }
unfolding read_from lines
read_done before n = refl

-- one line more
pub read_step : (before after : List Order) (n : ℕ) (line : List ℕ) (rest : List (List ℕ)) → orders_after before n line ≡ Ok after → read_from before n (line ∷ rest) ≡ read_from after (n + 1) rest
unfolding read_from
read_step before after n line rest e = rw (e, read_from) refl

-- the first faulty line
pub read_fault : (before : List Order) (n : ℕ) (line : List ℕ) (rest : List (List ℕ)) (c : Cause) → orders_after before n line ≡ Err c → read_from before n (line ∷ rest) ≡ refused_at n c before
unfolding read_from
read_fault before n line rest c e = rw (e, read_from) refl
