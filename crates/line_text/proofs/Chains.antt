-- What stands on a page after several pieces were put behind it.
use Rattle.std.proofs.Common.{◌≡◌, ℕ, List, ◌++◌, ◌∙◌, ap, append_assoc}

-- two pieces, the first of which may be several
pub joined : (s r t a b : List ℕ) → r ≡ s ++ a → t ≡ r ++ b → t ≡ s ++ (a ++ b)
joined s r t a b first then = then ∙ ap (λ ys. ys ++ b) first ∙ append_assoc s a b
