-- What was read of a source.
use Rattle.std.proofs.Common.{◌≡◌, ℕ, List, ◌++◌, length, sym, ◌∙◌, ap, append-nil}
use Rattle.std.proofs.lemmas.List.{nil_from_length}

-- nothing is left, so what was read is all
pub all_read : (bytes left all : List ℕ) → bytes ++ left ≡ all → length left ≡ 0 → bytes ≡ all
all_read bytes left all parts none = sym (append-nil bytes) ∙ ap (λ ys. bytes ++ ys) (sym (nil_from_length left none)) ∙ parts
