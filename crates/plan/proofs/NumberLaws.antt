-- Numbers, digit by digit.
use Rattle.std.proofs.Common.{◌≡◌, ℕ, ◌<◌, ◌+◌, ◌*◌, min, Bool, true, List, length, get_or, arith, inl, inr}
use Rattle.std.specs.List.{list_all}
use Rattle.std.specs.Char.{is_ascii_digit}
use Rattle.std.proofs.lemmas.Bool.{cases_Bool}
use Rattle.std.proofs.lemmas.List.Folds.{list_all_at}

all_at : (p : ℕ → Bool) (xs : List ℕ) (i : ℕ) → i < length xs → list_all p xs ≡ true → p (get_or xs i 0) ≡ true
all_at p xs i lt all = elim (cases_Bool (p (get_or xs i 0))) [
  | inl on ↦ on
  | inr off ↦ let h = list_all_at p xs i 0 lt off in cc
]

pub digit_at : (word : List ℕ) (i : ℕ) → i < length word → list_all is_ascii_digit word ≡ true → is_ascii_digit (get_or word i 0) ≡ true
digit_at word i lt all = all_at is_ascii_digit word i lt all

-- one digit more, where a number above the greatest counts as it
pub saturated : (most w v d : ℕ) → v ≡ min w most → min (min (v * 10) most + d) most ≡ min (w * 10 + d) most
saturated most w v d e = omega arith
