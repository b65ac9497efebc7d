-- What stands at each place of a file after a write.
use Rattle.std.proofs.Common.{◌≡◌, ◌⊎◌, inl, inr, ℕ, ◌+◌, ◌-◌, ◌<◌, ◌≤◌, List, [], ◌∷◌, ◌++◌, length, take, drop, get_or, ◌∙◌, ap, arith, length-append, length-take}
use Rattle.std.proofs.lemmas.Bool.{cases_lt}
use Rattle.std.proofs.lemmas.List.{get_or_append_left, get_or-append_right}
use Rattle.cl_base.specs.Disk.{overwritten}
use Rattle.cl_base.specs.Images.{length-overwritten, overwritten_other}
use Rattle.cl_base.specs.Torn.{Torn}

-- what is written stands there, byte by byte
pub overwritten_inside : (at : ℕ) (bytes file : List ℕ) (i j : ℕ) → at ≤ length file → at + j ≡ i → j < length bytes → get_or (overwritten at bytes file) i 0 ≡ get_or bytes j 0
overwritten_inside at bytes file i j le is within =
    let front : length (take at file) ≡ at = omega (arith, length-take at file) in
    let rest : i - at ≡ j = omega arith in
    get_or_append_left (take at file ++ bytes) (drop (at + length bytes) file) 0 i (omega (arith, length-append (take at file) bytes, front))
    ∙ get_or-append_right (take at file) bytes at i 0 front (omega arith) ∙ ap (λ k. get_or bytes k 0) rest

pub get_or-written_one : (at b : ℕ) (file : List ℕ) → at ≤ length file → get_or (overwritten at (b ∷ []) file) at 0 ≡ b
get_or-written_one at b file le = overwritten_inside at (b ∷ []) file at 0 le (omega arith) (omega arith)

-- a write that was done is one that was torn
pub torn_overwritten : (at : ℕ) (bytes file : List ℕ) → at ≤ length file → Torn at (length bytes) file (overwritten at bytes file)
torn_overwritten at bytes file le =
    let len = length-overwritten at bytes file le in
    record { no_shorter = omega (arith, len); no_longer = omega (arith, len); same = λ i within out. overwritten_other at bytes file i le out }

-- a place that isn't in a range is before it or behind it
pub apart : (at n i : ℕ) → (at ≤ i → i < at + n → ⊥) → i < at ⊎ at + n ≤ i
apart at n i out = elim (cases_lt i at) [
  | inl below ↦ inl below
  | inr from ↦ elim (cases_lt i (at + n)) [ inl inside ↦ absurd (out from inside) | inr above ↦ inr above ]
]
