-- The first line of a text.
use Rattle.std.proofs.Common.{◌≡◌, ℕ, ◌<◌, ◌≤◌, ◌+◌, Bool, List, [], ◌∷◌, length, take, drop, refl, ap, ◌∙◌, sym, arith, inl, inr, Some, None}
use Rattle.std.specs.Prelude.{position, nat_lt}
use Rattle.std.specs.List.{slice_split, onto_first, position_or_len}
use Rattle.std.proofs.lemmas.Bool.{cases_Bool, ltb-true, ltb-false}
use Rattle.std.proofs.lemmas.Bool.Decides.{nat_tests}
use Rattle.std.proofs.lemmas.List.Splits.{slice_split_first, length-slice_split, slice_split-cons_no}
use Rattle.scenario.specs.Lines.{lines, ended_lines, is_feed, without_return}

split_none : (p : ℕ → Bool) (xs : List ℕ) → length xs ≤ position_or_len p xs → slice_split p xs ≡ xs ∷ []
split_none p [] le = refl
split_none p (x ∷ xs) le = elim (cases_Bool (p x)) [
  | inl on ↦ absurd (let h = rw on at le in omega arith)
  | inr off ↦ slice_split-cons_no p x xs off ∙ ap (onto_first x) (split_none p xs (let h = rw off at le in omega arith))
]

pub ended_cons : (part : List ℕ) (parts : List (List ℕ)) → 0 < length parts → ended_lines (part ∷ parts) ≡ without_return part ∷ ended_lines parts
ended_cons part [] lt = absurd (omega arith)
ended_cons part (next ∷ parts) lt = refl

place_some : (p : ℕ → Bool) (xs : List ℕ) (at : ℕ) → position p xs ≡ Some at → (at ≡ position_or_len p xs) × (position_or_len p xs < length xs)
place_some p xs at e = elim (cases_Bool (nat_lt (position_or_len p xs) (length xs))) [
  | inl on ↦ (let h = rw on at e in cc, ltb-true (position_or_len p xs) (length xs) on)
  | inr off ↦ let h = rw off at e in cc
]

place_none : (p : ℕ → Bool) (xs : List ℕ) → position p xs ≡ None → length xs ≤ position_or_len p xs
place_none p xs e = elim (cases_Bool (nat_lt (position_or_len p xs) (length xs))) [
  | inl on ↦ let h = rw on at e in cc
  | inr off ↦ ltb-false (position_or_len p xs) (length xs) off
]

-- a line that a line feed ends
pub line_at : (text : List ℕ) (at : ℕ) → Some at ≡ position is_feed text → lines text ≡ without_return (take at text) ∷ lines (drop (at + 1) text)
unfolding lines
line_at text at e =
    let place = place_some is_feed text at (sym e) in
    let rest = slice_split is_feed (drop (position_or_len is_feed text + 1) text) in
    let more : 0 < length rest = omega (arith, length-slice_split is_feed (drop (position_or_len is_feed text + 1) text)) in
    rw (place.0) (ap ended_lines (slice_split_first is_feed text 0 place.1) ∙ ended_cons (take (position_or_len is_feed text) text) rest more)

one_line : (text : List ℕ) → 0 < length text → ended_lines (text ∷ []) ≡ text ∷ []
one_line [] lt = absurd (omega arith)
one_line (b ∷ text) lt = grind (arith, nat_tests)

-- a last line without one
pub line_last : (text : List ℕ) → None ≡ position is_feed text → 0 < length text → lines text ≡ text ∷ lines []
unfolding lines
line_last text e lt = ap ended_lines (split_none is_feed text (place_none is_feed text (sym e))) ∙ one_line text lt
