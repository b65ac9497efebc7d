-- The shape of a log: of each entry its term and the length of its event. All places and terms follow from it.
use Rattle.std.specs.Prelude.{◌≡◌, ℕ, ℤ, negsuc, ◌≤ℤ◌, Bool, false, ◌||◌, List, [], ◌∷◌, length, map, ◌+◌, nat_le, int_le, if◌then◌else◌, refl, ⊤}
use Rattle.cl_base.specs.declared.entry.Entry.{Entry}
use Rattle.entry_log.specs.Log.{Log, end_after, same_term, place_from, last_from}

pub record EntryShape : Type 0 where
  pub term : ℤ
  pub len : ℕ

abbrev pub Shape : Type 0
Shape = List EntryShape

abbrev pub entry_shape : Entry → EntryShape
entry_shape e = record { term = e.term; len = length e.bytes }

abbrev pub shape_of : Log → Shape
shape_of log = map entry_shape log

abbrev pub lens_of : Shape → List ℕ
lens_of xs = map (λ (x : EntryShape). x.len) xs

-- the place of a log of this shape that is written from place p
abbrev pub end_from : ℕ → Shape → ℕ
end_from p [] = p
end_from p (x ∷ xs) = end_from (end_after p x.len) xs

-- where a log of this shape ends
abbrev pub end_of : Shape → ℕ
end_of xs = end_from 0 xs

abbrev pub last_term_from : ℤ → Shape → ℤ
last_term_from t [] = t
last_term_from t (x ∷ xs) = last_term_from x.term xs

-- the term of the last entry, -1 where there is none
abbrev pub last_term_of : Shape → ℤ
last_term_of xs = last_term_from (negsuc 0) xs

abbrev pub ends_by_from : ℕ → ℕ → Shape → ℕ
ends_by_from p at [] = 0
ends_by_from p at (x ∷ xs) = if nat_le (end_after p x.len) at then 1 + ends_by_from (end_after p x.len) at xs else 0

-- how many entries end at most at a place
abbrev pub ends_by : ℕ → Shape → ℕ
ends_by at xs = ends_by_from 0 at xs

abbrev pub has_term : ℤ → Shape → Bool
has_term t [] = false
has_term t (x ∷ xs) = same_term x.term t || has_term t xs

-- the log up to its last entry of this term, empty where it has none
abbrev pub up_to_last_of : ℤ → Shape → Shape
up_to_last_of t [] = []
up_to_last_of t (x ∷ xs) = if has_term t (x ∷ xs) then x ∷ up_to_last_of t xs else []

-- where the last entry of this term ends, 0 where there is none
abbrev pub end_of_term : ℤ → Shape → ℕ
end_of_term t xs = end_of (up_to_last_of t xs)

-- the longest prefix whose terms are at most t
abbrev pub terms_to : ℤ → Shape → Shape
terms_to t [] = []
terms_to t (x ∷ xs) = if int_le x.term t then x ∷ terms_to t xs else []

-- terms don't fall, from this one on
abbrev pub TermsRiseFrom : ℤ → Shape → Type 0
TermsRiseFrom t [] = ⊤
TermsRiseFrom t (x ∷ xs) = (t ≤ℤ x.term) × TermsRiseFrom x.term xs

-- the terms of a log of this shape don't fall
abbrev pub TermsRise : Shape → Type 0
TermsRise xs = TermsRiseFrom (negsuc 0) xs

-- Places and last terms of a log are those of its shape.
pub end_from-shape_of : (p : ℕ) (log : Log) → end_from p (shape_of log) ≡ place_from p log
end_from-shape_of p [] = refl
end_from-shape_of p (x ∷ xs) = end_from-shape_of (end_after p (length x.bytes)) xs

pub last_term_from-shape_of : (t : ℤ) (log : Log) → last_term_from t (shape_of log) ≡ last_from t log
last_term_from-shape_of t [] = refl
last_term_from-shape_of t (x ∷ xs) = last_term_from-shape_of x.term xs
