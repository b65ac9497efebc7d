-- The lines of a text.
use Rattle.std.specs.Prelude.{ℕ, ◌-◌, ◌==◌, Bool, ◌&&◌, ◌||◌, nat_le, List, [], ◌∷◌, length, take, slice_index, if◌then◌else◌}
use Rattle.std.specs.List.{slice_split}

-- a line feed
abbrev pub is_feed : ℕ → Bool
is_feed b = b == 10

-- a line that a line feed ends, without the one carriage return that may stand right before it
abbrev pub without_return : List ℕ → List ℕ
without_return line = if slice_index line (length line - 1) == 13 then take (length line - 1) line else line

-- Of the parts between line feeds each but the last is a line that a line feed ends. The last is a line where it has a byte.
abbrev pub ended_lines : List (List ℕ) → List (List ℕ)
ended_lines [] = []
ended_lines (part ∷ []) = if length part == 0 then [] else part ∷ []
ended_lines (part ∷ next ∷ parts) = without_return part ∷ ended_lines (next ∷ parts)

-- the lines of a text, in order
unfoldable pub lines : List ℕ → List (List ℕ)
lines text = ended_lines (slice_split is_feed text)

-- an empty line or a comment, which is never looked at
abbrev pub is_skipped : List ℕ → Bool
is_skipped line = length line == 0 || slice_index line 0 == 35

-- a byte that may stand in any other line
abbrev pub is_plain : ℕ → Bool
is_plain b = nat_le 32 b && nat_le b 126
