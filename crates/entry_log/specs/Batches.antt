-- Which entries make one batch.
use Rattle.std.specs.Prelude.{ℕ, Bool, true, ◌&&◌, ◌||◌, [], ◌∷◌, length, sum, ◌-◌, ◌/◌, ◌==◌, nat_le}
use Rattle.entry_log.specs.Log.{end_after}
use Rattle.entry_log.specs.Shape.{Shape, lens_of}

-- the segment of 65,536 bytes in which an entry that ends here stands
abbrev pub segment_of : ℕ → ℕ
segment_of end = (end - 1) / 65536

-- all of these entries, written from place p, stand in this segment
abbrev pub all_in : ℕ → ℕ → Shape → Bool
all_in segment p [] = true
all_in segment p (x ∷ xs) = (segment_of (end_after p x.len) == segment) && all_in segment (end_after p x.len) xs

abbrev pub in_one_segment : ℕ → Shape → Bool
in_one_segment p [] = true
in_one_segment p (x ∷ xs) = all_in (segment_of (end_after p x.len)) (end_after p x.len) xs

-- Entries that are written from place p are one batch: at most 64 in one segment, with 8,192 bytes of events or a single entry.
abbrev pub is_batch : ℕ → Shape → Bool
is_batch p xs = nat_le (length xs) 64 && ((nat_le (length xs) 1 || nat_le (sum (lens_of xs)) 8192) && in_one_segment p xs)
