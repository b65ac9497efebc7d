-- How far two logs are the same.
use Rattle.std.specs.Prelude.{ℕ, suc, Bool, ◌&&◌, nat_lt, if◌then◌else◌, [], ◌∷◌, Option, Some, None, bytes_eq}
use Rattle.std.specs.Ordering.{int_eq}
use Rattle.cl_base.specs.declared.entry.Entry.{Entry}
use Rattle.entry_log.specs.Log.{Log}
use Rattle.cluster_tool.specs.declared.compare.Outcome.{Outcome}
use Rattle.cluster_tool.specs.declared.compare.Outcome.TheVariants as outcome
use Rattle.cluster_tool.specs.declared.compare.Comparison.{Comparison}

-- of one term, with the same bytes
abbrev pub is_same : Entry → Entry → Bool
is_same a b = int_eq a.term b.term && bytes_eq a.bytes b.bytes

-- two entries behind so many in common, where they differ
abbrev pub differing : Entry → Entry → ℕ → Option Comparison
differing a b n = if is_same a b then None else Some (record { common = n; outcome = outcome.Differ a.term b.term })

-- one of two logs is longer, or neither
abbrev pub longer : ℕ → ℕ → Outcome
longer first second = if nat_lt second first then outcome.FirstLonger else (if nat_lt first second then outcome.SecondLonger else outcome.Equal)

abbrev pub differ_or : Option Comparison → Comparison → Comparison
differ_or None same = same
differ_or (Some c) same = c

-- how far these are the same, behind so many entries in common
abbrev pub compared_from : ℕ → Log → Log → Comparison
compared_from n [] [] = record { common = n; outcome = outcome.Equal }
compared_from n [] (b ∷ others) = record { common = n; outcome = outcome.SecondLonger }
compared_from n (a ∷ rest) [] = record { common = n; outcome = outcome.FirstLonger }
compared_from n (a ∷ rest) (b ∷ others) = differ_or (differing a b n) (compared_from (suc n) rest others)

-- how many entries two logs have in common, from the front, and what comes behind these
abbrev pub compared : Log → Log → Comparison
compared first second = compared_from 0 first second
