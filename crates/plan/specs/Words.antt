-- Which lists of words ask for what.
use Rattle.std.specs.Prelude.{ℕ, ◌≤◌, ⊤, ◌==◌, nat_lt, nat_le, Bool, not, ◌&&◌, if◌then◌else◌, List, [], ◌∷◌, length, slice_index, codes, Option, Some, None, bytes_eq, option_map}
use Rattle.std.specs.Char.{is_ascii_digit}
use Rattle.std.specs.List.{list_all, position_or_len, before_first, after_first}
use Rattle.std.specs.Str.Parse.{digits_value}
use Rattle.plan.specs.declared.asked.Asked.{Asked}
use Rattle.plan.specs.declared.asked.Asked.TheVariants as asked
use Rattle.plan.specs.declared.words.Plan.{Plan}
use Rattle.plan.specs.declared.words.Plan.TheVariants as plans

abbrev pub Words : Type 0
Words = List (List ℕ)

-- decimal digits, the first of which isn't 0
abbrev pub is_numeral : List ℕ → Bool
is_numeral word = nat_lt 0 (length word) && not (slice_index word 0 == 48) && list_all is_ascii_digit word

-- how many messages: 1 to 20,000, without a sign and without a leading zero
unfoldable pub number_of : List ℕ → Option ℕ
number_of word = if is_numeral word && nat_le 1 (digits_value 10 word) && nat_le (digits_value 10 word) 20000 then Some (digits_value 10 word) else None

-- a folder has a name that doesn't begin with a dash
abbrev pub is_dir : List ℕ → Bool
is_dir word = nat_lt 0 (length word) && not (slice_index word 0 == 45)

abbrev pub is_equals : ℕ → Bool
is_equals b = b == 61

-- `--dir=D`
unfoldable pub joined_dir : List ℕ → Option (List ℕ)
joined_dir word =
    if nat_lt (position_or_len is_equals word) (length word) && bytes_eq (before_first is_equals word) (codes "--dir") && is_dir (after_first is_equals word)
    then Some (after_first is_equals word) else None

-- `--dir D`
unfoldable pub spaced_dir : List ℕ → List ℕ → Option (List ℕ)
spaced_dir option dir = if bytes_eq option (codes "--dir") && is_dir dir then Some dir else None

-- the folder that all of these words name
abbrev pub dir_of : Words → Option (List ℕ)
dir_of [] = None
dir_of (word ∷ []) = joined_dir word
dir_of (option ∷ dir ∷ []) = spaced_dir option dir
dir_of (first ∷ second ∷ third ∷ others) = None

-- `run`, with or without a folder
abbrev pub run_plan : Words → Option Plan
run_plan [] = Some (plans.Run None)
run_plan (word ∷ words) = option_map (λ d. plans.Run (Some d)) (dir_of (word ∷ words))

abbrev pub check_plan : Words → Option Plan
check_plan [] = Some plans.Check
check_plan (word ∷ words) = None

abbrev pub make_in : Option ℕ → Option (List ℕ) → Option Plan
make_in None dir = None
make_in (Some n) dir = option_map (λ d. plans.Make n (Some d)) dir

abbrev pub make_alone : Option ℕ → Option Plan
make_alone n = option_map (λ k. plans.Make k None) n

abbrev pub or_else : Option Plan → Option Plan → Option Plan
or_else None other = other
or_else (Some p) other = Some p

-- `make N`, alone, with a folder behind the number or with one before it
abbrev pub make_plan : Words → Option Plan
make_plan [] = None
make_plan (n ∷ []) = make_alone (number_of n)
make_plan (a ∷ b ∷ []) = or_else (make_in (number_of a) (joined_dir b)) (make_in (number_of b) (joined_dir a))
make_plan (a ∷ b ∷ c ∷ []) = or_else (make_in (number_of a) (spaced_dir b c)) (make_in (number_of c) (spaced_dir a b))
make_plan (a ∷ b ∷ c ∷ d ∷ others) = None

-- what the words ask for, None where they aren't those of a command
abbrev pub plan_of : Words → Option Plan
plan_of [] = None
plan_of (word ∷ words) =
    if bytes_eq word (codes "run") then run_plan words
    else (if bytes_eq word (codes "check") then check_plan words
    else (if bytes_eq word (codes "make") then make_plan words else None))

-- what was read in place
abbrev pub plan_from : Asked → Plan
plan_from (asked.Run dir) = plans.Run (option_map (λ d. d.now) dir)
plan_from asked.Check = plans.Check
plan_from (asked.Make n dir) = plans.Make n (option_map (λ d. d.now) dir)

-- a generated scenario has 1 to 20,000 messages
abbrev pub IsMade : ℕ → Type 0
IsMade n = (1 ≤ n) × (n ≤ 20000)

abbrev pub AsksWithin : Option Plan → Type 0
AsksWithin None = ⊤
AsksWithin (Some (plans.Run dir)) = ⊤
AsksWithin (Some plans.Check) = ⊤
AsksWithin (Some (plans.Make n dir)) = IsMade n
