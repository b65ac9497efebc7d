-- Words, and what a word spells: a number, bytes, a choice, a service.
use Rattle.std.specs.Prelude.{ℕ, ◌+◌, ◌-◌, ◌*◌, ◌^◌, ◌==◌, min, Bool, not, ◌&&◌, nat_le, nat_lt, List, [], ◌∷◌, length, take, drop, slice_index, position, if◌then◌else◌, Option, Some, None, Result, Ok, Err, codes, bytes_eq}
use Rattle.std.specs.List.{list_all}
use Rattle.std.specs.Char.{is_ascii_digit}
use Rattle.std.specs.Str.Parse.{digits_value}
use Rattle.cl_base.specs.declared.disk.Choice.{Choice}
use Rattle.cl_base.specs.declared.disk.Choice.TheVariants.{Drop, Keep, Fill}
use Rattle.scenario.specs.declared.fault.Cause.{Cause}
use Rattle.scenario.specs.declared.fault.Cause.TheVariants.{Arguments}
use Rattle.scenario.specs.declared.order.Named.{Named}
use Rattle.scenario.specs.declared.order.Named.TheVariants.{Echo, Ledger, Ticker}
use Rattle.scenario.specs.Result.{◌>>=◌}

-- what separates words
abbrev pub is_space : ℕ → Bool
is_space b = b == 32

-- what stands before a place, and what stands behind the byte at that place
abbrev pub parted : List ℕ → Option ℕ → Option (List ℕ × List ℕ)
parted text None = None
parted text (Some i) = Some (take i text, drop (i + 1) text)

-- the text before its first space and the text behind it, where it has one
unfoldable pub cut_word : List ℕ → Option (List ℕ × List ℕ)
cut_word text = parted text (position is_space text)

-- decimal digits, of which the first is 0 only where there is no other
abbrev pub is_numeral : List ℕ → Bool
is_numeral word = nat_lt 0 (length word) && not (nat_lt 1 (length word) && slice_index word 0 == 48) && list_all is_ascii_digit word

-- The number that a word spells. One of more than 64 bits counts as the greatest of 64 bits: either is above every range.
unfoldable pub number : List ℕ → Result ℕ Cause
number word = if is_numeral word then Ok (min (digits_value 10 word) (2 ^ 64 - 1)) else Err Arguments

-- the word that must come, and the text behind its space
unfoldable pub word_and_rest : List ℕ → Result (List ℕ × List ℕ) Cause
word_and_rest text = elim (cut_word text) [ None ↦ Err Arguments | Some parts ↦ Ok parts ]

-- a number that must come, and the text behind its space
unfoldable pub number_and_rest : List ℕ → Result (ℕ × List ℕ) Cause
number_and_rest text = do
  word ← word_and_rest text
  n ← number word.0
  Ok (n, word.1)

-- two numbers
unfoldable pub two_numbers : List ℕ → Result (ℕ × ℕ) Cause
two_numbers text = do
  first ← number_and_rest text
  second ← number first.1
  Ok (first.0, second)

-- two numbers, and the text behind the space of the second
unfoldable pub two_and_rest : List ℕ → Result (ℕ × ℕ × List ℕ) Cause
two_and_rest text = do
  first ← number_and_rest text
  second ← number_and_rest first.1
  Ok (first.0, second.0, second.1)

-- the value of a hexadecimal digit, a letter being a small one
unfoldable pub hex_digit : ℕ → Result ℕ Cause
hex_digit b = if nat_le 48 b && nat_le b 57 then Ok (b - 48) else (if nat_le 97 b && nat_le b 102 then Ok (b - 87) else Err Arguments)

-- the byte of two digits
unfoldable pub hex_byte : ℕ → ℕ → Result ℕ Cause
hex_byte a b = do
  high ← hex_digit a
  low ← hex_digit b
  Ok (16 * high + low)

-- a byte for each two digits
abbrev pub hex_pairs : List ℕ → Result (List ℕ) Cause
hex_pairs [] = Ok []
hex_pairs (a ∷ []) = Err Arguments
hex_pairs (a ∷ b ∷ rest) = hex_byte a b >>= λ first. hex_pairs rest >>= λ others. Ok (first ∷ others)

-- the bytes that a text spells: none by a dash, else pairs of digits
unfoldable pub hex : List ℕ → Result (List ℕ) Cause
hex text = if length text == 0 then Err Arguments else (if bytes_eq text (codes "-") then Ok [] else hex_pairs text)

-- what a crash leaves
unfoldable pub choice : List ℕ → Result Choice Cause
choice text = if bytes_eq text (codes "drop") then Ok Drop else (if bytes_eq text (codes "keep") then Ok Keep else (if length text == 2 then (hex_byte (slice_index text 0) (slice_index text 1) >>= λ x. Ok (Fill x)) else Err Arguments))

-- a shipped service
unfoldable pub named : List ℕ → Result Named Cause
named text = if bytes_eq text (codes "echo") then Ok Echo else (if bytes_eq text (codes "ledger") then Ok Ledger else (if bytes_eq text (codes "ticker") then Ok Ticker else Err Arguments))
