-- The pieces of which printed lines are made.
use Rattle.std.specs.Prelude.{ℕ, ℤ, List, [], ◌∷◌, ◌++◌, codes}
use Rattle.std.specs.Fmt.{decimal, signed_decimal}
use Rattle.hex.specs.Hex.{encode_lower}

-- bytes as pairs of lower case digits, or a dash where there are none
abbrev pub hex_text : List ℕ → List ℕ
hex_text [] = codes "-"
hex_text (b ∷ rest) = encode_lower (b ∷ rest)

-- how each line ends
abbrev pub newline : List ℕ
newline = 10 ∷ []

-- words, and a number behind them
abbrev pub count : List ℕ → ℕ → List ℕ
count words n = words ++ decimal n

-- words, and a signed number behind them
abbrev pub value : List ℕ → ℤ → List ℕ
value words n = words ++ signed_decimal n
