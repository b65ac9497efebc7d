-- Each value has one spelling: what a text spells is printed as that text.
use Rattle.std.proofs.Common.{◌≡◌, ℕ, ◌<◌, ◌+◌, ◌-◌, ◌*◌, ◌/◌, ◌%◌, ◌^◌, min, true, not, List, [], ◌∷◌, ◌++◌, length, take, drop, get_or, refl, ap, ◌∙◌, sym, arith, inl, inr, Some, None, Option, Result, Ok, Err, subst, append_assoc, add-one}
use Rattle.std.specs.Prelude.{position, nat_lt, nat_le, ◌==◌, ◌&&◌, flat_map, decimal}
use Rattle.std.specs.List.{list_all}
use Rattle.std.specs.Char.{is_ascii_digit}
use Rattle.std.specs.Str.{all_ascii_digits}
use Rattle.std.specs.Str.Parse.{digits_value}
use Rattle.std.proofs.lemmas.Bool.{cases_Bool, and_parts, ltb-true, leb-true, eqb-true, le-ltb, lt-ltb}
use Rattle.std.proofs.lemmas.Bool.Decides.{nat_tests}
use Rattle.std.proofs.lemmas.Fmt.{decimal-digits_value}
use Rattle.std.proofs.lemmas.Str.Parse.{tells_all_ascii_digits, numerals_by_value}
use Rattle.std.proofs.lemmas.List.Quantifiers.{position-Some}
use Rattle.std.proofs.lemmas.List.{take-append-drop}
use Rattle.std.proofs.Math.Seq.{drop-cons}
use Rattle.scenario.specs.declared.fault.Cause.{Cause}
use Rattle.scenario.specs.Result.{◌>>=◌}
use Rattle.scenario.specs.Words.{is_space, cut_word, parted, is_numeral, number, word_and_rest, number_and_rest, two_numbers, two_and_rest, hex_digit, hex_byte, hex_pairs}
use Rattle.scenario.specs.Printing.{glyph, byte_text, two_text}

-- what a chain that ended well went through
pub bind_ok : {A B : Type 0} (r : Result A Cause) (f : A → Result B Cause) (y : B) → (r >>= f) ≡ Ok y → (x : A) × (r ≡ Ok x) × (f x ≡ Ok y)
bind_ok (Ok x) f y e = (x, refl, e)
bind_ok (Err c) f y e = cc

same_digits : (word : List ℕ) → list_all is_ascii_digit word ≡ true → all_ascii_digits word ≡ true
same_digits [] e = refl
same_digits (b ∷ word) e = let parts = and_parts (is_ascii_digit b) (list_all is_ascii_digit word) e in rw (parts.0, same_digits word parts.1) refl

numeral_first : (word : List ℕ) → is_numeral word ≡ true → get_or word 0 0 ≡ 48 → length word ≡ 1
numeral_first word e zero_first =
    let outer = and_parts _ _ e in
    let inner = and_parts (nat_lt 0 (length word)) (not (nat_lt 1 (length word) && (get_or word 0 0 == 48))) outer.0 in
    grind (arith, nat_tests)

numeral_nonempty : (word : List ℕ) → is_numeral word ≡ true → 0 < length word
numeral_nonempty word e =
    let outer = and_parts _ _ e in
    let inner = and_parts (nat_lt 0 (length word)) (not (nat_lt 1 (length word) && (get_or word 0 0 == 48))) outer.0 in
    ltb-true 0 (length word) inner.0

pub number_text : (word : List ℕ) (n : ℕ) → number word ≡ Ok n → n < 2 ^ 64 - 1 → decimal n ≡ word
unfolding number
number_text word n e small = elim (cases_Bool (is_numeral word)) [
  | inl on ↦
      let h = rw on at e in
      let at : min (digits_value 10 word) (2 ^ 64 - 1) ≡ n = cc in
      let value : digits_value 10 word ≡ n = omega arith in
      let digits : all_ascii_digits word ≡ true = same_digits word (and_parts (nat_lt 0 (length word) && not (nat_lt 1 (length word) && (get_or word 0 0 == 48))) (list_all is_ascii_digit word) on).1 in
      ap decimal (sym value) ∙ decimal-digits_value (numerals_by_value _ tells_all_ascii_digits) word digits (numeral_nonempty word on) (numeral_first word on) (omega arith)
  | inr off ↦ let h = rw off at e in cc
]

cut_at : (text : List ℕ) (parts : List ℕ × List ℕ) (place : Option ℕ) → position is_space text ≡ place → parted text place ≡ Some parts → parts.0 ++ 32 ∷ parts.1 ≡ text
cut_at text parts None p e = cc
cut_at text parts (Some i) p e =
    let found = position-Some is_space text i 0 p in
    let lt : i < length text = found.0 in
    let space : get_or text i 0 ≡ 32 = eqb-true (get_or text i 0) 32 found.1 in
    let back : drop i text ≡ get_or text i 0 ∷ drop (i + 1) text = rw (add-one, drop-cons text i 0) refl in
    let whole : take i text ++ 32 ∷ drop (i + 1) text ≡ text = ap (λ b. take i text ++ b ∷ drop (i + 1) text) (sym space) ∙ ap (λ r. take i text ++ r) (sym back) ∙ take-append-drop i text in
    let same : (take i text, drop (i + 1) text) ≡ parts = cc in
    subst (λ (x : List ℕ × List ℕ). x.0 ++ 32 ∷ x.1 ≡ text) same whole

-- the text around its first space
pub cut_text : (text : List ℕ) (parts : List ℕ × List ℕ) → cut_word text ≡ Some parts → parts.0 ++ 32 ∷ parts.1 ≡ text
unfolding cut_word
cut_text text parts e = cut_at text parts (position is_space text) refl e

word_at : (text : List ℕ) (parts : List ℕ × List ℕ) (cut : Option (List ℕ × List ℕ)) → cut_word text ≡ cut → word_and_rest text ≡ Ok parts → cut_word text ≡ Some parts
unfolding word_and_rest
word_at text parts None c e = let h = rw (c, word_and_rest) at e in cc
word_at text parts (Some ps) c e = let h = rw (c, word_and_rest) at e in cc

pub number_and_rest_text : (text : List ℕ) (p : ℕ × List ℕ) → number_and_rest text ≡ Ok p → p.0 < 2 ^ 64 - 1 → decimal p.0 ++ 32 ∷ p.1 ≡ text
unfolding number_and_rest
number_and_rest_text text p e small =
    let word = bind_ok (word_and_rest text) _ p e in
    let n = bind_ok (number word.0.0) _ p word.2 in
    let same : (n.0, word.0.1) ≡ p = cc in
    let fits : n.0 < 2 ^ 64 - 1 = subst (λ (x : ℕ × List ℕ). x.0 < 2 ^ 64 - 1) (sym same) small in
    let whole : decimal n.0 ++ 32 ∷ word.0.1 ≡ text = ap (λ w. w ++ 32 ∷ word.0.1) (number_text word.0.0 n.0 n.1 fits) ∙ cut_text text word.0 (word_at text word.0 (cut_word text) refl word.1) in
    subst (λ (x : ℕ × List ℕ). decimal x.0 ++ 32 ∷ x.1 ≡ text) same whole

pub two_numbers_text : (text : List ℕ) (p : ℕ × ℕ) → two_numbers text ≡ Ok p → p.0 < 2 ^ 64 - 1 → p.1 < 2 ^ 64 - 1 → two_text p.0 p.1 ≡ text
unfolding two_numbers
two_numbers_text text p e small0 small1 =
    let first = bind_ok (number_and_rest text) _ p e in
    let second = bind_ok (number first.0.1) _ p first.2 in
    let same : (first.0.0, second.0) ≡ p = cc in
    let fits0 : first.0.0 < 2 ^ 64 - 1 = subst (λ (x : ℕ × ℕ). x.0 < 2 ^ 64 - 1) (sym same) small0 in
    let fits1 : second.0 < 2 ^ 64 - 1 = subst (λ (x : ℕ × ℕ). x.1 < 2 ^ 64 - 1) (sym same) small1 in
    let whole : two_text first.0.0 second.0 ≡ text = ap (λ r. decimal first.0.0 ++ 32 ∷ r) (number_text first.0.1 second.0 second.1 fits1) ∙ number_and_rest_text text first.0 first.1 fits0 in
    subst (λ (x : ℕ × ℕ). two_text x.0 x.1 ≡ text) same whole

pub two_and_rest_text : (text : List ℕ) (p : ℕ × ℕ × List ℕ) → two_and_rest text ≡ Ok p → p.0 < 2 ^ 64 - 1 → p.1 < 2 ^ 64 - 1 → two_text p.0 p.1 ++ 32 ∷ p.2 ≡ text
unfolding two_and_rest
two_and_rest_text text p e small0 small1 =
    let first = bind_ok (number_and_rest text) _ p e in
    let second = bind_ok (number_and_rest first.0.1) _ p first.2 in
    let same : (first.0.0, second.0.0, second.0.1) ≡ p = cc in
    let fits0 : first.0.0 < 2 ^ 64 - 1 = subst (λ (x : ℕ × ℕ × List ℕ). x.0 < 2 ^ 64 - 1) (sym same) small0 in
    let fits1 : second.0.0 < 2 ^ 64 - 1 = subst (λ (x : ℕ × ℕ × List ℕ). x.1 < 2 ^ 64 - 1) (sym same) small1 in
    let whole : two_text first.0.0 second.0.0 ++ 32 ∷ second.0.1 ≡ text =
    append_assoc (decimal first.0.0) (32 ∷ decimal second.0.0) (32 ∷ second.0.1)
    ∙ ap (λ r. decimal first.0.0 ++ 32 ∷ r) (number_and_rest_text first.0.1 second.0 second.1 fits1) ∙ number_and_rest_text text first.0 first.1 fits0 in
    subst (λ (x : ℕ × ℕ × List ℕ). two_text x.0 x.1 ++ 32 ∷ x.2 ≡ text) same whole

-- hexadecimal
pub digit_text : (b v : ℕ) → hex_digit b ≡ Ok v → (glyph v ≡ b) × (v < 16)
unfolding hex_digit
digit_text b v e = elim (cases_Bool (nat_le 48 b && nat_le b 57)) [
  | inl on ↦
      let h = rw on at e in
      let is : b - 48 ≡ v = cc in
      let ends = and_parts (nat_le 48 b) (nat_le b 57) on in
      let low = leb-true 48 b ends.0 in
      let high = leb-true b 57 ends.1 in
      (rw (lt-ltb v 10 (omega arith)) (omega arith), omega arith)
  | inr off ↦
      let h = rw off at e in
      elim (cases_Bool (nat_le 97 b && nat_le b 102)) [
        | inl on ↦
            let h = rw on at h in
            let is : b - 87 ≡ v = cc in
            let ends = and_parts (nat_le 97 b) (nat_le b 102) on in
            let low = leb-true 97 b ends.0 in
            let high = leb-true b 102 ends.1 in
            (rw (le-ltb v 10 (omega arith)) (omega arith), omega arith)
        | inr none ↦ let h = rw none at h in cc
      ]
]

pub hex_byte_text : (a b x : ℕ) → hex_byte a b ≡ Ok x → byte_text x ≡ a ∷ b ∷ []
unfolding hex_byte
hex_byte_text a b x e =
    let high = bind_ok (hex_digit a) _ x e in
    let low = bind_ok (hex_digit b) _ x high.2 in
    let is : 16 * high.0 + low.0 ≡ x = cc in
    let first = digit_text a high.0 high.1 in
    let second = digit_text b low.0 low.1 in
    let quotient : x / 16 ≡ high.0 = omega (arith, second.1) in
    let remainder : x % 16 ≡ low.0 = omega (arith, second.1) in
    rw (quotient, remainder) (ap (λ d. d ∷ glyph low.0 ∷ []) first.0 ∙ ap (λ d. a ∷ d ∷ []) second.0)

pub hex_pairs_text : (text bytes : List ℕ) → hex_pairs text ≡ Ok bytes → flat_map byte_text bytes ≡ text
hex_pairs_text [] bytes e = let is : [] ≡ bytes = cc in subst (λ (x : List ℕ). flat_map byte_text x ≡ []) is refl
hex_pairs_text (a ∷ []) bytes e = cc
hex_pairs_text (a ∷ b ∷ rest) bytes e =
    let first = bind_ok (hex_byte a b) _ bytes e in
    let others = bind_ok (hex_pairs rest) _ bytes first.2 in
    let is : first.0 ∷ others.0 ≡ bytes = cc in
    let whole : flat_map byte_text (first.0 ∷ others.0) ≡ a ∷ b ∷ rest = ap (λ t. t ++ flat_map byte_text others.0) (hex_byte_text a b first.0 first.1) ∙ ap (λ t. a ∷ b ∷ t) (hex_pairs_text rest others.0 others.1) in
    subst (λ (x : List ℕ). flat_map byte_text x ≡ a ∷ b ∷ rest) is whole
