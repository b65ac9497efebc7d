-- The line of each order of the generated scenario spells that order.
use Rattle.std.proofs.Common.{◌≡◌, ℕ, ◌<◌, ◌≤◌, ◌+◌, ◌-◌, ◌%◌, ◌^◌, min, get_or, Bool, true, false, not, List, [], ◌∷◌, ◌++◌, length, refl, ap, ◌∙◌, sym, arith, inl, inr, Some, Result, Ok, subst, append_assoc, length-append}
use Rattle.std.specs.Prelude.{nat_lt, nat_le, ◌==◌, ◌&&◌, position, codes, decimal}
use Rattle.std.specs.List.{list_all, position_or_len}
use Rattle.std.specs.Str.Parse.{AllDigits, digits_value}
use Rattle.std.specs.Char.{is_ascii_digit}
use Rattle.std.proofs.lemmas.Bool.{cases_Bool, and_parts, ltb-true, ltb-false, lt-ltb, le-ltb, le-leb, ne_eqb}
use Rattle.std.proofs.lemmas.Fmt.{decimal_digit, decimal_is_IsNumeral, first_decimal, length-decimal-le_succ}
use Rattle.std.proofs.lemmas.Str.Parse.{digit_from_value}
use Rattle.std.proofs.lemmas.List.Folds.{list_all-append}
use Rattle.std.proofs.Math.Nat.{mod-lt}
use Rattle.std.proofs.Math.Seq.{take-append_seam, drop-append-add}
use Rattle.scenario.specs.declared.fault.Cause.{Cause}
use Rattle.scenario.specs.declared.order.Named.TheVariants.{Echo, Ledger}
use Rattle.scenario.specs.declared.order.Order.{Order}
use Rattle.scenario.specs.declared.order.Order.TheVariants as order
use Rattle.scenario.specs.Result.{◌>>=◌}
use Rattle.scenario.specs.Lines.{is_skipped, is_plain}
use Rattle.scenario.specs.Words.{is_space, cut_word, parted, number, word_and_rest, number_and_rest, two_numbers, two_and_rest, named}
use Rattle.scenario.specs.Keywords.{keyword_of}
use Rattle.scenario.specs.Spelling.{send_of, order_of, order_after, order_by, spelled}
use Rattle.scenario.specs.Printing.{order_text, two_text}
use Rattle.scenario.specs.Numbered.{at_line}
use Rattle.scenario.specs.MadeOrders.{message_order}

-- a printed order is a plain line that spells it
pub record Reads (o : Order) : Type 0 where
  pub plain : list_all is_plain (order_text o) ≡ true
  pub short : nat_lt 40000 (length (order_text o)) ≡ false
  pub seen : is_skipped (order_text o) ≡ false
  pub spells : (n : ℕ) → spelled n (order_text o) ≡ Ok (at_line n o)

abbrev no_space : ℕ → Bool
no_space b = not (is_space b)

-- the first space
place_len : (word rest : List ℕ) → list_all no_space word ≡ true → position_or_len is_space (word ++ 32 ∷ rest) ≡ length word
place_len [] rest e = refl
place_len (b ∷ word) rest e =
    let parts = and_parts (no_space b) (list_all no_space word) e in
    let tail = place_len word rest parts.1 in
    rw parts.0 (omega arith)

place_is : (word rest : List ℕ) → list_all no_space word ≡ true → position is_space (word ++ 32 ∷ rest) ≡ Some (length word)
place_is word rest e =
    let lt : nat_lt (length word) (length (word ++ 32 ∷ rest)) ≡ true = lt-ltb (length word) (length (word ++ 32 ∷ rest)) (omega (arith, length-append word (32 ∷ rest))) in
    rw (place_len word rest e, lt) refl

cut_is : (word rest : List ℕ) → list_all no_space word ≡ true → cut_word (word ++ 32 ∷ rest) ≡ Some (word, rest)
unfolding cut_word
cut_is word rest e = ap (parted (word ++ 32 ∷ rest)) (place_is word rest e) ∙ rw (take-append_seam word (32 ∷ rest), drop-append-add word (32 ∷ rest) 1) refl

-- one link of a chain, known
bound : {A B : Type 0} (r : Result A Cause) (x : A) (f : A → Result B Cause) (y : B) → r ≡ Ok x → f x ≡ Ok y → (r >>= f) ≡ Ok y
bound r x f y e g = subst (λ (z : Result _ Cause). (z >>= f) ≡ Ok y) (sym e) g

-- decimal digits are digits, and plain, and no spaces
digits_all : (ds : List ℕ) → AllDigits 10 ds → (list_all is_ascii_digit ds ≡ true) × (list_all is_plain ds ≡ true) × (list_all no_space ds ≡ true)
digits_all [] d = (refl, refl, refl)
digits_all (c ∷ ds) d =
    let within = digit_from_value c d.0 in
    let low : nat_le 48 c ≡ true = le-leb 48 c (omega arith) in
    let high : nat_le c 57 ≡ true = le-leb c 57 (omega arith) in
    let least : nat_le 32 c ≡ true = le-leb 32 c (omega arith) in
    let most : nat_le c 126 ≡ true = le-leb c 126 (omega arith) in
    let other : (c == 32) ≡ false = ne_eqb c 32 (omega arith) in
    let rest = digits_all ds d.1 in
    (rw (low, high, rest.0) refl, rw (least, most, rest.1) refl, rw (other, rest.2) refl)

-- no zero stands in front
no_zero : (n : ℕ) → n < 2 ^ 64 → (nat_lt 1 (length (decimal n)) && (get_or (decimal n) 0 0 == 48)) ≡ false
no_zero n lt = elim (cases_Bool (nat_lt n 10)) [
  | inl on ↦
      let one : length (decimal n) ≡ 1 = ap length (decimal_digit n (ltb-true n 10 on)) in
      rw (le-ltb 1 (length (decimal n)) (omega arith)) refl
  | inr off ↦
      let some = ltb-false n 10 off in
      let first = first_decimal n (omega arith) lt in
      let e : (get_or (decimal n) 0 0 == 48) ≡ false = ne_eqb (get_or (decimal n) 0 0) 48 (omega arith) in
      elim (cases_Bool (nat_lt 1 (length (decimal n)))) [ inl more ↦ rw (more, e) refl | inr one ↦ rw one refl ]
]

-- a number of 64 bits is read as it is printed
pub number_is : (n : ℕ) → n < 2 ^ 64 → number (decimal n) ≡ Ok n
unfolding number
number_is n lt =
    let numeral = decimal_is_IsNumeral n lt in
    let some : nat_lt 0 (length (decimal n)) ≡ true = lt-ltb 0 (length (decimal n)) numeral.0.0 in
    let digits = (digits_all (decimal n) numeral.0.1).0 in
    let value : min (digits_value 10 (decimal n)) (2 ^ 64 - 1) ≡ n = omega (arith, numeral.1) in
    rw (some, no_zero n lt, digits, value) refl

-- a number that is read as it is printed
pub record Digit (c : ℕ) : Type 0 where
  value : number (decimal c) ≡ Ok c
  word : list_all no_space (decimal c) ≡ true
  plain : list_all is_plain (decimal c) ≡ true
  short : length (decimal c) ≤ 10001

pub digit : (c : ℕ) → c ≤ 10000 → Digit c
digit c le =
    let numeral = decimal_is_IsNumeral c (omega arith) in
    let all = digits_all (decimal c) numeral.0.1 in
    record { value = number_is c (omega arith); word = all.2; plain = all.1; short = omega (arith, length-decimal-le_succ c (omega arith)) }

word_is : (word rest : List ℕ) → list_all no_space word ≡ true → word_and_rest (word ++ 32 ∷ rest) ≡ Ok (word, rest)
unfolding word_and_rest
word_is word rest e = rw (cut_is word rest e, word_and_rest) refl

first_is : (c : ℕ) (rest : List ℕ) → Digit c → number_and_rest (decimal c ++ 32 ∷ rest) ≡ Ok (c, rest)
unfolding number_and_rest
first_is c rest d =
    bound (word_and_rest (decimal c ++ 32 ∷ rest)) (decimal c, rest) (λ word. number word.0 >>= λ n. Ok (n, word.1)) (c, rest) (word_is (decimal c) rest d.word)
    (bound (number (decimal c)) c (λ n. Ok (n, rest)) (c, rest) d.value refl)

two_is : (c m : ℕ) (text : List ℕ) → Digit c → Digit m → two_and_rest (two_text c m ++ 32 ∷ text) ≡ Ok (c, m, text)
unfolding two_and_rest
two_is c m text d e =
    let rest = decimal m ++ 32 ∷ text in
    let first : number_and_rest (two_text c m ++ 32 ∷ text) ≡ Ok (c, rest) = ap number_and_rest (append_assoc (decimal c) (32 ∷ decimal m) (32 ∷ text)) ∙ first_is c rest d in
    bound (number_and_rest (two_text c m ++ 32 ∷ text)) (c, rest) (λ x. number_and_rest x.1 >>= λ y. Ok (x.0, y.0, y.1)) (c, m, text) first
    (bound (number_and_rest rest) (m, text) (λ y. Ok (c, y.0, y.1)) (c, m, text) (first_is m text e) refl)

send_is : (n c m b : ℕ) (text : List ℕ) → Digit c → Digit m → send_of n (two_text c m ++ 32 ∷ b ∷ text) ≡ Ok (order.Send n c m (b ∷ text))
unfolding send_of
send_is n c m b text d e =
    let some : (length (b ∷ text) == 0) ≡ false = ne_eqb (length (b ∷ text)) 0 (omega arith) in
    bound (two_and_rest (two_text c m ++ 32 ∷ b ∷ text)) (c, m, b ∷ text) _ (order.Send n c m (b ∷ text)) (two_is c m (b ∷ text) d e) (rw some refl)

send_spells : (n c m b : ℕ) (text : List ℕ) → Digit c → Digit m → spelled n (order_text (order.Send 0 c m (b ∷ text))) ≡ Ok (order.Send n c m (b ∷ text))
unfolding spelled order_text order_after order_of keyword_of
send_spells n c m b text d e =
    let args = two_text c m ++ 32 ∷ b ∷ text in
    ap (order_by n (codes "send" ++ 32 ∷ args)) (cut_is (codes "send") args refl) ∙ send_is n c m b text d e

send_plain : (c m : ℕ) (text : List ℕ) → Digit c → Digit m → list_all is_plain text ≡ true → list_all is_plain (order_text (order.Send 0 c m text)) ≡ true
unfolding order_text
send_plain c m text d e plain =
    rw (list_all-append is_plain (two_text c m) (32 ∷ text), list_all-append is_plain (decimal c) (32 ∷ decimal m), d.plain, e.plain, plain) refl

send_length : (c m : ℕ) (text : List ℕ) → c < 5 → m < 5 → length (order_text (order.Send 0 c m text)) ≤ length text + 17
unfolding order_text
send_length c m text c_lt m_lt =
    omega (arith, length-append (two_text c m) (32 ∷ text), length-append (decimal c) (32 ∷ decimal m), length-decimal-le_succ c (omega arith), length-decimal-le_succ m (omega arith))

-- a line that begins with a letter isn't skipped
seen_cons : (b : ℕ) (line : List ℕ) → (b == 35) ≡ false → is_skipped (b ∷ line) ≡ false
seen_cons b line e = rw (ne_eqb (length (b ∷ line)) 0 (omega arith), e) refl

send_seen : (c m : ℕ) (text : List ℕ) → is_skipped (order_text (order.Send 0 c m text)) ≡ false
unfolding order_text
send_seen c m text = seen_cons 115 (codes "end" ++ 32 ∷ (two_text c m ++ 32 ∷ text)) refl

pub message_reads : (member i : ℕ) → member < 5 → i ≤ 20000 → Reads (message_order member i)
message_reads member i lt le =
    let c_lt : i % 5 < 5 = mod-lt i {m = 5} (omega arith) in
    let d = digit (i % 5) (omega arith) in
    let e = digit member (omega arith) in
    let numeral = decimal_is_IsNumeral i (omega arith) in
    let plain : list_all is_plain (109 ∷ decimal i) ≡ true = (digits_all (decimal i) numeral.0.1).1 in
    let long = send_length (i % 5) member (109 ∷ decimal i) c_lt lt in
    let few = length-decimal-le_succ i (omega arith) in
    record {
      plain = send_plain (i % 5) member (109 ∷ decimal i) d e plain;
      short = le-ltb 40000 (length (order_text (message_order member i))) (omega arith);
      seen = send_seen (i % 5) member (109 ∷ decimal i);
      spells = λ n. send_spells n (i % 5) member 109 (decimal i) d e;
    }

-- an order whose line is a first word and these arguments
reads_by : (o : Order) (b : ℕ) (word args : List ℕ) → order_text o ≡ (b ∷ word) ++ 32 ∷ args → (b == 35) ≡ false → list_all no_space (b ∷ word) ≡ true → list_all is_plain (b ∷ word) ≡ true
    → length word ≤ 20 → list_all is_plain args ≡ true → length args ≤ 30000 → ((n : ℕ) → order_after n (keyword_of (b ∷ word)) args ≡ Ok (at_line n o)) → Reads o
unfolding spelled
reads_by o b word args text letter spaceless plain short args_plain args_short spells = record {
  plain = rw (text, list_all-append is_plain (b ∷ word) (32 ∷ args), plain, args_plain) refl;
  short = le-ltb 40000 (length (order_text o)) (omega (arith, ap length text, length-append (b ∷ word) (32 ∷ args)));
  seen = rw text (seen_cons b (word ++ 32 ∷ args) letter);
  spells = λ n. ap (spelled n) text ∙ ap (order_by n ((b ∷ word) ++ 32 ∷ args)) (cut_is (b ∷ word) args spaceless) ∙ spells n;
}

pub members_reads : Reads (order.Members 0 3)
unfolding order_text order_after order_of keyword_of
members_reads =
    let d = digit 3 (omega arith) in
    reads_by (order.Members 0 3) 109 (codes "embers") (decimal 3) refl refl refl refl (omega arith) d.plain (omega (arith, d.short))
    (λ n. bound (number (decimal 3)) 3 (λ x. Ok (order.Members n x)) (order.Members n 3) d.value refl)

pub stop_reads : Reads (order.Stop 0 0)
unfolding order_text order_after order_of keyword_of
stop_reads =
    let d = digit 0 (omega arith) in
    reads_by (order.Stop 0 0) 115 (codes "top") (decimal 0) refl refl refl refl (omega arith) d.plain (omega (arith, d.short))
    (λ n. bound (number (decimal 0)) 0 (λ x. Ok (order.Stop n x)) (order.Stop n 0) d.value refl)

pub start_reads : Reads (order.Start 0 0)
unfolding order_text order_after order_of keyword_of
start_reads =
    let d = digit 0 (omega arith) in
    reads_by (order.Start 0 0) 115 (codes "tart") (decimal 0) refl refl refl refl (omega arith) d.plain (omega (arith, d.short))
    (λ n. bound (number (decimal 0)) 0 (λ x. Ok (order.Start n x)) (order.Start n 0) d.value refl)

pub rounds_read : (k : ℕ) → k ≤ 10000 → Reads (order.Rounds 0 k)
unfolding order_text order_after order_of keyword_of
rounds_read k le =
    let d = digit k le in
    reads_by (order.Rounds 0 k) 114 (codes "ounds") (decimal k) refl refl refl refl (omega arith) d.plain (omega (arith, d.short))
    (λ n. bound (number (decimal k)) k (λ x. Ok (order.Rounds n x)) (order.Rounds n k) d.value refl)

pair_is : (c m : ℕ) → Digit c → Digit m → two_numbers (two_text c m) ≡ Ok (c, m)
unfolding two_numbers
pair_is c m d e =
    bound (number_and_rest (two_text c m)) (c, decimal m) (λ x. number x.1 >>= λ y. Ok (x.0, y)) (c, m) (first_is c (decimal m) d)
    (bound (number (decimal m)) m (λ y. Ok (c, y)) (c, m) e.value refl)

pub connect_reads : (c : ℕ) → c ≤ 10000 → Reads (order.Connect 0 c 0)
unfolding order_text order_after order_of keyword_of
connect_reads c le =
    let d = digit c le in
    let e = digit 0 (omega arith) in
    reads_by (order.Connect 0 c 0) 99 (codes "onnect") (two_text c 0) refl refl refl refl (omega arith)
    (rw (list_all-append is_plain (decimal c) (32 ∷ decimal 0), d.plain, e.plain) refl) (omega (arith, length-append (decimal c) (32 ∷ decimal 0), d.short, e.short))
    (λ n. bound (two_numbers (two_text c 0)) (c, 0) (λ x. Ok (order.Connect n x.0 x.1)) (order.Connect n c 0) (pair_is c 0 d e) refl)

pub echo_reads : Reads (order.Service 0 Echo)
unfolding order_text spelled order_after order_of keyword_of cut_word named
echo_reads = record { plain = refl; short = refl; seen = refl; spells = λ n. refl }

pub ledger_reads : Reads (order.Service 0 Ledger)
unfolding order_text spelled order_after order_of keyword_of cut_word named
ledger_reads = record { plain = refl; short = refl; seen = refl; spells = λ n. refl }
