-- A line that spells an order is that order's text.
use Rattle.std.proofs.Common.{◌≡◌, ℕ, ◌<◌, ◌≤◌, ◌-◌, ◌^◌, Bool, true, false, not, List, [], ◌∷◌, ◌++◌, length, get_or, refl, ap, ◌∙◌, sym, arith, inl, inr, Some, None, Option, Ok, subst}
use Rattle.std.specs.Prelude.{nat_lt, nat_le, ◌==◌, ◌&&◌, find, codes, bytes_eq, flat_map, decimal}
use Rattle.std.proofs.lemmas.Bool.{cases_Bool, and_parts, ltb-true, leb-true, eqb-true}
use Rattle.std.proofs.lemmas.Slice.Eq.{bytes_eq-Decides}
use Rattle.cl_base.specs.declared.disk.Choice.{Choice}
use Rattle.cl_base.specs.declared.disk.Choice.TheVariants.{Drop, Keep, Fill}
use Rattle.scenario.specs.declared.order.Order.{Order}
use Rattle.scenario.specs.declared.order.Order.TheVariants as order
use Rattle.scenario.specs.declared.order.Named.{Named}
use Rattle.scenario.specs.declared.order.Named.TheVariants.{Echo, Ledger, Ticker}
use Rattle.scenario.specs.declared.keyword.Single.{Single}
use Rattle.scenario.specs.declared.keyword.Single.TheVariants as single
use Rattle.scenario.specs.declared.keyword.Double.{Double}
use Rattle.scenario.specs.declared.keyword.Double.TheVariants as double
use Rattle.scenario.specs.declared.keyword.Keyword.{Keyword}
use Rattle.scenario.specs.declared.keyword.Keyword.TheVariants as keyword
use Rattle.scenario.specs.Words.{cut_word, number, number_and_rest, two_numbers, two_and_rest, hex_byte, hex, choice, named}
use Rattle.scenario.specs.Keywords.{keyword_text, keywords, keyword_of}
use Rattle.scenario.specs.Spelling.{single_order, double_order, send_of, sendhex_of, raw_of, fuse_of, replay_of, free_of, offer_of, backup_of, order_of, order_after, order_alone, order_by, spelled}
use Rattle.scenario.specs.Orders.{in_range, is_within, is_addressed, is_link}
use Rattle.scenario.specs.Printing.{byte_text, hex_text, choice_text, name_text, two_text, keyword_for, args_text, order_text}
use Rattle.scenario.proofs.Canonical.{bind_ok, number_text, cut_text, number_and_rest_text, two_numbers_text, two_and_rest_text, hex_byte_text, hex_pairs_text}

hex_whole : (text bytes : List ℕ) → 0 < length text → flat_map byte_text bytes ≡ text → hex_text bytes ≡ text
hex_whole text [] lt e = absurd (omega (arith, ap length e))
hex_whole text (b ∷ bytes) lt e = e

nonempty : (text : List ℕ) → (length text == 0) ≡ false → 0 < length text
nonempty [] e = cc
nonempty (b ∷ text) e = omega arith

pub hex_text_of : (text bytes : List ℕ) → hex text ≡ Ok bytes → hex_text bytes ≡ text
unfolding hex
hex_text_of text bytes e = elim (cases_Bool (length text == 0)) [
  | inl on ↦ let h = rw on at e in cc
  | inr off ↦
      let h = rw off at e in
      elim (cases_Bool (bytes_eq text (codes "-"))) [
        | inl on ↦
            let h = rw on at h in
            let is : [] ≡ bytes = cc in
            subst (λ (x : List ℕ). hex_text x ≡ text) is (sym ((bytes_eq-Decides text (codes "-")).0 on))
        | inr none ↦ let h = rw none at h in hex_whole text bytes (nonempty text off) (hex_pairs_text text bytes h)
      ]
]

two_cells : (text : List ℕ) → (length text == 2) ≡ true → get_or text 0 0 ∷ get_or text 1 0 ∷ [] ≡ text
two_cells [] e = absurd (omega (arith, eqb-true 0 2 e))
two_cells (a ∷ []) e = absurd (omega (arith, eqb-true 1 2 e))
two_cells (a ∷ b ∷ []) e = refl
two_cells (a ∷ b ∷ c ∷ text) e = absurd (omega (arith, eqb-true (length (a ∷ b ∷ c ∷ text)) 2 e))

pub choice_text_of : (text : List ℕ) (c : Choice) → choice text ≡ Ok c → choice_text c ≡ text
unfolding choice
choice_text_of text c e = elim (cases_Bool (bytes_eq text (codes "drop"))) [
  | inl on ↦
      let h = rw on at e in
      let is : Drop ≡ c = cc in
      subst (λ (x : Choice). choice_text x ≡ text) is (sym ((bytes_eq-Decides text (codes "drop")).0 on))
  | inr off ↦
      let h = rw off at e in
      elim (cases_Bool (bytes_eq text (codes "keep"))) [
        | inl on ↦
            let h = rw on at h in
            let is : Keep ≡ c = cc in
            subst (λ (x : Choice). choice_text x ≡ text) is (sym ((bytes_eq-Decides text (codes "keep")).0 on))
        | inr neither ↦
            let h = rw neither at h in
            elim (cases_Bool (length text == 2)) [
              | inl on ↦
                  let h = rw on at h in
                  let x = bind_ok (hex_byte (get_or text 0 0) (get_or text 1 0)) _ c h in
                  let is : Fill x.0 ≡ c = cc in
                  subst (λ (y : Choice). choice_text y ≡ text) is (hex_byte_text (get_or text 0 0) (get_or text 1 0) x.0 x.1 ∙ two_cells text on)
              | inr none ↦ let h = rw none at h in cc
            ]
      ]
]

pub name_text_of : (text : List ℕ) (n : Named) → named text ≡ Ok n → name_text n ≡ text
unfolding named
name_text_of text n e = elim (cases_Bool (bytes_eq text (codes "echo"))) [
  | inl on ↦
      let h = rw on at e in
      let is : Echo ≡ n = cc in
      subst (λ (x : Named). name_text x ≡ text) is (sym ((bytes_eq-Decides text (codes "echo")).0 on))
  | inr off ↦
      let h = rw off at e in
      elim (cases_Bool (bytes_eq text (codes "ledger"))) [
        | inl on ↦
            let h = rw on at h in
            let is : Ledger ≡ n = cc in
            subst (λ (x : Named). name_text x ≡ text) is (sym ((bytes_eq-Decides text (codes "ledger")).0 on))
        | inr neither ↦
            let h = rw neither at h in
            elim (cases_Bool (bytes_eq text (codes "ticker"))) [
              | inl on ↦
                  let h = rw on at h in
                  let is : Ticker ≡ n = cc in
                  subst (λ (x : Named). name_text x ≡ text) is (sym ((bytes_eq-Decides text (codes "ticker")).0 on))
              | inr none ↦ let h = rw none at h in cc
            ]
      ]
]

find_ok : (p : Keyword → Bool) (ks : List Keyword) (k : Keyword) → find p ks ≡ Some k → p k ≡ true
find_ok p [] k e = cc
find_ok p (x ∷ ks) k e = elim (cases_Bool (p x)) [
  | inl on ↦ let h = rw on at e in let is : x ≡ k = cc in subst (λ (y : Keyword). p y ≡ true) is on
  | inr off ↦ find_ok p ks k (rw off at e)
]

pub keyword_text_of : (word : List ℕ) (k : Keyword) → keyword_of word ≡ Some k → keyword_text k ≡ word
unfolding keyword_of
keyword_text_of word k e = (bytes_eq-Decides (keyword_text k) word).0 (find_ok (λ x. bytes_eq (keyword_text x) word) keywords k e)

-- each number is below the greatest of 64 bits
abbrev pub IsSmall : Order → Type 0
IsSmall (order.Members line n) = n < 2 ^ 64 - 1
IsSmall (order.Service line name) = Unit {0}
IsSmall (order.Rounds line n) = n < 2 ^ 64 - 1
IsSmall (order.Quiet line n) = n < 2 ^ 64 - 1
IsSmall (order.Connect line a b) = (a < 2 ^ 64 - 1) × (b < 2 ^ 64 - 1)
IsSmall (order.Send line a b text) = (a < 2 ^ 64 - 1) × (b < 2 ^ 64 - 1)
IsSmall (order.SendHex line a b payload) = (a < 2 ^ 64 - 1) × (b < 2 ^ 64 - 1)
IsSmall (order.Close line a b) = (a < 2 ^ 64 - 1) × (b < 2 ^ 64 - 1)
IsSmall (order.KeepAlive line a b) = (a < 2 ^ 64 - 1) × (b < 2 ^ 64 - 1)
IsSmall (order.Raw line a b bytes) = (a < 2 ^ 64 - 1) × (b < 2 ^ 64 - 1)
IsSmall (order.Action line n) = n < 2 ^ 64 - 1
IsSmall (order.Stop line n) = n < 2 ^ 64 - 1
IsSmall (order.Start line n) = n < 2 ^ 64 - 1
IsSmall (order.Invalidate line n) = n < 2 ^ 64 - 1
IsSmall (order.Fuse line a b left) = (a < 2 ^ 64 - 1) × (b < 2 ^ 64 - 1)
IsSmall (order.Cut line a b) = (a < 2 ^ 64 - 1) × (b < 2 ^ 64 - 1)
IsSmall (order.Heal line a b) = (a < 2 ^ 64 - 1) × (b < 2 ^ 64 - 1)
IsSmall (order.Lose line a b) = (a < 2 ^ 64 - 1) × (b < 2 ^ 64 - 1)
IsSmall (order.Replay line a b k) = (a < 2 ^ 64 - 1) × (b < 2 ^ 64 - 1) × (k < 2 ^ 64 - 1)
IsSmall (order.FreeOn line) = Unit {0}
IsSmall (order.FreeOff line) = Unit {0}
IsSmall (order.Join line c) = c < 2 ^ 64 - 1
IsSmall (order.Offer line c text) = c < 2 ^ 64 - 1
IsSmall (order.Backup line n) = n < 2 ^ 64 - 1
IsSmall (order.BackupOff line) = Unit {0}
IsSmall (order.BackupLose line) = Unit {0}

-- an order is printed as this first word and what stands behind its space
pub record Prints (k : Keyword) (args : List ℕ) (o : Order) : Type 0 where
  pub word : keyword_for o ≡ k
  pub behind : args_text o ≡ args

single_prints : (n v : ℕ) (k : Single) (args : List ℕ) → number args ≡ Ok v → IsSmall (single_order n k v) → Prints (keyword.One k) args (single_order n k v)
single_prints n v single.Members args e small = record { word = refl; behind = number_text args v e small }
single_prints n v single.Rounds args e small = record { word = refl; behind = number_text args v e small }
single_prints n v single.Quiet args e small = record { word = refl; behind = number_text args v e small }
single_prints n v single.Action args e small = record { word = refl; behind = number_text args v e small }
single_prints n v single.Stop args e small = record { word = refl; behind = number_text args v e small }
single_prints n v single.Start args e small = record { word = refl; behind = number_text args v e small }
single_prints n v single.Invalidate args e small = record { word = refl; behind = number_text args v e small }
single_prints n v single.Join args e small = record { word = refl; behind = number_text args v e small }

double_prints : (n : ℕ) (p : ℕ × ℕ) (k : Double) (args : List ℕ) → two_numbers args ≡ Ok p → IsSmall (double_order n k p.0 p.1) → Prints (keyword.Two k) args (double_order n k p.0 p.1)
double_prints n p double.Connect args e small = record { word = refl; behind = two_numbers_text args p e small.0 small.1 }
double_prints n p double.Close args e small = record { word = refl; behind = two_numbers_text args p e small.0 small.1 }
double_prints n p double.KeepAlive args e small = record { word = refl; behind = two_numbers_text args p e small.0 small.1 }
double_prints n p double.Cut args e small = record { word = refl; behind = two_numbers_text args p e small.0 small.1 }
double_prints n p double.Heal args e small = record { word = refl; behind = two_numbers_text args p e small.0 small.1 }
double_prints n p double.Lose args e small = record { word = refl; behind = two_numbers_text args p e small.0 small.1 }

-- what is printed of an order goes with an equation
moved : (k : Keyword) (args : List ℕ) (a b : Order) → a ≡ b → (IsSmall a → Prints k args a) → IsSmall b → Prints k args b
moved k args a b is prints small = subst (λ (x : Order). Prints k args x) is (prints (subst IsSmall (sym is) small))

tail_prints : (args : List ℕ) (p : ℕ × ℕ × List ℕ) (tail : List ℕ) → two_and_rest args ≡ Ok p → p.0 < 2 ^ 64 - 1 → p.1 < 2 ^ 64 - 1 → tail ≡ p.2 → two_text p.0 p.1 ++ 32 ∷ tail ≡ args
tail_prints args p tail e small0 small1 is = ap (λ t. two_text p.0 p.1 ++ 32 ∷ t) is ∙ two_and_rest_text args p e small0 small1

pub order_prints : (n : ℕ) (k : Keyword) (args : List ℕ) (o : Order) → order_of n k args ≡ Ok o → IsSmall o → Prints k args o
unfolding order_of send_of sendhex_of raw_of fuse_of replay_of free_of offer_of backup_of
order_prints n (keyword.One k) args o e =
    let v = bind_ok (number args) _ o e in
    let is : single_order n k v.0 ≡ o = cc in
    moved (keyword.One k) args _ o is (single_prints n v.0 k args v.1)
order_prints n (keyword.Two k) args o e =
    let p = bind_ok (two_numbers args) _ o e in
    let is : double_order n k p.0.0 p.0.1 ≡ o = cc in
    moved (keyword.Two k) args _ o is (double_prints n p.0 k args p.1)
order_prints n keyword.Service args o e =
    let v = bind_ok (named args) _ o e in
    let is : order.Service n v.0 ≡ o = cc in
    moved keyword.Service args _ o is (λ _. record { word = refl; behind = name_text_of args v.0 v.1 })
order_prints n keyword.Send args o e =
    let p = bind_ok (two_and_rest args) _ o e in
    elim (cases_Bool (length p.0.2 == 0)) [
      | inl on ↦ let h = rw on at p.2 in cc
      | inr off ↦
          let h = rw off at p.2 in
          let is : order.Send n p.0.0 p.0.1 p.0.2 ≡ o = cc in
          moved keyword.Send args _ o is (λ small. record { word = refl; behind = tail_prints args p.0 p.0.2 p.1 small.0 small.1 refl })
    ]
order_prints n keyword.SendHex args o e =
    let p = bind_ok (two_and_rest args) _ o e in
    let v = bind_ok (hex p.0.2) _ o p.2 in
    let is : order.SendHex n p.0.0 p.0.1 v.0 ≡ o = cc in
    moved keyword.SendHex args _ o is (λ small. record { word = refl; behind = tail_prints args p.0 (hex_text v.0) p.1 small.0 small.1 (hex_text_of p.0.2 v.0 v.1) })
order_prints n keyword.Raw args o e =
    let p = bind_ok (two_and_rest args) _ o e in
    let v = bind_ok (hex p.0.2) _ o p.2 in
    let is : order.Raw n p.0.0 p.0.1 v.0 ≡ o = cc in
    moved keyword.Raw args _ o is (λ small. record { word = refl; behind = tail_prints args p.0 (hex_text v.0) p.1 small.0 small.1 (hex_text_of p.0.2 v.0 v.1) })
order_prints n keyword.Fuse args o e =
    let p = bind_ok (two_and_rest args) _ o e in
    let v = bind_ok (choice p.0.2) _ o p.2 in
    let is : order.Fuse n p.0.0 p.0.1 v.0 ≡ o = cc in
    moved keyword.Fuse args _ o is (λ small. record { word = refl; behind = tail_prints args p.0 (choice_text v.0) p.1 small.0 small.1 (choice_text_of p.0.2 v.0 v.1) })
order_prints n keyword.Replay args o e =
    let p = bind_ok (two_and_rest args) _ o e in
    let v = bind_ok (number p.0.2) _ o p.2 in
    let is : order.Replay n p.0.0 p.0.1 v.0 ≡ o = cc in
    moved keyword.Replay args _ o is (λ small. record { word = refl; behind = tail_prints args p.0 (decimal v.0) p.1 small.0 small.1 (number_text p.0.2 v.0 v.1 small.2) })
order_prints n keyword.Free args o e = elim (cases_Bool (bytes_eq args (codes "on"))) [
  | inl on ↦
      let h = rw on at e in
      let is : order.FreeOn n ≡ o = cc in
      moved keyword.Free args _ o is (λ _. record { word = refl; behind = sym ((bytes_eq-Decides args (codes "on")).0 on) })
  | inr off ↦
      let h = rw off at e in
      elim (cases_Bool (bytes_eq args (codes "off"))) [
        | inl on ↦
            let h = rw on at h in
            let is : order.FreeOff n ≡ o = cc in
            moved keyword.Free args _ o is (λ _. record { word = refl; behind = sym ((bytes_eq-Decides args (codes "off")).0 on) })
        | inr none ↦ let h = rw none at h in cc
      ]
]
order_prints n keyword.Offer args o e =
    let p = bind_ok (number_and_rest args) _ o e in
    elim (cases_Bool (length p.0.1 == 0)) [
      | inl on ↦ let h = rw on at p.2 in cc
      | inr off ↦
          let h = rw off at p.2 in
          let is : order.Offer n p.0.0 p.0.1 ≡ o = cc in
          moved keyword.Offer args _ o is (λ small. record { word = refl; behind = number_and_rest_text args p.0 p.1 small })
    ]
order_prints n keyword.Backup args o e = elim (cases_Bool (bytes_eq args (codes "off"))) [
  | inl on ↦
      let h = rw on at e in
      let is : order.BackupOff n ≡ o = cc in
      moved keyword.Backup args _ o is (λ _. record { word = refl; behind = sym ((bytes_eq-Decides args (codes "off")).0 on) })
  | inr off ↦
      let h = rw off at e in
      elim (cases_Bool (bytes_eq args (codes "lose"))) [
        | inl on ↦
            let h = rw on at h in
            let is : order.BackupLose n ≡ o = cc in
            moved keyword.Backup args _ o is (λ _. record { word = refl; behind = sym ((bytes_eq-Decides args (codes "lose")).0 on) })
        | inr other ↦
            let h = rw other at h in
            let v = bind_ok (number args) _ o h in
            let is : order.Backup n v.0 ≡ o = cc in
            moved keyword.Backup args _ o is (λ small. record { word = refl; behind = number_text args v.0 v.1 small })
      ]
]

after_prints : (n : ℕ) (word args : List ℕ) (found : Option Keyword) (o : Order) → keyword_of word ≡ found → order_after n found args ≡ Ok o → IsSmall o → order_text o ≡ word ++ 32 ∷ args
unfolding order_after order_text
after_prints n word args None o f e small = cc
after_prints n word args (Some k) o f e small =
    let prints = order_prints n k args o e small in
    rw (prints.word, prints.behind) (ap (λ w. w ++ 32 ∷ args) (keyword_text_of word k f))

alone_fails : (found : Option Keyword) (o : Order) → order_alone found ≡ Ok o → ⊥
unfolding order_alone
alone_fails None o e = cc
alone_fails (Some k) o e = cc

by_prints : (n : ℕ) (text : List ℕ) (cut : Option (List ℕ × List ℕ)) (o : Order) → cut_word text ≡ cut → order_by n text cut ≡ Ok o → IsSmall o → order_text o ≡ text
by_prints n text None o c e small = absurd (alone_fails (keyword_of text) o e)
by_prints n text (Some parts) o c e small = after_prints n parts.0 parts.1 (keyword_of parts.0) o refl e small ∙ cut_text text parts c

-- a line that spells an order is that order's text
pub line_text : (n : ℕ) (text : List ℕ) (o : Order) → spelled n text ≡ Ok o → IsSmall o → order_text o ≡ text
unfolding spelled
line_text n text o e small = by_prints n text (cut_word text) o refl e small

addressed_small : (m a b : ℕ) → m ≤ 5 → is_addressed m a b ≡ true → (a < 2 ^ 64 - 1) × (b < 2 ^ 64 - 1)
addressed_small m a b le e = let parts = and_parts (nat_lt a 64) (nat_lt b m) e in (omega (arith, ltb-true a 64 parts.0), omega (arith, ltb-true b m parts.1))

link_small : (m a b : ℕ) → m ≤ 5 → is_link m a b ≡ true → (a < 2 ^ 64 - 1) × (b < 2 ^ 64 - 1)
link_small m a b le e =
    let outer = and_parts (nat_lt a m && nat_lt b m) (not (a == b)) e in
    let parts = and_parts (nat_lt a m) (nat_lt b m) outer.0 in
    (omega (arith, ltb-true a m parts.0), omega (arith, ltb-true b m parts.1))

within_small : (low high n : ℕ) → high ≤ 100000 → is_within low high n ≡ true → n < 2 ^ 64 - 1
within_small low high n le e = let parts = and_parts (nat_le low n) (nat_le n high) e in omega (arith, leb-true n high parts.1)

-- the ranges are far below the greatest number of 64 bits
pub small_in_range : (m : ℕ) (o : Order) → m ≤ 5 → in_range m o ≡ true → IsSmall o
unfolding in_range
small_in_range m (order.Members line n) le e = within_small 1 5 n (omega arith) e
small_in_range m (order.Service line name) le e = tt
small_in_range m (order.Rounds line n) le e = within_small 1 100000 n (omega arith) e
small_in_range m (order.Quiet line n) le e = within_small 1 100000 n (omega arith) e
small_in_range m (order.Connect line a b) le e = addressed_small m a b le e
small_in_range m (order.Send line a b text) le e = addressed_small m a b le e
small_in_range m (order.SendHex line a b payload) le e = addressed_small m a b le e
small_in_range m (order.Close line a b) le e = addressed_small m a b le e
small_in_range m (order.KeepAlive line a b) le e = addressed_small m a b le e
small_in_range m (order.Raw line a b bytes) le e = addressed_small m a b le e
small_in_range m (order.Action line n) le e = omega (arith, ltb-true n m e)
small_in_range m (order.Stop line n) le e = omega (arith, ltb-true n m e)
small_in_range m (order.Start line n) le e = omega (arith, ltb-true n m e)
small_in_range m (order.Invalidate line n) le e = omega (arith, ltb-true n m e)
small_in_range m (order.Fuse line a b left) le e = let parts = and_parts (nat_lt a m) (nat_le b 1000) e in (omega (arith, ltb-true a m parts.0), omega (arith, leb-true b 1000 parts.1))
small_in_range m (order.Cut line a b) le e = link_small m a b le e
small_in_range m (order.Heal line a b) le e = link_small m a b le e
small_in_range m (order.Lose line a b) le e = link_small m a b le e
small_in_range m (order.Replay line a b k) le e =
    let parts = and_parts (is_link m a b) (is_within 1 256 k) e in
    let ends = and_parts (nat_le 1 k) (nat_le k 256) parts.1 in
    let link = link_small m a b le parts.0 in
    (link.0, link.1, omega (arith, leb-true k 256 ends.1))
small_in_range m (order.FreeOn line) le e = tt
small_in_range m (order.FreeOff line) le e = tt
small_in_range m (order.Join line c) le e = omega (arith, ltb-true c 64 e)
small_in_range m (order.Offer line c text) le e = omega (arith, ltb-true c 64 e)
small_in_range m (order.Backup line n) le e = omega (arith, ltb-true n m e)
small_in_range m (order.BackupOff line) le e = tt
small_in_range m (order.BackupLose line) le e = tt
