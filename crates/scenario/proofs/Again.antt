-- A scenario's orders, printed, are read again.
use Rattle.std.proofs.Common.{◌≡◌, ℕ, ◌<◌, ◌≤◌, ◌+◌, ◌-◌, true, false, List, [], ◌∷◌, ◌++◌, length, map, get_or, refl, ap, ◌∙◌, sym, arith, inl, inr, Some, None, Option, Result, Ok, Err, subst, append_assoc, length-append}
use Rattle.std.specs.Prelude.{◌⊎◌, nat_lt, nat_le, ◌==◌, codes, bytes_eq}
use Rattle.std.specs.List.{list_all, slice_split, onto_first, AllByRecursion}
use Rattle.std.proofs.lemmas.Bool.{cases_Bool, and_parts, leb-true}
use Rattle.std.proofs.lemmas.Bool.Decides.{nat_tests}
use Rattle.std.proofs.lemmas.List.Sums.{fold-append}
use Rattle.std.proofs.lemmas.List.{append-nil}
use Rattle.std.proofs.lemmas.List.Splits.{slice_split-cons_no, length-slice_split}
use Rattle.scenario.specs.declared.fault.Cause.{Cause}
use Rattle.scenario.specs.declared.fault.Refusal.{Refusal}
use Rattle.scenario.specs.declared.fault.Reading.{Reading}
use Rattle.scenario.specs.declared.order.Order.{Order}
use Rattle.scenario.specs.declared.order.Order.TheVariants as order
use Rattle.scenario.specs.declared.keyword.Single.{Single}
use Rattle.scenario.specs.declared.keyword.Single.TheVariants as single
use Rattle.scenario.specs.declared.keyword.Double.{Double}
use Rattle.scenario.specs.declared.keyword.Double.TheVariants as double
use Rattle.scenario.specs.declared.keyword.Keyword.{Keyword}
use Rattle.scenario.specs.declared.keyword.Keyword.TheVariants as keyword
use Rattle.scenario.specs.declared.told.Told.{Told}
use Rattle.scenario.specs.Result.{◌>>=◌}
use Rattle.scenario.specs.Lines.{lines, ended_lines, without_return, is_feed, is_skipped, is_plain}
use Rattle.scenario.specs.Words.{cut_word, number, number_and_rest, two_numbers, two_and_rest, hex, choice, named}
use Rattle.scenario.specs.Keywords.{keyword_of}
use Rattle.scenario.specs.Spelling.{single_order, double_order, send_of, sendhex_of, raw_of, fuse_of, replay_of, free_of, offer_of, backup_of, order_of, order_after, order_alone, order_by, spelled}
use Rattle.scenario.specs.Orders.{members_after, members_of, in_range, may_come, told_by, told_after, forbidden, unless, judged, orders_after, at_end, read_from, reading_of, orders_of, first_fault}
use Rattle.scenario.specs.Printing.{order_text, printed}
use Rattle.scenario.specs.Numbered.{at_line, numbered}
use Rattle.scenario.proofs.Canonical.{bind_ok}
use Rattle.scenario.proofs.CanonicalLines.{line_text, small_in_range}
use Rattle.scenario.proofs.OrderLaws.{read_step, read_fault}
use Rattle.scenario.proofs.LineLaws.{ended_cons}
use Rattle.scenario.proofs.NumberLaws.{all_at}

-- the line number changes nothing else
pub same_forbidden : (m : ℕ) (told : Told) (o : Order) → forbidden told (at_line m o) ≡ forbidden told o
unfolding forbidden in_range may_come
same_forbidden m told (order.Members line n) = refl
same_forbidden m told (order.Service line name) = refl
same_forbidden m told (order.Rounds line n) = refl
same_forbidden m told (order.Quiet line n) = refl
same_forbidden m told (order.Connect line a b) = refl
same_forbidden m told (order.Send line a b text) = refl
same_forbidden m told (order.SendHex line a b payload) = refl
same_forbidden m told (order.Close line a b) = refl
same_forbidden m told (order.KeepAlive line a b) = refl
same_forbidden m told (order.Raw line a b bytes) = refl
same_forbidden m told (order.Action line n) = refl
same_forbidden m told (order.Stop line n) = refl
same_forbidden m told (order.Start line n) = refl
same_forbidden m told (order.Invalidate line n) = refl
same_forbidden m told (order.Fuse line a b left) = refl
same_forbidden m told (order.Cut line a b) = refl
same_forbidden m told (order.Heal line a b) = refl
same_forbidden m told (order.Lose line a b) = refl
same_forbidden m told (order.Replay line a b k) = refl
same_forbidden m told (order.FreeOn line) = refl
same_forbidden m told (order.FreeOff line) = refl
same_forbidden m told (order.Join line c) = refl
same_forbidden m told (order.Offer line c text) = refl
same_forbidden m told (order.Backup line n) = refl
same_forbidden m told (order.BackupOff line) = refl
same_forbidden m told (order.BackupLose line) = refl

pub same_told : (m : ℕ) (told : Told) (o : Order) → told_after told (at_line m o) ≡ told_after told o
same_told m told (order.Members line n) = refl
same_told m told (order.Service line name) = refl
same_told m told (order.Rounds line n) = refl
same_told m told (order.Quiet line n) = refl
same_told m told (order.Connect line a b) = refl
same_told m told (order.Send line a b text) = refl
same_told m told (order.SendHex line a b payload) = refl
same_told m told (order.Close line a b) = refl
same_told m told (order.KeepAlive line a b) = refl
same_told m told (order.Raw line a b bytes) = refl
same_told m told (order.Action line n) = refl
same_told m told (order.Stop line n) = refl
same_told m told (order.Start line n) = refl
same_told m told (order.Invalidate line n) = refl
same_told m told (order.Fuse line a b left) = refl
same_told m told (order.Cut line a b) = refl
same_told m told (order.Heal line a b) = refl
same_told m told (order.Lose line a b) = refl
same_told m told (order.Replay line a b k) = refl
same_told m told (order.FreeOn line) = refl
same_told m told (order.FreeOff line) = refl
same_told m told (order.Join line c) = refl
same_told m told (order.Offer line c text) = refl
same_told m told (order.Backup line n) = refl
same_told m told (order.BackupOff line) = refl
same_told m told (order.BackupLose line) = refl

single_again : (n m : ℕ) (k : Single) (v : ℕ) → single_order m k v ≡ at_line m (single_order n k v)
single_again n m single.Members v = refl
single_again n m single.Rounds v = refl
single_again n m single.Quiet v = refl
single_again n m single.Action v = refl
single_again n m single.Stop v = refl
single_again n m single.Start v = refl
single_again n m single.Invalidate v = refl
single_again n m single.Join v = refl

double_again : (n m : ℕ) (k : Double) (a b : ℕ) → double_order m k a b ≡ at_line m (double_order n k a b)
double_again n m double.Connect a b = refl
double_again n m double.Close a b = refl
double_again n m double.KeepAlive a b = refl
double_again n m double.Cut a b = refl
double_again n m double.Heal a b = refl
double_again n m double.Lose a b = refl

-- one link of a chain, known
onward : {A : Type 0} (r : Result A Cause) (x : A) (f : A → Result Order Cause) (o : Order) → r ≡ Ok x → f x ≡ Ok o → (r >>= f) ≡ Ok o
onward r x f o e g = subst (λ (y : Result _ Cause). (y >>= f) ≡ Ok o) (sym e) g

-- what is spelled is spelled on any line
order_again : (n m : ℕ) (k : Keyword) (args : List ℕ) (o : Order) → order_of n k args ≡ Ok o → order_of m k args ≡ Ok (at_line m o)
unfolding order_of send_of sendhex_of raw_of fuse_of replay_of free_of offer_of backup_of
order_again n m (keyword.One k) args o e =
    let v = bind_ok (number args) _ o e in
    let is : single_order n k v.0 ≡ o = cc in
    onward (number args) v.0 (λ x. Ok (single_order m k x)) (at_line m o) v.1 (ap Ok (single_again n m k v.0 ∙ ap (at_line m) is))
order_again n m (keyword.Two k) args o e =
    let p = bind_ok (two_numbers args) _ o e in
    let is : double_order n k p.0.0 p.0.1 ≡ o = cc in
    onward (two_numbers args) p.0 (λ x. Ok (double_order m k x.0 x.1)) (at_line m o) p.1 (ap Ok (double_again n m k p.0.0 p.0.1 ∙ ap (at_line m) is))
order_again n m keyword.Service args o e =
    let v = bind_ok (named args) _ o e in
    let is : order.Service n v.0 ≡ o = cc in
    onward (named args) v.0 (λ x. Ok (order.Service m x)) (at_line m o) v.1 (ap (λ (x : Order). Ok (at_line m x)) is)
order_again n m keyword.Send args o e =
    let p = bind_ok (two_and_rest args) _ o e in
    elim (cases_Bool (length p.0.2 == 0)) [
      | inl on ↦ let h = rw on at p.2 in cc
      | inr off ↦
          let h = rw off at p.2 in
          let is : order.Send n p.0.0 p.0.1 p.0.2 ≡ o = cc in
          onward (two_and_rest args) p.0 _ (at_line m o) p.1 (rw off (ap (λ (x : Order). Ok (at_line m x)) is))
    ]
order_again n m keyword.SendHex args o e =
    let p = bind_ok (two_and_rest args) _ o e in
    let v = bind_ok (hex p.0.2) _ o p.2 in
    let is : order.SendHex n p.0.0 p.0.1 v.0 ≡ o = cc in
    onward (two_and_rest args) p.0 (λ x. hex x.2 >>= λ y. Ok (order.SendHex m x.0 x.1 y)) (at_line m o) p.1
    (onward (hex p.0.2) v.0 (λ y. Ok (order.SendHex m p.0.0 p.0.1 y)) (at_line m o) v.1 (ap (λ (x : Order). Ok (at_line m x)) is))
order_again n m keyword.Raw args o e =
    let p = bind_ok (two_and_rest args) _ o e in
    let v = bind_ok (hex p.0.2) _ o p.2 in
    let is : order.Raw n p.0.0 p.0.1 v.0 ≡ o = cc in
    onward (two_and_rest args) p.0 (λ x. hex x.2 >>= λ y. Ok (order.Raw m x.0 x.1 y)) (at_line m o) p.1
    (onward (hex p.0.2) v.0 (λ y. Ok (order.Raw m p.0.0 p.0.1 y)) (at_line m o) v.1 (ap (λ (x : Order). Ok (at_line m x)) is))
order_again n m keyword.Fuse args o e =
    let p = bind_ok (two_and_rest args) _ o e in
    let v = bind_ok (choice p.0.2) _ o p.2 in
    let is : order.Fuse n p.0.0 p.0.1 v.0 ≡ o = cc in
    onward (two_and_rest args) p.0 (λ x. choice x.2 >>= λ y. Ok (order.Fuse m x.0 x.1 y)) (at_line m o) p.1
    (onward (choice p.0.2) v.0 (λ y. Ok (order.Fuse m p.0.0 p.0.1 y)) (at_line m o) v.1 (ap (λ (x : Order). Ok (at_line m x)) is))
order_again n m keyword.Replay args o e =
    let p = bind_ok (two_and_rest args) _ o e in
    let v = bind_ok (number p.0.2) _ o p.2 in
    let is : order.Replay n p.0.0 p.0.1 v.0 ≡ o = cc in
    onward (two_and_rest args) p.0 (λ x. number x.2 >>= λ y. Ok (order.Replay m x.0 x.1 y)) (at_line m o) p.1
    (onward (number p.0.2) v.0 (λ y. Ok (order.Replay m p.0.0 p.0.1 y)) (at_line m o) v.1 (ap (λ (x : Order). Ok (at_line m x)) is))
order_again n m keyword.Free args o e = elim (cases_Bool (bytes_eq args (codes "on"))) [
  | inl on ↦
      let h = rw on at e in
      let is : order.FreeOn n ≡ o = cc in
      rw on (ap (λ (x : Order). Ok (at_line m x)) is)
  | inr off ↦
      let h = rw off at e in
      elim (cases_Bool (bytes_eq args (codes "off"))) [
        | inl on ↦
            let h = rw on at h in
            let is : order.FreeOff n ≡ o = cc in
            rw (off, on) (ap (λ (x : Order). Ok (at_line m x)) is)
        | inr none ↦ let h = rw none at h in cc
      ]
]
order_again n m keyword.Offer args o e =
    let p = bind_ok (number_and_rest args) _ o e in
    elim (cases_Bool (length p.0.1 == 0)) [
      | inl on ↦ let h = rw on at p.2 in cc
      | inr off ↦
          let h = rw off at p.2 in
          let is : order.Offer n p.0.0 p.0.1 ≡ o = cc in
          onward (number_and_rest args) p.0 _ (at_line m o) p.1 (rw off (ap (λ (x : Order). Ok (at_line m x)) is))
    ]
order_again n m keyword.Backup args o e = elim (cases_Bool (bytes_eq args (codes "off"))) [
  | inl on ↦
      let h = rw on at e in
      let is : order.BackupOff n ≡ o = cc in
      rw on (ap (λ (x : Order). Ok (at_line m x)) is)
  | inr off ↦
      let h = rw off at e in
      elim (cases_Bool (bytes_eq args (codes "lose"))) [
        | inl on ↦
            let h = rw on at h in
            let is : order.BackupLose n ≡ o = cc in
            rw (off, on) (ap (λ (x : Order). Ok (at_line m x)) is)
        | inr other ↦
            let h = rw other at h in
            let v = bind_ok (number args) _ o h in
            let is : order.Backup n v.0 ≡ o = cc in
            rw (off, other) (onward (number args) v.0 (λ x. Ok (order.Backup m x)) (at_line m o) v.1 (ap (λ (x : Order). Ok (at_line m x)) is))
      ]
]

after_again : (n m : ℕ) (found : Option Keyword) (args : List ℕ) (o : Order) → order_after n found args ≡ Ok o → order_after m found args ≡ Ok (at_line m o)
unfolding order_after
after_again n m None args o e = cc
after_again n m (Some k) args o e = order_again n m k args o e

alone_never : {P : Type 0} (found : Option Keyword) (o : Order) → order_alone found ≡ Ok o → P
unfolding order_alone
alone_never None o e = cc
alone_never (Some k) o e = cc

by_again : (n m : ℕ) (text : List ℕ) (cut : Option (List ℕ × List ℕ)) (o : Order) → order_by n text cut ≡ Ok o → order_by m text cut ≡ Ok (at_line m o)
by_again n m text None o e = alone_never (keyword_of text) o e
by_again n m text (Some parts) o e = after_again n m (keyword_of parts.0) parts.1 o e

spelled_again : (n m : ℕ) (text : List ℕ) (o : Order) → spelled n text ≡ Ok o → spelled m text ≡ Ok (at_line m o)
unfolding spelled
spelled_again n m text o e = by_again n m text (cut_word text) o e

-- what is told, with an order more
pub told_more : (before : List Order) (o : Order) → told_after (told_by before) o ≡ told_by (before ++ o ∷ [])
told_more before o = sym (simp (fold-append, length-append))

unless_none : {A : Type 0} (f : Option Cause) (x y : A) → unless f x ≡ Ok y → (f ≡ None) × (x ≡ y)
unless_none None x y e = (refl, cc)
unless_none (Some c) x y e = cc

-- a line that gives an order
pub record Gave (told : Told) (n : ℕ) (line : List ℕ) (o : Order) : Type 0 where
  pub plain : list_all is_plain line ≡ true
  pub short : nat_lt 40000 (length line) ≡ false
  pub spells : spelled n line ≡ Ok o
  pub free : forbidden told o ≡ None

gave : (told : Told) (n : ℕ) (line : List ℕ) (o : Order) → judged told n line ≡ Ok o → Gave told n line o
unfolding judged
gave told n line o e = elim (cases_Bool (list_all is_plain line)) [
  | inr off ↦ let h = rw off at e in cc
  | inl on ↦
      let h = rw on at e in
      elim (cases_Bool (nat_lt 40000 (length line))) [
        | inl long ↦ let h = rw long at h in cc
        | inr short ↦
            let h = rw short at h in
            let x = bind_ok (spelled n line) _ o h in
            let parts = unless_none (forbidden told x.0) x.0 o x.2 in
            record { plain = on; short = short; spells = x.1 ∙ ap Ok parts.1; free = subst (λ (y : Order). forbidden told y ≡ None) parts.1 parts.0 }
      ]
]

gives_again : (told : Told) (n m : ℕ) (line : List ℕ) (o : Order) → Gave told n line o → judged told m line ≡ Ok (at_line m o)
unfolding judged
gives_again told n m line o g =
    let spells = spelled_again n m line o g.spells in
    let free = same_forbidden m told o ∙ g.free in
    rw (g.plain, g.short, spells, free) refl

-- lines that are printed are those lines
not_feed : (b : ℕ) → is_plain b ≡ true → is_feed b ≡ false
not_feed b e =
    let low = leb-true 32 b (and_parts (nat_le 32 b) (nat_le b 126) e).0 in
    grind (arith, nat_tests)

not_return : (b : ℕ) → is_plain b ≡ true → (b == 13) ≡ false
not_return b e =
    let low = leb-true 32 b (and_parts (nat_le 32 b) (nat_le b 126) e).0 in
    grind (arith, nat_tests)

split_plain : (line rest : List ℕ) → list_all is_plain line ≡ true → slice_split is_feed (line ++ 10 ∷ rest) ≡ line ∷ slice_split is_feed rest
split_plain [] rest plain = refl
split_plain (b ∷ line) rest plain =
    let parts = and_parts (is_plain b) (list_all is_plain line) plain in
    slice_split-cons_no is_feed b (line ++ 10 ∷ rest) (not_feed b parts.0) ∙ ap (onto_first b) (split_plain line rest parts.1)

keeps_all : (line : List ℕ) → list_all is_plain line ≡ true → without_return line ≡ line
keeps_all [] plain = refl
keeps_all (b ∷ line) plain =
    let last = all_at is_plain (b ∷ line) (length (b ∷ line) - 1) (omega arith) plain in
    rw (not_return (get_or (b ∷ line) (length (b ∷ line) - 1) 0) last) refl

-- an order's line has plain bytes alone
abbrev pub IsPlainOrder : Order → Type 0
IsPlainOrder o = list_all is_plain (order_text o) ≡ true

pub printed_lines : (os : List Order) → AllByRecursion IsPlainOrder os → lines (printed os) ≡ map order_text os
unfolding lines
printed_lines [] plain = refl
printed_lines (o ∷ os) plain =
    let rest = slice_split is_feed (printed os) in
    let more : 0 < length rest = omega (arith, length-slice_split is_feed (printed os)) in
    ap (λ t. ended_lines (slice_split is_feed t)) (append_assoc (order_text o) (10 ∷ []) (printed os))
    ∙ ap ended_lines (split_plain (order_text o) (printed os) plain.0) ∙ ended_cons (order_text o) rest more
    ∙ ap (λ t. t ∷ ended_lines rest) (keeps_all (order_text o) plain.0) ∙ ap (λ r. order_text o ∷ r) (printed_lines os plain.1)

-- one step of a reading, known
skip_after : (before : List Order) (n : ℕ) (line : List ℕ) → is_skipped line ≡ true → orders_after before n line ≡ Ok before
unfolding orders_after
skip_after before n line on = rw on refl

order_line : (before after : List Order) (n : ℕ) (line : List ℕ) → is_skipped line ≡ false → orders_after before n line ≡ Ok after → (o : Order) × (judged (told_by before) n line ≡ Ok o)
unfolding orders_after
order_line before after n line off e =
    let h = rw off at e in
    let x = bind_ok (judged (told_by before) n line) _ after h in
    (x.0, x.1)

pub order_after_is : (before : List Order) (n : ℕ) (line : List ℕ) (o : Order) → is_skipped line ≡ false → judged (told_by before) n line ≡ Ok o → orders_after before n line ≡ Ok (before ++ o ∷ [])
unfolding orders_after
order_after_is before n line o off e = rw (off, e) refl

is_allowed : (told : Told) (o : Order) → forbidden told o ≡ None → in_range told.members o ≡ true
unfolding forbidden
is_allowed told o e = elim (cases_Bool (in_range told.members o)) [
  | inl on ↦ on
  | inr off ↦ let h = rw off at e in cc
]

at_end_any : (n m : ℕ) (told : Told) → at_end n told ≡ None → at_end m told ≡ None
at_end_any n m told e = elim (cases_Bool (nat_lt 0 told.services)) [
  | inl on ↦ rw on refl
  | inr off ↦ let h = rw off at e in cc
]

abbrev pub reading : List Order → Option Refusal → Reading
reading os f = record { orders = os; fault = f }

-- the lines of orders that were read are read again
pub record Again (before others : List Order) (n m : ℕ) (ls : List (List ℕ)) : Type 0 where
  pub more : List Order
  pub orders : (read_from before n ls).orders ≡ before ++ more
  pub plain : AllByRecursion IsPlainOrder more
  pub again : read_from others m (map order_text more) ≡ reading (others ++ numbered m more) None

again_end : (before others : List Order) (n m : ℕ) → told_by before ≡ told_by others → (read_from before n []).fault ≡ None → Again before others n m []
unfolding read_from
again_end before others n m same e = record {
  more = [];
  orders = sym (append-nil before);
  plain = tt;
  again =
      let f : at_end m (told_by others) ≡ None = subst (λ (t : Told). at_end m t ≡ None) same (at_end_any n m (told_by before) e) in
      ap (reading others) f ∙ ap (λ os. reading os None) (sym (append-nil others));
}

again_skip : (before others : List Order) (n m : ℕ) (line : List ℕ) (rest : List (List ℕ)) → read_from before n (line ∷ rest) ≡ read_from before (n + 1) rest → Again before others (n + 1) m rest → Again before others n m (line ∷ rest)
again_skip before others n m line rest step a = record {
  more = a.more;
  orders = ap (λ (r : Reading). r.orders) step ∙ a.orders;
  plain = a.plain;
  again = a.again;
}

again_order : (before others : List Order) (n m : ℕ) (line : List ℕ) (rest : List (List ℕ)) (o : Order) → told_by before ≡ told_by others → members_of before ≤ 5 → is_skipped line ≡ false → Gave (told_by before) n line o
    → read_from before n (line ∷ rest) ≡ read_from (before ++ o ∷ []) (n + 1) rest → Again (before ++ o ∷ []) (others ++ at_line m o ∷ []) (n + 1) (m + 1) rest → Again before others n m (line ∷ rest)
again_order before others n m line rest o same small off g step a =
    let text : order_text o ≡ line = line_text n line o g.spells (small_in_range (members_of before) o small (is_allowed (told_by before) o g.free)) in
    let judge : judged (told_by others) m line ≡ Ok (at_line m o) = subst (λ (t : Told). judged t m line ≡ Ok (at_line m o)) same (gives_again (told_by before) n m line o g) in
    let after : orders_after others m (order_text o) ≡ Ok (others ++ at_line m o ∷ []) = subst (λ (l : List ℕ). orders_after others m l ≡ Ok (others ++ at_line m o ∷ [])) (sym text) (order_after_is others m line (at_line m o) off judge) in
    record {
      more = o ∷ a.more;
      orders = ap (λ (r : Reading). r.orders) step ∙ a.orders ∙ append_assoc before (o ∷ []) a.more;
      plain = (subst (λ (l : List ℕ). list_all is_plain l ≡ true) (sym text) g.plain, a.plain);
      again =
          read_step others (others ++ at_line m o ∷ []) m (order_text o) (map order_text a.more) after ∙ a.again
          ∙ ap (λ os. reading os None) (append_assoc others (at_line m o ∷ []) (numbered (m + 1) a.more));
    }

results : (r : Result (List Order) Cause) → ((x : List Order) × (r ≡ Ok x)) ⊎ ((c : Cause) × (r ≡ Err c))
results (Ok x) = inl (x, refl)
results (Err c) = inr (c, refl)

told_again : (before others : List Order) (m : ℕ) (o : Order) → told_by before ≡ told_by others → told_by (before ++ o ∷ []) ≡ told_by (others ++ at_line m o ∷ [])
told_again before others m o same = sym (told_more before o) ∙ ap (λ t. told_after t o) same ∙ sym (same_told m (told_by others) o) ∙ told_more others (at_line m o)

members_small : (m : ℕ) (o : Order) → m ≤ 5 → in_range m o ≡ true → members_after m o ≤ 5
unfolding in_range
members_small m (order.Members line n) le e = leb-true n 5 (and_parts (nat_le 1 n) (nat_le n 5) e).1
members_small m (order.Service line name) le e = le
members_small m (order.Rounds line n) le e = le
members_small m (order.Quiet line n) le e = le
members_small m (order.Connect line a b) le e = le
members_small m (order.Send line a b text) le e = le
members_small m (order.SendHex line a b payload) le e = le
members_small m (order.Close line a b) le e = le
members_small m (order.KeepAlive line a b) le e = le
members_small m (order.Raw line a b bytes) le e = le
members_small m (order.Action line n) le e = le
members_small m (order.Stop line n) le e = le
members_small m (order.Start line n) le e = le
members_small m (order.Invalidate line n) le e = le
members_small m (order.Fuse line a b left) le e = le
members_small m (order.Cut line a b) le e = le
members_small m (order.Heal line a b) le e = le
members_small m (order.Lose line a b) le e = le
members_small m (order.Replay line a b k) le e = le
members_small m (order.FreeOn line) le e = le
members_small m (order.FreeOff line) le e = le
members_small m (order.Join line c) le e = le
members_small m (order.Offer line c text) le e = le
members_small m (order.Backup line n) le e = le
members_small m (order.BackupOff line) le e = le
members_small m (order.BackupLose line) le e = le

members_again : (before : List Order) (o : Order) → members_of before ≤ 5 → in_range (members_of before) o ≡ true → members_of (before ++ o ∷ []) ≤ 5
members_again before o small within =
    subst (λ (k : ℕ). k ≤ 5) (ap (λ (t : Told). t.members) (told_more before o)) (members_small (members_of before) o small within)

read_again : (ls : List (List ℕ)) (before others : List Order) (n m : ℕ) → told_by before ≡ told_by others → members_of before ≤ 5 → (read_from before n ls).fault ≡ None → Again before others n m ls
read_again [] before others n m same small e = again_end before others n m same e
read_again (line ∷ rest) before others n m same small e = elim (results (orders_after before n line)) [
  | inr err ↦ let h = ap (λ (r : Reading). r.fault) (read_fault before n line rest err.0 err.1) in absurd (let no : ⊥ = cc in no)
  | inl ok ↦ elim (cases_Bool (is_skipped line)) [
    | inl on ↦
        let step = read_step before before n line rest (skip_after before n line on) in
        again_skip before others n m line rest step (read_again rest before others (n + 1) m same small (ap (λ (r : Reading). r.fault) (sym step) ∙ e))
    | inr off ↦
        let found = order_line before ok.0 n line off ok.1 in
        let o = found.0 in
        let g = gave (told_by before) n line o found.1 in
        let step = read_step before (before ++ o ∷ []) n line rest (order_after_is before n line o off found.1) in
        let next = read_again rest (before ++ o ∷ []) (others ++ at_line m o ∷ []) (n + 1) (m + 1) (told_again before others m o same) (members_again before o small (is_allowed (told_by before) o g.free)) (ap (λ (r : Reading). r.fault) (sym step) ∙ e) in
        again_order before others n m line rest o same small off g step next
  ]
]

-- a scenario's orders, printed, are a scenario of the same orders
pub printed_again : (text : List ℕ) → first_fault text ≡ None → reading_of (printed (orders_of text)) ≡ record { orders = numbered 1 (orders_of text); fault = None }
unfolding reading_of
printed_again text e =
    let a = read_again (lines text) [] [] 1 1 refl (omega arith) e in
    subst (λ (os : List Order). read_from [] 1 (lines (printed os)) ≡ reading (numbered 1 os) None) (sym a.orders) (ap (read_from [] 1) (printed_lines a.more a.plain) ∙ a.again)
