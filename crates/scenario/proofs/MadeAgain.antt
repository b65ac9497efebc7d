-- The generated scenario is read whole: each of its orders may come where it stands.
use Rattle.std.proofs.Common.{◌≡◌, ℕ, zero, suc, ◌<◌, ◌≤◌, ◌+◌, ◌-◌, ◌*◌, ◌/◌, ◌%◌, Bool, true, false, List, [], ◌∷◌, ◌++◌, map, refl, ap, ◌∙◌, sym, arith, None, Ok, subst, append_assoc}
use Rattle.std.specs.Prelude.{nat_lt, ◌==◌, ◌||◌, if◌then◌else◌, codes, flat_map, decimal}
use Rattle.std.specs.List.{list_all, range_with_len, AllByRecursion}
use Rattle.std.proofs.lemmas.Bool.{lt-ltb, le-ltb}
use Rattle.std.proofs.lemmas.List.{append-nil}
use Rattle.std.proofs.lemmas.Grind.{flat_map-append}
use Rattle.std.proofs.Math.Nat.{mod-lt}
use Rattle.scenario.specs.declared.order.Order.{Order}
use Rattle.scenario.specs.declared.order.Order.TheVariants as order
use Rattle.scenario.specs.declared.told.Told.{Told}
use Rattle.scenario.specs.Orders.{in_range, may_come, told_by, told_after, rounds_in, forbidden, judged, at_end, read_from, reading_of}
use Rattle.scenario.specs.Naming.{barred}
use Rattle.scenario.specs.Printing.{order_text, printed}
use Rattle.scenario.specs.Numbered.{at_line, numbered}
use Rattle.scenario.specs.Words.{number}
use Rattle.scenario.specs.Made.{message_text, message_step, half, head_text, middle_text, made}
use Rattle.scenario.proofs.Canonical.{number_text}
use Rattle.scenario.specs.MadeOrders.{message_order, pause_orders, step_orders, half_orders, head_orders, middle_orders, made_orders}
use Rattle.scenario.proofs.OrderLaws.{read_step}
use Rattle.scenario.proofs.Namings.{is_apart, sends_free, ordered_apart}
use Rattle.scenario.proofs.Again.{same_forbidden, same_told, told_more, order_after_is, reading, IsPlainOrder, printed_lines}
use Rattle.scenario.proofs.MadeLines.{Reads, message_reads, members_reads, echo_reads, ledger_reads, rounds_read, connect_reads, stop_reads, start_reads}

-- each of these orders is read from its line, and may come behind those that were told and those before it
abbrev Fine : Told → List Order → Type 0
Fine told [] = nat_lt 0 told.services ≡ true
Fine told (o ∷ os) = Reads o × (forbidden told o ≡ None) × Fine (told_after told o) os

judged_is : (told : Told) (n : ℕ) (o : Order) → Reads o → forbidden told o ≡ None → judged told n (order_text o) ≡ Ok (at_line n o)
unfolding judged
judged_is told n o r free =
    let allowed = same_forbidden n told o ∙ free in
    rw (r.plain, r.short, r.spells n, allowed) refl

fine_plain : (os : List Order) (told : Told) → Fine told os → AllByRecursion IsPlainOrder os
fine_plain [] told f = tt
fine_plain (o ∷ os) told f = (f.0.plain, fine_plain os (told_after told o) f.2)

fine_end : (before : List Order) (told : Told) (n : ℕ) → told_by before ≡ told → nat_lt 0 told.services ≡ true → read_from before n [] ≡ reading before None
unfolding read_from
fine_end before told n same some =
    let none : at_end n told ≡ None = rw some refl in
    ap (reading before) (ap (at_end n) same ∙ none)

fine_read : (os before : List Order) (told : Told) (n : ℕ) → told_by before ≡ told → Fine told os → read_from before n (map order_text os) ≡ reading (before ++ numbered n os) None
fine_read [] before told n same f = fine_end before told n same f ∙ ap (λ os. reading os None) (sym (append-nil before))
fine_read (o ∷ os) before told n same f =
    let next = before ++ at_line n o ∷ [] in
    let judge : judged (told_by before) n (order_text o) ≡ Ok (at_line n o) = subst (λ (t : Told). judged t n (order_text o) ≡ Ok (at_line n o)) (sym same) (judged_is told n o f.0 f.1) in
    let after = order_after_is before n (order_text o) (at_line n o) f.0.seen judge in
    let told_next : told_by next ≡ told_after told o = sym (told_more before (at_line n o)) ∙ same_told n (told_by before) o ∙ ap (λ t. told_after t o) same in
    read_step before next n (order_text o) (map order_text os) after ∙ fine_read os next (told_after told o) (n + 1) told_next f.2
    ∙ ap (λ os. reading os None) (append_assoc before (at_line n o ∷ []) (numbered (n + 1) os))

-- three members, two services, so many rounds at most, and nobody joined
record Going (told : Told) (r : ℕ) : Type 0 where
  members : told.members ≡ 3
  services : told.services ≡ 2
  rounds : told.rounds ≤ r
  clients : list_all is_apart told.clients ≡ true

allowed : (told : Told) (o : Order) → in_range told.members o ≡ true → may_come told.orders told.services o ≡ true → told.rounds + rounds_in o ≤ 100000 → barred told.clients o ≡ None → forbidden told o ≡ None
unfolding forbidden
allowed told o within place fits free =
    let few : nat_lt 100000 (told.rounds + rounds_in o) ≡ false = le-ltb 100000 (told.rounds + rounds_in o) fits in
    rw (within, place, few) free

message_allowed : (told : Told) (r member i : ℕ) → member < 3 → r ≤ 100000 → Going told r → forbidden told (message_order member i) ≡ None
unfolding in_range may_come
message_allowed told r member i lt le g =
    let c = lt-ltb (i % 5) 64 (omega (arith, mod-lt i {m = 5} (omega arith))) in
    let m = lt-ltb member told.members (omega (arith, g.members)) in
    let s = lt-ltb 0 told.services (omega (arith, g.services)) in
    allowed told (message_order member i) (rw (c, m) refl) s (omega (arith, g.rounds)) (sends_free told.clients (i % 5) g.clients)

pause_allowed : (told : Told) (r : ℕ) → r + 3 ≤ 100000 → Going told r → forbidden told (order.Rounds 0 3) ≡ None
unfolding in_range may_come
pause_allowed told r le g = allowed told (order.Rounds 0 3) refl (lt-ltb 0 told.services (omega (arith, g.services))) (omega (arith, g.rounds)) refl

-- rounds go on
rounds_allowed : (told : Told) (r k : ℕ) → in_range told.members (order.Rounds 0 k) ≡ true → r + k ≤ 100000 → Going told r → forbidden told (order.Rounds 0 k) ≡ None
unfolding may_come
rounds_allowed told r k within le g = allowed told (order.Rounds 0 k) within (lt-ltb 0 told.services (omega (arith, g.services))) (omega (arith, g.rounds)) refl

going_rounds : (told : Told) (r k : ℕ) → Going told r → Going (told_after told (order.Rounds 0 k)) (r + k)
going_rounds told r k g = record { members = g.members; services = omega (arith, g.services); rounds = omega (arith, g.rounds); clients = g.clients }

going_send : (told : Told) (r member i : ℕ) → Going told r → Going (told_after told (message_order member i)) r
going_send told r member i g = record { members = g.members; services = omega (arith, g.services); rounds = omega (arith, g.rounds); clients = ordered_apart told.clients (i % 5) g.clients }

wider : (told : Told) (r s : ℕ) → r ≤ s → Going told r → Going told s
wider told r s le g = record { members = g.members; services = g.services; rounds = omega (arith, g.rounds); clients = g.clients }

pause_fine : (b : Bool) (r : ℕ) (told : Told) (rest : List Order) → r + 3 ≤ 100000 → Going told r → ((t : Told) → Going t (r + 3) → Fine t rest) → Fine told ((if b then order.Rounds 0 3 ∷ [] else []) ++ rest)
pause_fine true r told rest le g next = (rounds_read 3 (omega arith), pause_allowed told r le g, next (told_after told (order.Rounds 0 3)) (going_rounds told r 3 g))
pause_fine false r told rest le g next = next told (wider told r (r + 3) (omega arith) g)

half_fine : (k a end member r : ℕ) (told : Told) (rest : List Order) → member < 3 → a + k ≤ 20000 → r + 3 * k ≤ 100000 → Going told r → ((t : Told) → Going t (r + 3 * k) → Fine t rest)
    → Fine told (flat_map (step_orders member end) (range_with_len a k) ++ rest)
half_fine zero a end member r told rest lt le few g next = next told (wider told r (r + 3 * 0) (omega arith) g)
half_fine (suc k) a end member r told rest lt le few g next =
    let others = flat_map (step_orders member end) (range_with_len (a + 1) k) in
    let sent = told_after told (message_order member a) in
    let behind : Fine sent (pause_orders end a ++ (others ++ rest)) =
    pause_fine ((a + 1) % 5 == 0 || a + 1 == end) r sent (others ++ rest) (omega arith) (going_send told r member a g)
    (λ t h. half_fine k (a + 1) end member (r + 3) t rest lt (omega arith) (omega arith) h (λ u i. next u (wider u ((r + 3) + 3 * k) (r + 3 * suc k) (omega arith) i))) in
    (message_reads member a (omega arith) (omega arith), message_allowed told r member a lt (omega arith) g, subst (Fine sent) (sym (append_assoc (pause_orders end a) others rest)) behind)

-- the end
last_fine : (told : Told) (r : ℕ) → r + 10 ≤ 100000 → Going told r → Fine told (order.Rounds 0 10 ∷ [])
unfolding in_range
last_fine told r le g = (rounds_read 10 (omega arith), rounds_allowed told r 10 refl le g, lt-ltb 0 (told.services + 0) (omega (arith, g.services)))

-- a member that there is stops or starts
stop_allowed : (told : Told) (r : ℕ) → r ≤ 100000 → Going told r → forbidden told (order.Stop 0 0) ≡ None
unfolding in_range may_come
stop_allowed told r le g = allowed told (order.Stop 0 0) (lt-ltb 0 told.members (omega (arith, g.members))) (lt-ltb 0 told.services (omega (arith, g.services))) (omega (arith, g.rounds)) refl

start_allowed : (told : Told) (r : ℕ) → r ≤ 100000 → Going told r → forbidden told (order.Start 0 0) ≡ None
unfolding in_range may_come
start_allowed told r le g = allowed told (order.Start 0 0) (lt-ltb 0 told.members (omega (arith, g.members))) (lt-ltb 0 told.services (omega (arith, g.services))) (omega (arith, g.rounds)) refl

going_stop : (told : Told) (r : ℕ) → Going told r → Going (told_after told (order.Stop 0 0)) r
going_stop told r g = record { members = g.members; services = omega (arith, g.services); rounds = omega (arith, g.rounds); clients = g.clients }

going_start : (told : Told) (r : ℕ) → Going told r → Going (told_after told (order.Start 0 0)) r
going_start told r g = record { members = g.members; services = omega (arith, g.services); rounds = omega (arith, g.rounds); clients = g.clients }

middle_fine : (told : Told) (r : ℕ) (rest : List Order) → r + 405 ≤ 100000 → Going told r → ((t : Told) → Going t (r + 405) → Fine t rest) → Fine told (middle_orders ++ rest)
unfolding in_range
middle_fine told r rest le g next =
    let a = told_after told (order.Rounds 0 5) in
    let ga = going_rounds told r 5 g in
    let b = told_after a (order.Stop 0 0) in
    let gb = going_stop a (r + 5) ga in
    let c = told_after b (order.Rounds 0 300) in
    let gc = going_rounds b (r + 5) 300 gb in
    let d = told_after c (order.Start 0 0) in
    let gd = going_start c (r + 5 + 300) gc in
    let e = told_after d (order.Rounds 0 100) in
    let ge = going_rounds d (r + 5 + 300) 100 gd in (
      rounds_read 5 (omega arith),
      rounds_allowed told r 5 refl (omega arith) g,
      (
        stop_reads,
        stop_allowed a (r + 5) (omega arith) ga,
        (
          rounds_read 300 (omega arith),
          rounds_allowed b (r + 5) 300 refl (omega arith) gb,
          (
            start_reads,
            start_allowed c (r + 5 + 300) (omega arith) gc,
            (
              rounds_read 100 (omega arith),
              rounds_allowed d (r + 5 + 300) 100 refl (omega arith) gd,
              next e (wider e (r + 5 + 300 + 100) (r + 405) (omega arith) ge),
            ),
          ),
        ),
      ),
    )

head_fine : (rest : List Order) → ((t : Told) → Going t 65 → Fine t rest) → Fine (told_by []) (head_orders ++ rest)
unfolding forbidden in_range may_come
head_fine rest next = (
  members_reads,
  refl,
  (
    echo_reads,
    refl,
    (
      ledger_reads,
      refl,
      (
        rounds_read 60 (omega arith),
        refl,
        (
          connect_reads 0 (omega arith),
          refl,
          (
            connect_reads 1 (omega arith),
            refl,
            (
              connect_reads 2 (omega arith),
              refl,
              (
                connect_reads 3 (omega arith),
                refl,
                (
                  connect_reads 4 (omega arith),
                  refl,
                  (rounds_read 5 (omega arith), refl, next _ (record { members = refl; services = refl; rounds = omega arith; clients = refl })),
                ),
              ),
            ),
          ),
        ),
      ),
    ),
  ),
)

made_fine : (n : ℕ) → n ≤ 20000 → Fine (told_by []) (made_orders n)
unfolding made_orders
made_fine n le =
    let h = n / 2 in
    let a = h - 0 in
    let b = n - h in
    let last = order.Rounds 0 10 ∷ [] in
    let second = half_orders 1 h n ++ last in
    let middle = middle_orders ++ second in
    head_fine (half_orders 0 0 h ++ middle)
    (λ t g. half_fine a 0 h 0 65 t middle (omega arith) (omega arith) (omega arith) g
    (λ u i. middle_fine u (65 + 3 * a) second (omega arith) i
    (λ v j. half_fine b h n 1 (65 + 3 * a + 405) v last (omega arith) (omega arith) (omega arith) j
    (λ w k. last_fine w (65 + 3 * a + 405 + 3 * b) (omega arith) k))))

-- numbers as text
shown : (word : List ℕ) (n : ℕ) → number word ≡ Ok n → n ≤ 1000 → decimal n ≡ word
shown word n e le = number_text word n e (omega arith)

shown_0 : decimal 0 ≡ codes "0"
unfolding number
shown_0 = shown (codes "0") 0 refl (omega arith)

shown_1 : decimal 1 ≡ codes "1"
unfolding number
shown_1 = shown (codes "1") 1 refl (omega arith)

shown_2 : decimal 2 ≡ codes "2"
unfolding number
shown_2 = shown (codes "2") 2 refl (omega arith)

shown_3 : decimal 3 ≡ codes "3"
unfolding number
shown_3 = shown (codes "3") 3 refl (omega arith)

shown_4 : decimal 4 ≡ codes "4"
unfolding number
shown_4 = shown (codes "4") 4 refl (omega arith)

shown_5 : decimal 5 ≡ codes "5"
unfolding number
shown_5 = shown (codes "5") 5 refl (omega arith)

shown_10 : decimal 10 ≡ codes "10"
unfolding number
shown_10 = shown (codes "10") 10 refl (omega arith)

shown_60 : decimal 60 ≡ codes "60"
unfolding number
shown_60 = shown (codes "60") 60 refl (omega arith)

shown_100 : decimal 100 ≡ codes "100"
unfolding number
shown_100 = shown (codes "100") 100 refl (omega arith)

shown_300 : decimal 300 ≡ codes "300"
unfolding number
shown_300 = shown (codes "300") 300 refl (omega arith)

-- the text is that of the orders
message_printed : (member i : ℕ) → order_text (message_order member i) ++ 10 ∷ [] ≡ message_text member i
unfolding order_text
message_printed member i = simp append_assoc

pause_printed : (b : Bool) → printed (if b then order.Rounds 0 3 ∷ [] else []) ≡ (if b then codes "rounds 3\n" else [])
unfolding order_text
pause_printed true = rw shown_3 refl
pause_printed false = refl

printed_append : (front rest : List Order) → printed (front ++ rest) ≡ printed front ++ printed rest
printed_append front rest = flat_map-append (λ o. order_text o ++ 10 ∷ []) front rest

step_printed : (member end i : ℕ) → printed (step_orders member end i) ≡ message_step member end i
step_printed member end i =
    ap (λ t. t ++ printed (pause_orders end i)) (message_printed member i) ∙ ap (λ t. message_text member i ++ t) (pause_printed ((i + 1) % 5 == 0 || i + 1 == end))

steps_printed : (member end : ℕ) (is : List ℕ) → printed (flat_map (step_orders member end) is) ≡ flat_map (message_step member end) is
steps_printed member end [] = refl
steps_printed member end (i ∷ is) =
    printed_append (step_orders member end i) (flat_map (step_orders member end) is)
    ∙ ap (λ t. t ++ printed (flat_map (step_orders member end) is)) (step_printed member end i) ∙ ap (λ t. message_step member end i ++ t) (steps_printed member end is)

half_printed : (member a end : ℕ) (rest : List Order) → printed (half_orders member a end ++ rest) ≡ half member a end ++ printed rest
half_printed member a end rest = printed_append (half_orders member a end) rest ∙ ap (λ t. t ++ printed rest) (steps_printed member end (range_with_len a (end - a)))

head_printed : (rest : List Order) → printed (head_orders ++ rest) ≡ head_text ++ printed rest
unfolding order_text
head_printed rest = rw (shown_3, shown_60, shown_0, shown_1, shown_2, shown_4, shown_5) refl

middle_printed : (rest : List Order) → printed (middle_orders ++ rest) ≡ middle_text ++ printed rest
unfolding order_text
middle_printed rest = rw (shown_5, shown_0, shown_300, shown_100) refl

last_printed : printed (order.Rounds 0 10 ∷ []) ≡ codes "rounds 10\n"
unfolding order_text
last_printed = rw shown_10 refl

-- five texts, from the left or from the right
five : (a b c d e : List ℕ) → a ++ (b ++ (c ++ (d ++ e))) ≡ (((a ++ b) ++ c) ++ d) ++ e
five a b c d e = sym (simp append_assoc)

made_printed : (n : ℕ) → printed (made_orders n) ≡ made n
unfolding made made_orders
made_printed n =
    let h = n / 2 in
    let last = order.Rounds 0 10 ∷ [] in
    let second = half_orders 1 h n ++ last in
    let a = half 0 0 h in
    let b = half 1 h n in
    head_printed (half_orders 0 0 h ++ (middle_orders ++ second))
    ∙ ap (λ t. head_text ++ t) (half_printed 0 0 h (middle_orders ++ second))
    ∙ ap (λ t. head_text ++ (a ++ t)) (middle_printed second)
    ∙ ap (λ t. head_text ++ (a ++ (middle_text ++ t))) (half_printed 1 h n last)
    ∙ ap (λ t. head_text ++ (a ++ (middle_text ++ (b ++ t)))) last_printed
    ∙ five head_text a middle_text b (codes "rounds 10\n")

-- the generated scenario is read as its orders, one on each line
pub made_read : (n : ℕ) → n ≤ 20000 → reading_of (made n) ≡ record { orders = numbered 1 (made_orders n); fault = None }
unfolding reading_of
made_read n le =
    let fine = made_fine n le in
    ap reading_of (sym (made_printed n)) ∙ ap (read_from [] 1) (printed_lines (made_orders n) (fine_plain (made_orders n) (told_by []) fine)) ∙ fine_read (made_orders n) [] (told_by []) 1 refl fine
