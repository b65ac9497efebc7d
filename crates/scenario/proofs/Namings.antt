-- The clients that orders name.
use Rattle.std.proofs.Common.{◌≡◌, ℕ, zero, suc, ◌<◌, Bool, true, false, List, [], ◌∷◌, set, get_or, refl, arith, inl, inr, Some, None}
use Rattle.std.specs.Prelude.{not, nat_lt, ◌&&◌, IfSome}
use Rattle.std.specs.List.{list_all}
use Rattle.std.proofs.lemmas.Bool.{cases_Bool, and_parts, ltb-true}
use Rattle.scenario.specs.declared.order.Order.{Order}
use Rattle.scenario.specs.declared.order.Order.TheVariants as order
use Rattle.scenario.specs.declared.naming.ClientUse.{ClientUse}
use Rattle.scenario.specs.declared.naming.ClientUse.TheVariants.{Unused, Ordered, Joined}
use Rattle.scenario.specs.declared.naming.Naming.TheVariants.{Sends}
use Rattle.scenario.specs.Orders.{in_range, is_addressed}
use Rattle.scenario.specs.Naming.{naming, used, barred_by}

addressed : (m c member : ℕ) → is_addressed m c member ≡ true → c < 64
addressed m c member e = ltb-true c 64 (and_parts (nat_lt c 64) (nat_lt member m) e).0

-- the client that an order in its ranges names is one of the 64
pub named_within : (m : ℕ) (o : Order) → in_range m o ≡ true → IfSome (naming o) (λ named. named.1 < 64)
unfolding in_range
named_within m (order.Members line n) e = tt
named_within m (order.Service line name) e = tt
named_within m (order.Rounds line n) e = tt
named_within m (order.Quiet line n) e = tt
named_within m (order.Connect line a b) e = addressed m a b e
named_within m (order.Send line a b text) e = addressed m a b e
named_within m (order.SendHex line a b payload) e = addressed m a b e
named_within m (order.Close line a b) e = addressed m a b e
named_within m (order.KeepAlive line a b) e = addressed m a b e
named_within m (order.Raw line a b bytes) e = addressed m a b e
named_within m (order.Action line n) e = tt
named_within m (order.Stop line n) e = tt
named_within m (order.Start line n) e = tt
named_within m (order.Invalidate line n) e = tt
named_within m (order.Fuse line a b left) e = tt
named_within m (order.Cut line a b) e = tt
named_within m (order.Heal line a b) e = tt
named_within m (order.Lose line a b) e = tt
named_within m (order.Replay line a b k) e = tt
named_within m (order.FreeOn line) e = tt
named_within m (order.FreeOff line) e = tt
named_within m (order.Join line c) e = ltb-true c 64 e
named_within m (order.Offer line c text) e = ltb-true c 64 e
named_within m (order.Backup line n) e = tt
named_within m (order.BackupOff line) e = tt
named_within m (order.BackupLose line) e = tt

-- a client that didn't join
abbrev pub is_apart : ClientUse → Bool
is_apart Joined = false
is_apart Unused = true
is_apart Ordered = true

-- where nobody joined, orders may send for everybody
pub sends_free : (clients : List ClientUse) (c : ℕ) → list_all is_apart clients ≡ true → barred_by (used clients c) Sends ≡ None
sends_free [] c e = refl
sends_free (Unused ∷ clients) zero e = refl
sends_free (Ordered ∷ clients) zero e = refl
sends_free (Joined ∷ clients) zero e = cc
sends_free (first ∷ clients) (suc c) e = sends_free clients c (and_parts (is_apart first) (list_all is_apart clients) e).1

-- and nobody has joined then
pub ordered_apart : (clients : List ClientUse) (c : ℕ) → list_all is_apart clients ≡ true → list_all is_apart (set clients c Ordered) ≡ true
ordered_apart [] c e = refl
ordered_apart (first ∷ clients) zero e = (and_parts (is_apart first) (list_all is_apart clients) e).1
ordered_apart (first ∷ clients) (suc c) e =
    let parts = and_parts (is_apart first) (list_all is_apart clients) e in
    rw (parts.0, ordered_apart clients c parts.1) refl
