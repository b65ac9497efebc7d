-- The orders of a scenario, and its first faulty line.
use Rattle.std.specs.Prelude.{◌≡◌, ℕ, ◌+◌, ◌==◌, Bool, true, false, not, ◌&&◌, nat_le, nat_lt, List, [], ◌∷◌, ◌++◌, length, fold, sum_by, count_by, replicate, if◌then◌else◌, Option, Some, None, Result, Ok, Err}
use Rattle.std.specs.List.{list_all}
use Rattle.scenario.specs.declared.fault.Cause.{Cause}
use Rattle.scenario.specs.declared.fault.Cause.TheVariants.{Byte, LongLine, Range, Header}
use Rattle.scenario.specs.declared.fault.Cause.TheVariants as cause
use Rattle.scenario.specs.declared.fault.Refusal.{Refusal}
use Rattle.scenario.specs.declared.fault.Reading.{Reading}
use Rattle.scenario.specs.declared.fault.ParseFault.{ParseFault}
use Rattle.scenario.specs.declared.fault.ParseFault.TheVariants as parsing
use Rattle.scenario.specs.declared.order.Order.{Order}
use Rattle.scenario.specs.declared.order.Order.TheVariants.{Members, Service, Rounds, Quiet, Connect, Send, SendHex, Close, KeepAlive, Raw, Action, Stop, Start, Invalidate, Fuse, Cut, Heal, Lose, Replay, FreeOn, FreeOff, Join, Offer, Backup, BackupOff, BackupLose}
use Rattle.scenario.specs.declared.told.Told.{Told}
use Rattle.scenario.specs.Result.{◌>>=◌}
use Rattle.scenario.specs.Lines.{lines, is_skipped, is_plain}
use Rattle.scenario.specs.Spelling.{spelled}
use Rattle.scenario.specs.declared.naming.ClientUse.{ClientUse}
use Rattle.scenario.specs.declared.naming.ClientUse.TheVariants.{Unused}
use Rattle.scenario.specs.Naming.{barred, clients_after}

-- the members that an order leaves, where there were m before it
abbrev pub members_after : ℕ → Order → ℕ
members_after m (Members line n) = n
members_after m _ = m

-- the number of members: 5 until it is told
abbrev pub members_of : List Order → ℕ
members_of orders = fold members_after 5 orders

abbrev pub is_service : Order → Bool
is_service (Service line name) = true
is_service _ = false

-- how many services are named
abbrev pub services_of : List Order → ℕ
services_of orders = count_by is_service orders

-- the rounds of an order
abbrev pub rounds_in : Order → ℕ
rounds_in (Rounds line n) = n
rounds_in (Quiet line n) = n
rounds_in _ = 0

-- the rounds in all
abbrev pub rounds_of : List Order → ℕ
rounds_of orders = sum_by rounds_in orders

-- what each of the 64 clients is used for, by its number
abbrev pub clients_of : List Order → List ClientUse
clients_of orders = fold clients_after (replicate 64 Unused) orders

-- from a to b, the ends included
abbrev pub is_within : ℕ → ℕ → ℕ → Bool
is_within a b n = nat_le a n && nat_le n b

-- a client's number, and a member's, where there are m members
abbrev pub is_addressed : ℕ → ℕ → ℕ → Bool
is_addressed m client member = nat_lt client 64 && nat_lt member m

-- two members that differ
abbrev pub is_link : ℕ → ℕ → ℕ → Bool
is_link m a b = nat_lt a m && nat_lt b m && not (a == b)

-- each number of an order is in its range, where there are m members
unfoldable pub in_range : ℕ → Order → Bool
in_range m (Members line n) = is_within 1 5 n
in_range m (Service line name) = true
in_range m (Rounds line n) = is_within 1 100000 n
in_range m (Quiet line n) = is_within 1 100000 n
in_range m (Connect line c member) = is_addressed m c member
in_range m (Send line c member text) = is_addressed m c member
in_range m (SendHex line c member payload) = is_addressed m c member
in_range m (Close line c member) = is_addressed m c member
in_range m (KeepAlive line c member) = is_addressed m c member
in_range m (Raw line c member bytes) = is_addressed m c member
in_range m (Action line member) = nat_lt member m
in_range m (Stop line member) = nat_lt member m
in_range m (Start line member) = nat_lt member m
in_range m (Invalidate line member) = nat_lt member m
in_range m (Fuse line member calls choice) = nat_lt member m && nat_le calls 1000
in_range m (Cut line a b) = is_link m a b
in_range m (Heal line a b) = is_link m a b
in_range m (Lose line a b) = is_link m a b
in_range m (Replay line a b k) = is_link m a b && is_within 1 256 k
in_range m (FreeOn line) = true
in_range m (FreeOff line) = true
in_range m (Join line c) = nat_lt c 64
in_range m (Offer line c text) = nat_lt c 64
in_range m (Backup line member) = nat_lt member m
in_range m (BackupOff line) = true
in_range m (BackupLose line) = true

-- An order may come behind n others of which s name services: `members` first, then one to three services with nothing
-- between, then the others.
unfoldable pub may_come : ℕ → ℕ → Order → Bool
may_come n s (Members line members) = n == 0
may_come n s (Service line name) = n == s + 1 && nat_lt s 3
may_come n s _ = nat_lt 0 s

-- what the orders so far tell
abbrev pub told_by : List Order → Told
told_by before = record { orders = length before; members = members_of before; services = services_of before; rounds = rounds_of before; clients = clients_of before }

-- the first cause that keeps an order from coming behind others: its ranges, its place, the rounds in all, its client
unfoldable pub forbidden : Told → Order → Option Cause
forbidden told o = if not (in_range told.members o) then Some Range else (if not (may_come told.orders told.services o) then Some Header else (if nat_lt 100000 (told.rounds + rounds_in o) then Some cause.Rounds else barred told.clients o))

-- a value, unless there is a cause
abbrev pub unless : {A : Type 0} → Option Cause → A → Result A Cause
unless None x = Ok x
unless (Some c) x = Err c

-- what is told once an order more has come
abbrev pub told_after : Told → Order → Told
told_after told o = record { orders = told.orders + 1; members = members_after told.members o; services = told.services + (if is_service o then 1 else 0); rounds = told.rounds + rounds_in o; clients = clients_after told.clients o }

-- the order of a line behind others, or the first cause that applies
unfoldable pub judged : Told → ℕ → List ℕ → Result Order Cause
judged told n line = if not (list_all is_plain line) then Err Byte else (if nat_lt 40000 (length line) then Err LongLine else (spelled n line >>= λ o. unless (forbidden told o) o))

-- the same, and what is told once that order has come
abbrev pub judged_and_told : Told → ℕ → List ℕ → Result (Order × Told) Cause
judged_and_told told n line = judged told n line >>= λ o. Ok (o, told_after told o)

-- the orders once a line more has come, which a skipped one leaves
unfoldable pub orders_after : List Order → ℕ → List ℕ → Result (List Order) Cause
orders_after before n line = if is_skipped line then Ok before else (judged (told_by before) n line >>= λ o. Ok (before ++ o ∷ []))

-- a header that is whole names a service
abbrev pub at_end : ℕ → Told → Option Refusal
at_end n told = if nat_lt 0 told.services then None else Some (record { line = n; cause = Header })

abbrev pub refused_at : ℕ → Cause → List Order → Reading
refused_at n cause before = record { orders = before; fault = Some (record { line = n; cause = cause }) }

-- the reading of the lines from number n on, behind these orders
unfoldable pub read_from : List Order → ℕ → List (List ℕ) → Reading
read_from before n [] = record { orders = before; fault = at_end n (told_by before) }
read_from before n (line ∷ rest) = elim (orders_after before n line) [ Ok after ↦ read_from after (n + 1) rest | Err c ↦ refused_at n c before ]

-- The reading of a text: the orders of its lines before the first faulty one, and that line's number and cause, or None.
unfoldable pub reading_of : List ℕ → Reading
reading_of text = read_from [] 1 (lines text)

-- the orders before the first faulty line
abbrev pub orders_of : List ℕ → List Order
orders_of text = (reading_of text).orders

-- the first faulty line and its cause; a text that has none is a scenario
abbrev pub first_fault : List ℕ → Option Refusal
first_fault text = (reading_of text).fault

-- parsing refuses a text for its first faulty line, or for want of memory
abbrev pub Refuses : ParseFault → List ℕ → Type 0
Refuses (parsing.Refused line c) text = first_fault text ≡ Some (record { line = line; cause = c })
Refuses parsing.NoMemory text = Unit {0}
