-- The orders of the generated scenario, whose lines are counted apart (`numbered`).
use Rattle.std.specs.Prelude.{ℕ, ◌+◌, ◌-◌, ◌/◌, ◌%◌, ◌==◌, ◌||◌, List, [], ◌∷◌, ◌++◌, if◌then◌else◌, flat_map, decimal}
use Rattle.std.specs.List.{range_with_len}
use Rattle.scenario.specs.declared.order.Named.TheVariants.{Echo, Ledger}
use Rattle.scenario.specs.declared.order.Order.{Order}
use Rattle.scenario.specs.declared.order.Order.TheVariants.{Members, Service, Rounds, Connect, Send, Stop, Start}

-- message i: client i mod 5 sends the member an m and its number
abbrev pub message_order : ℕ → ℕ → Order
message_order member i = Send 0 (i % 5) member (109 ∷ decimal i)

-- three rounds after each fifth message, and after the last before this end
abbrev pub pause_orders : ℕ → ℕ → List Order
pause_orders end i = if (i + 1) % 5 == 0 || i + 1 == end then Rounds 0 3 ∷ [] else []

-- a message, and the rounds after it
abbrev pub step_orders : ℕ → ℕ → ℕ → List Order
step_orders member end i = message_order member i ∷ pause_orders end i

-- the messages from number a up to an end, to one member
abbrev pub half_orders : ℕ → ℕ → ℕ → List Order
half_orders member a end = flat_map (step_orders member end) (range_with_len a (end - a))

-- three members and five clients
abbrev pub head_orders : List Order
head_orders = Members 0 3 ∷ Service 0 Echo ∷ Service 0 Ledger ∷ Rounds 0 60 ∷ Connect 0 0 0 ∷ Connect 0 1 0 ∷ Connect 0 2 0 ∷ Connect 0 3 0 ∷ Connect 0 4 0 ∷ Rounds 0 5 ∷ []

-- the loss of the leader, and its return
abbrev pub middle_orders : List Order
middle_orders = Rounds 0 5 ∷ Stop 0 0 ∷ Rounds 0 300 ∷ Start 0 0 ∷ Rounds 0 100 ∷ []

-- n messages, the first half of them to member 0, the others to member 1
unfoldable pub made_orders : ℕ → List Order
made_orders n = head_orders ++ (half_orders 0 0 (n / 2) ++ (middle_orders ++ (half_orders 1 (n / 2) n ++ (Rounds 0 10 ∷ []))))
