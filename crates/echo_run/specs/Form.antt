-- The one form of scenario: one member with the echo service, and then a prefix of a first canvass with at least 35 rounds,
-- one connect, rounds, one message and rounds, in all at most 900 rounds.
use Rattle.std.specs.Prelude.{ℕ, ◌+◌, ◌==◌, Bool, true, false, ◌&&◌, nat_le, List, [], ◌∷◌, length}
use Rattle.scenario.specs.declared.order.Named.{Named}
use Rattle.scenario.specs.declared.order.Named.TheVariants as named
use Rattle.scenario.specs.declared.order.Order.{Order}
use Rattle.scenario.specs.declared.order.Order.TheVariants as order
use Rattle.echo_run.specs.declared.form.Stage.{Stage}
use Rattle.echo_run.specs.declared.form.Stage.TheVariants as stage

-- the stage behind an order that fits
abbrev pub next_stage : Stage → Stage
next_stage stage.Members = stage.Service
next_stage stage.Service = stage.Electing
next_stage stage.Electing = stage.Connecting
next_stage stage.Connecting = stage.Opening
next_stage stage.Opening = stage.Sending
next_stage stage.Sending = stage.Answering
next_stage stage.Answering = stage.End
next_stage stage.End = stage.End

abbrev pub is_echo : Named → Bool
is_echo named.Echo = true
is_echo named.Ledger = false
is_echo named.Ticker = false

-- the rounds of an order and those before it are at most 900 in all
abbrev pub is_few : ℕ → ℕ → Bool
is_few before rounds = nat_le (before + rounds) 900

abbrev pub is_one_member : Order → Bool
is_one_member (order.Members line members) = members == 1
is_one_member _ = false

abbrev pub is_echo_service : Order → Bool
is_echo_service (order.Service line name) = is_echo name
is_echo_service _ = false

-- at least so many rounds, and not too many behind those before
abbrev pub are_rounds : ℕ → ℕ → Order → Bool
are_rounds least before (order.Rounds line rounds) = nat_le least rounds && is_few before rounds
are_rounds least before _ = false

abbrev pub is_first_connect : Order → Bool
is_first_connect (order.Connect line client member) = client == 0 && member == 0
is_first_connect _ = false

abbrev pub is_message : Order → Bool
is_message (order.Send line client member text) = client == 0 && member == 0 && nat_le (length text) 16384
is_message _ = false

-- the order may stand at this stage, where there were so many rounds before
abbrev pub fits : Stage → ℕ → Order → Bool
fits stage.Members before o = is_one_member o
fits stage.Service before o = is_echo_service o
fits stage.Electing before o = are_rounds 35 before o
fits stage.Connecting before o = is_first_connect o
fits stage.Opening before o = are_rounds 0 before o
fits stage.Sending before o = is_message o
fits stage.Answering before o = are_rounds 0 before o
fits stage.End before o = false

abbrev pub rounds_in : Order → ℕ
rounds_in (order.Rounds line rounds) = rounds
rounds_in _ = 0

-- orders fit one after the other, from a stage on, behind so many rounds
abbrev pub all_fit : Stage → ℕ → List Order → Bool
all_fit at before [] = true
all_fit at before (o ∷ orders) = fits at before o && all_fit (next_stage at) (before + rounds_in o) orders

-- the scenario is of the form
abbrev pub is_of_form : List Order → Bool
is_of_form orders = all_fit stage.Members 0 orders
