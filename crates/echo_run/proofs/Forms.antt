-- Orders that fit, one after the other.
use Rattle.std.proofs.Common.{◌≡◌, ℕ, suc, ◌+◌, ◌<◌, ◌≤◌, true, false, List, [], ◌∷◌, length, get_or, drop, All, sym, ◌∙◌, ap, arith}
use Rattle.std.specs.Prelude.{◌&&◌}
use Rattle.std.proofs.Math.Seq.{drop-cons}
use Rattle.std.proofs.lemmas.Bool.{and_parts}
use Rattle.std.proofs.lemmas.Bool.Decides.{nat_tests}
use Rattle.std.proofs.lemmas.List.{drop_all}
use Rattle.std.proofs.lemmas.List.Elements.{All-nil, All-cons}
use Rattle.scenario.specs.declared.order.Order.{Order}
use Rattle.scenario.specs.declared.order.Order.TheVariants as order
use Rattle.echo_run.specs.Driver.{IsNamed, rounds_of}
use Rattle.echo_run.specs.Form.{fits, next_stage, rounds_in, all_fit, is_of_form, are_rounds, is_one_member, is_echo_service, is_first_connect, is_message}
use Rattle.echo_run.specs.declared.form.Stage.{Stage}
use Rattle.echo_run.specs.declared.form.Stage.TheVariants as stage

few_rounds : (least before : ℕ) (o : Order) → are_rounds least before o ≡ true → before + rounds_in o ≤ 900
few_rounds least before (order.Rounds line n) e = grind (arith, nat_tests)
few_rounds least before _ e = absurd (cc)

no_rounds_members : (before : ℕ) (o : Order) → before ≤ 900 → is_one_member o ≡ true → before + rounds_in o ≤ 900
no_rounds_members before (order.Members line n) few e = omega arith
no_rounds_members before _ few e = absurd (cc)

no_rounds_service : (before : ℕ) (o : Order) → before ≤ 900 → is_echo_service o ≡ true → before + rounds_in o ≤ 900
no_rounds_service before (order.Service line n) few e = omega arith
no_rounds_service before _ few e = absurd (cc)

no_rounds_connect : (before : ℕ) (o : Order) → before ≤ 900 → is_first_connect o ≡ true → before + rounds_in o ≤ 900
no_rounds_connect before (order.Connect line c m) few e = omega arith
no_rounds_connect before _ few e = absurd (cc)

no_rounds_message : (before : ℕ) (o : Order) → before ≤ 900 → is_message o ≡ true → before + rounds_in o ≤ 900
no_rounds_message before (order.Send line c m text) few e = omega arith
no_rounds_message before _ few e = absurd (cc)

-- the rounds stay few
pub fits_few : (at : Stage) (before : ℕ) (o : Order) → before ≤ 900 → fits at before o ≡ true → before + rounds_in o ≤ 900
fits_few stage.Members before o few e = no_rounds_members before o few e
fits_few stage.Service before o few e = no_rounds_service before o few e
fits_few stage.Electing before o few e = few_rounds 35 before o e
fits_few stage.Connecting before o few e = no_rounds_connect before o few e
fits_few stage.Opening before o few e = few_rounds 0 before o e
fits_few stage.Sending before o few e = no_rounds_message before o few e
fits_few stage.Answering before o few e = few_rounds 0 before o e
fits_few stage.End before o few e = absurd (cc)

-- the next order is looked at
at_next : (at : Stage) (before : ℕ) (orders : List Order) (k : ℕ) (o : Order) → k < length orders → o ≡ get_or orders k o → all_fit at before (drop k orders) ≡ all_fit at before (o ∷ drop (suc k) orders)
at_next at before orders k o within is = ap (all_fit at before) (drop-cons orders k o within ∙ ap (λ x. x ∷ drop (suc k) orders) (sym is))

pub goes_on : (at : Stage) (before : ℕ) (orders : List Order) (k : ℕ) (o : Order) → k < length orders → o ≡ get_or orders k o → fits at before o ≡ true → all_fit at before (drop k orders) ≡ all_fit (next_stage at) (before + rounds_in o) (drop (suc k) orders)
goes_on at before orders k o within is fit = at_next at before orders k o within is ∙ ap (λ b. b && all_fit (next_stage at) (before + rounds_in o) (drop (suc k) orders)) fit

pub ends_at : (at : Stage) (before : ℕ) (orders : List Order) (k : ℕ) (o : Order) → k < length orders → o ≡ get_or orders k o → fits at before o ≡ false → all_fit at before (drop k orders) ≡ false
ends_at at before orders k o within is fit = at_next at before orders k o within is ∙ ap (λ b. b && all_fit (next_stage at) (before + rounds_in o) (drop (suc k) orders)) fit

-- nothing is left to look at
pub none_left : (at : Stage) (before : ℕ) (orders : List Order) (k : ℕ) → length orders ≤ k → all_fit at before (drop k orders) ≡ true
none_left at before orders k past = ap (all_fit at before) (drop_all k orders past)

-- how many orders may still come
abbrev pub left_at : Stage → ℕ
left_at stage.Members = 7
left_at stage.Service = 6
left_at stage.Electing = 5
left_at stage.Connecting = 4
left_at stage.Opening = 3
left_at stage.Sending = 2
left_at stage.Answering = 1
left_at stage.End = 0

-- each order that fits is one of them
one_less : (at : Stage) (before : ℕ) (o : Order) → fits at before o ≡ true → suc (left_at (next_stage at)) ≤ left_at at
one_less stage.Members before o fit = omega arith
one_less stage.Service before o fit = omega arith
one_less stage.Electing before o fit = omega arith
one_less stage.Connecting before o fit = omega arith
one_less stage.Opening before o fit = omega arith
one_less stage.Sending before o fit = omega arith
one_less stage.Answering before o fit = omega arith
one_less stage.End before o fit = absurd (cc)

named_members : (o : Order) → is_one_member o ≡ true → IsNamed o
named_members (order.Members line n) e = tt
named_members _ e = absurd (cc)

named_service : (o : Order) → is_echo_service o ≡ true → IsNamed o
named_service (order.Service line n) e = tt
named_service _ e = absurd (cc)

named_rounds : (least before : ℕ) (o : Order) → are_rounds least before o ≡ true → IsNamed o
named_rounds least before (order.Rounds line n) e = tt
named_rounds least before _ e = absurd (cc)

named_connect : (o : Order) → is_first_connect o ≡ true → IsNamed o
named_connect (order.Connect line c m) e = grind (arith, nat_tests)
named_connect _ e = absurd (cc)

named_message : (o : Order) → is_message o ≡ true → IsNamed o
named_message (order.Send line c m text) e = grind (arith, nat_tests)
named_message _ e = absurd (cc)

-- and it names one of 64 clients
fits_named : (at : Stage) (before : ℕ) (o : Order) → fits at before o ≡ true → IsNamed o
fits_named stage.Members before o e = named_members o e
fits_named stage.Service before o e = named_service o e
fits_named stage.Electing before o e = named_rounds 35 before o e
fits_named stage.Connecting before o e = named_connect o e
fits_named stage.Opening before o e = named_rounds 0 before o e
fits_named stage.Sending before o e = named_message o e
fits_named stage.Answering before o e = named_rounds 0 before o e
fits_named stage.End before o e = absurd (cc)

-- orders of the form: their clients are named, and their rounds and they themselves are few
pub record IsRunnable (before left : ℕ) (orders : List Order) : Type 0 where
  pub named : All IsNamed orders
  pub rounds : before + rounds_of orders ≤ 900
  pub few : length orders ≤ left

pub runnable_from : (at : Stage) (before : ℕ) (orders : List Order) → before ≤ 900 → all_fit at before orders ≡ true → IsRunnable before (left_at at) orders
runnable_from at before [] few all = record { named = All-nil IsNamed; rounds = omega arith; few = omega arith }
runnable_from at before (o ∷ orders) few all =
    let parts = and_parts (fits at before o) (all_fit (next_stage at) (before + rounds_in o) orders) all in
    let so_far = runnable_from (next_stage at) (before + rounds_in o) orders (fits_few at before o few parts.0) parts.1 in
    let less = one_less at before o parts.0 in
    record { named = All-cons IsNamed o orders (fits_named at before o parts.0) so_far.named; rounds = omega (arith, so_far.rounds); few = omega (arith, so_far.few, less) }

pub runnable : (orders : List Order) → is_of_form orders ≡ true → IsRunnable 0 7 orders
runnable orders all = runnable_from stage.Members 0 orders (omega arith) all
