-- The module that takes entries with the outboxes of its services is the module of the log.
use Rattle.std.proofs.Common.{◌≡◌, ℕ, zero, suc, ◌+◌, ◌<◌, ◌≤◌, List, [], ◌∷◌, ◌++◌, length, map, take, drop, Option, Some, refl, ap, sym, ◌∙◌, subst, arith, add-one, add-zero, zero-add}
use Rattle.std.specs.Prelude.{slice_get}
use Rattle.std.specs.List.{AllByRecursion}
use Rattle.std.proofs.lemmas.List.{take-map}
use Rattle.cl_base.specs.declared.entry.Entry.{Entry}
use Rattle.sbe_events.specs.declared.event.Event.{Event}
use Rattle.sbe_events.specs.Spelling.{HasSpelling}
use Rattle.service_api.specs.declared.shipped.Kind.{Kind}
use Rattle.service_api.specs.declared.shipped.Shipped.{Shipped}
use Rattle.service_api.specs.Shipped.{first_of}
use Rattle.service_api.specs.Service.{at_entry, outbox_from, outputs_from, state_from, state_of}
use Rattle.module_state.specs.Module.{module_after, module_part}
use Rattle.module_state.specs.Part.{after_asks}
use Rattle.module_state.specs.Places.{entry_of, log_of}
use Rattle.module_state.specs.Services.{asks_among, asks_from, module_of}
use Rattle.module_state.proofs.StepLaws.{module_push}
use Rattle.owed_egress.specs.Outbox.{outputs_in}
use Rattle.owed_egress.specs.Records.{output_in}
use Rattle.owed_egress.specs.Taken.{asks_at, module_over, module_with, outboxes_from, outboxes_in, states_over}
use Rattle.owed_egress.proofs.Over.{over_next}
use Rattle.owed_egress.proofs.Rising.{outputs_found}

-- what comes out at an entry doesn't depend on those behind it
outputs_front : (s : Shipped) (i m k : ℕ) (xs : List Entry) → k < m → outputs_from s i (take m xs) k ≡ outputs_from s i xs k
outputs_front s i zero k xs less = absurd (omega arith)
outputs_front s i (suc m) k [] less = refl
outputs_front s i (suc m) zero (x ∷ xs) less = refl
outputs_front s i (suc m) (suc k) (x ∷ xs) less = outputs_front (at_entry s i x).0 (i + 1) m k xs (omega arith)

further : (i k : ℕ) → (i + 1) + k ≡ i + suc k
further i k = omega arith

later : (f k : ℕ) → suc f + k ≡ suc (f + k)
later f k = omega arith

-- nor, past the first entries, on more of them than the state after them
outputs_past : (s : Shipped) (i f k : ℕ) (xs : List Entry) → outputs_from s i xs (f + k) ≡ outputs_from (state_from s i (take f xs)) (i + f) (drop f xs) k
outputs_past s i zero k xs = ap (outputs_from s i xs) (zero-add k) ∙ ap (λ n. outputs_from s n xs k) (sym (add-zero i))
outputs_past s i (suc f) k [] = refl
outputs_past s i (suc f) k (x ∷ xs) =
    ap (outputs_from s i (x ∷ xs)) (later f k) ∙ outputs_past (at_entry s i x).0 (i + 1) f k xs
    ∙ ap (λ n. outputs_from (state_from (at_entry s i x).0 (i + 1) (take f xs)) n (drop f xs) k) (further i f)

-- a service's outbox has what the service asks at an entry
one_asks : (kind : Kind) (log : List Event) (first many n : ℕ) → n < many
    → map output_in (outputs_in (first + n) (outbox_from (state_of kind (log_of (take first log))) first (take many (drop first (log_of log)))))
    ≡ outputs_from (first_of kind) 0 (log_of (take (suc (first + n)) log)) (first + n)
one_asks kind log first many n less =
    let s : Shipped = first_of kind in
    let xs : List Entry = log_of log in
    let front : state_of kind (log_of (take first log)) ≡ state_from s 0 (take first xs) = ap (λ l. state_from s 0 l) (sym (take-map entry_of first log)) in
    outputs_found (state_of kind (log_of (take first log))) first n (take many (drop first xs))
    ∙ outputs_front (state_of kind (log_of (take first log))) first many n (drop first xs) less
    ∙ ap (λ z. outputs_from z first (drop first xs) n) front
    ∙ ap (λ j. outputs_from (state_from s 0 (take first xs)) j (drop first xs) n) (sym (zero-add first))
    ∙ sym (outputs_past s 0 first n xs)
    ∙ sym (outputs_front s 0 (suc (first + n)) (first + n) xs (omega arith))
    ∙ ap (λ l. outputs_from s 0 l (first + n)) (take-map entry_of (suc (first + n)) log)

-- and so have all of them
all_ask : (v : ℕ) (kinds : List Kind) (log : List Event) (first many n : ℕ) → n < many
    → asks_at (first + n) (outboxes_from v (states_over kinds (take first log)) first (take many (drop first (log_of log)))) ≡ asks_from v (map first_of kinds) 0 (take (suc (first + n)) log) (first + n)
all_ask v [] log first many n less = refl
all_ask v (kind ∷ kinds) log first many n less =
    (λ i. asks_among v (one_asks kind log first many n less i) ++ all_ask (suc v) kinds log first many n less i)

abbrev some_of : Event → Option Event
some_of x = Some x

some_is : (x e : Event) → some_of x ≡ some_of e → x ≡ e
some_is x e is = cc

-- a front with one event more
front_more : (log : List Event) (m : ℕ) (e : Event) → slice_get log m ≡ some_of e → take (suc m) log ≡ take m log ++ e ∷ []
front_more [] m e is = absurd (cc)
front_more (x ∷ xs) zero e is = ap (λ y. y ∷ []) (some_is x e is)
front_more (x ∷ xs) (suc m) e is = ap (λ l. x ∷ l) (front_more xs m e is)

-- what stands past the first events
get_past : (log : List Event) (f n : ℕ) → slice_get (drop f log) n ≡ slice_get log (f + n)
get_past log zero n = ap (slice_get log) (sym (zero-add n))
get_past [] (suc f) n = refl
get_past (x ∷ xs) (suc f) n = get_past xs f n ∙ ap (slice_get (x ∷ xs)) (sym (later f n))

there : (log : List Event) (m : ℕ) → m < length log → (e : Event) × (slice_get log m ≡ some_of e)
there [] m less = absurd (omega arith)
there (x ∷ xs) zero less = (x, refl)
there (x ∷ xs) (suc m) less = there xs m (omega arith)

all_front : (log : List Event) (m : ℕ) → AllByRecursion HasSpelling log → AllByRecursion HasSpelling (take m log)
all_front log zero h = tt
all_front [] (suc m) h = tt
all_front (x ∷ xs) (suc m) h = (h.0, all_front xs m h.1)

front_long : (log : List Event) (m : ℕ) → m ≤ length log → length (take m log) ≡ m
front_long log zero few = refl
front_long [] (suc m) few = absurd (omega arith)
front_long (x ∷ xs) (suc m) few = ap (λ k. suc k) (front_long xs m (omega arith))

-- one entry more
step : (kinds : List Kind) (log : List Event) (first many n : ℕ) → n < many → first + n < length log → AllByRecursion HasSpelling log
    → module_with (outboxes_in kinds log first many) (first + n) (module_of kinds (take (first + n) log)) (slice_get (drop first log) n) ≡ module_of kinds (take (suc (first + n)) log)
step kinds log first many n less room fits =
    let m : ℕ = first + n in
    let at = there log m room in
    let e : Event = at.0 in
    let more : take (suc m) log ≡ take m log ++ e ∷ [] = front_more log m e at.1 in
    let spelled : AllByRecursion HasSpelling (take m log ++ e ∷ []) = subst (AllByRecursion HasSpelling) more (all_front log (suc m) fits) in
    let long : length (take m log) ≡ m = front_long log m (omega arith) in
    ap (module_with (outboxes_in kinds log first many) m (module_of kinds (take m log))) (get_past log first n ∙ at.1)
    ∙ ap (after_asks module_part (module_after (module_of kinds (take m log)) e)) (all_ask 0 kinds log first many n less ∙ (λ i. asks_from 0 (map first_of kinds) 0 (more i) (sym long i)))
    ∙ sym (module_push kinds (take m log) e spelled)
    ∙ ap (module_of kinds) (sym more)

-- up to so many entries
pub module_goes_on : (kinds : List Kind) (log : List Event) (first many n : ℕ) → n ≤ many → first + n ≤ length log → AllByRecursion HasSpelling log
    → module_over (outboxes_in kinds log first many) first (module_of kinds (take first log)) (take n (drop first log)) ≡ module_of kinds (take (first + n) log)
module_goes_on kinds log first many zero few room fits = ap (λ k. module_of kinds (take k log)) (sym (add-zero first))
module_goes_on kinds log first many (suc n) few room fits =
    let on : suc (first + n) ≡ first + suc n = omega arith in
    ap (λ k. module_over (outboxes_in kinds log first many) first (module_of kinds (take first log)) (take k (drop first log))) (sym (add-one n))
    ∙ over_next (outboxes_in kinds log first many) first n (module_of kinds (take first log)) (drop first log)
    ∙ ap (λ s. module_with (outboxes_in kinds log first many) (first + n) s (slice_get (drop first log) n)) (module_goes_on kinds log first many n (omega arith) (omega arith) fits)
    ∙ step kinds log first many n (omega arith) (omega arith) fits
    ∙ ap (λ k. module_of kinds (take k log)) on
