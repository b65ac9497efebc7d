-- What the entries of a phase owe, record by record.
use Rattle.std.proofs.Common.{◌≡◌, ℕ, zero, suc, ◌+◌, ◌-◌, ◌<◌, ◌≤◌, ℤ, Bool, true, false, List, [], ◌∷◌, ◌++◌, length, map, take, drop, Option, Some, None, refl, sym, ap, ◌∙◌, subst, arith, add-zero, add-one, zero-add, append_assoc, if◌then◌else◌}
use Rattle.std.specs.Prelude.{nat_le, slice_get}
use Rattle.std.specs.List.{AllByRecursion}
use Rattle.std.proofs.lemmas.Bool.Decides.{nat_tests}
use Rattle.std.proofs.lemmas.List.{append-nil, take-map, take-take}
use Rattle.cl_base.specs.declared.entry.Entry.{Entry}
use Rattle.commit_counter.specs.declared.role.Role.{Role}
use Rattle.commit_counter.specs.declared.role.Role.TheVariants.{Follower, Leader}
use Rattle.egress.specs.declared.sent.Sent.{Sent}
use Rattle.entry_log.specs.Log.{Log}
use Rattle.sbe_events.specs.declared.event.Event.{Event}
use Rattle.sbe_events.specs.Spelling.{HasSpelling, term_of}
use Rattle.service_api.specs.declared.output.Output.{Output as ServiceOutput}
use Rattle.service_api.specs.declared.shipped.Kind.{Kind}
use Rattle.service_api.specs.declared.shipped.Shipped.{Shipped}
use Rattle.service_api.specs.Service.{at_entry, outbox_from, outputs_from, outputs_of as service_outputs, state_from, state_of}
use Rattle.service_api.specs.Shipped.{first_of}
use Rattle.service_phases.specs.Pairs.{Each2}
use Rattle.service_runs.specs.Hosts.{Rules, Output, by_seat, numbered, sent_at, sent_in}
use Rattle.module_state.specs.Entries.{IsWellFormedOn, events_in}
use Rattle.module_state.specs.Module.{Module, module_after, module_part}
use Rattle.module_state.specs.Outputs.{outputs_of}
use Rattle.module_state.specs.Owed.{Sending, owed_by_module, owed_by_outputs}
use Rattle.module_state.specs.OwedIn.{module_owes, owed_of_module, service_owes}
use Rattle.module_state.specs.Part.{after_asks}
use Rattle.module_state.specs.Places.{entry_of, log_of}
use Rattle.module_state.specs.Services.{asks_of, module_of}
use Rattle.module_state.proofs.StepLaws.{module_push}
use Rattle.one_log.specs.Ruled.{owed_by, record_of, rules_of, sendings}
use Rattle.owed_egress.specs.Outbox.{outputs_in}
use Rattle.owed_egress.specs.Records.{numbered as numbered_sent, output_in, sends_of, sent_of}
use Rattle.owed_egress.specs.Taken.{Outboxes, module_over, outboxes_from, outboxes_in, sent_at as sent_there, sent_by_services, sent_over, sent_with, states_over}
use Rattle.owed_egress.proofs.Asked.{module_goes_on}
use Rattle.owed_egress.proofs.Over.{sent_next}
use Rattle.owed_egress.proofs.Rising.{outputs_found}
use Rattle.run_orders.specs.Stands.{IsRecord, service_at, term_led}
use Rattle.member_phases.proofs.Events.{all-front, all-spelled, entry-there, front-events, front-long, front-more, get-front, get-past, log-long, some_of, there}
use Rattle.member_phases.proofs.Sessions.{asks-alike, owed-alike}

-- ---- pairs

module _ {A B : Type 0} (R : A → B → Type 0) where
  pub each-append : (xs us : List A) (ys vs : List B) → Each2 R xs ys → Each2 R us vs → Each2 R (xs ++ us) (ys ++ vs)
  each-append [] us [] vs a b = b
  each-append [] us (y ∷ ys) vs a b = absurd a
  each-append (x ∷ xs) us [] vs a b = absurd a
  each-append (x ∷ xs) us (y ∷ ys) vs a b = (a.0, each-append xs us ys vs a.1 b)

-- ---- one seat

numbers-each : (m k seat : ℕ) (j i : ℕ) (service : Option ℕ) (l : List Sending) → service ≡ service_at seat → i ≡ j → Each2 IsRecord (numbered m k seat j (map record_of l)) (numbered_sent k service i (outputs_of l))
numbers-each m k seat j i service [] at same = tt
numbers-each m k seat j i service (s ∷ l) at same = (
  record { entry = refl; service = at; number = same; bytes = refl },
  numbers-each m k seat (suc j) (i + 1) service l at (omega (arith, same)),
)

-- ---- the outputs of a service at an entry

outputs-front : (s : Shipped) (i m k : ℕ) (xs : List Entry) → k < m → outputs_from s i (take m xs) k ≡ outputs_from s i xs k
outputs-front s i zero k xs less = absurd (omega (arith, less))
outputs-front s i (suc m) k [] less = refl
outputs-front s i (suc m) zero (x ∷ xs) less = refl
outputs-front s i (suc m) (suc k) (x ∷ xs) less = outputs-front (at_entry s i x).0 (i + 1) m k xs (omega (arith, less))

further : (i k : ℕ) → (i + 1) + k ≡ i + suc k
further i k = omega arith

later : (f k : ℕ) → suc f + k ≡ suc (f + k)
later f k = omega arith

outputs-past : (s : Shipped) (i f k : ℕ) (xs : List Entry) → outputs_from s i xs (f + k) ≡ outputs_from (state_from s i (take f xs)) (i + f) (drop f xs) k
outputs-past s i zero k xs = ap (outputs_from s i xs) (zero-add k) ∙ ap (λ n. outputs_from s n xs k) (sym (add-zero i))
outputs-past s i (suc f) k [] = refl
outputs-past s i (suc f) k (x ∷ xs) =
    ap (outputs_from s i (x ∷ xs)) (later f k) ∙ outputs-past (at_entry s i x).0 (i + 1) f k xs
    ∙ ap (λ n. outputs_from (state_from (at_entry s i x).0 (i + 1) (take f xs)) n (drop f xs) k) (further i f)

module _ (es : List Event) (first many n : ℕ) (less : n < many) where
  abbrev front : List Event
  front = take (suc (first + n)) es

  -- the outbox of a service over the entries past the first ones
  abbrev box : Kind → List (ℕ × ServiceOutput)
  box kind = outbox_from (state_of kind (log_of (take first es))) first (take many (drop first (log_of es)))

  comes-out : (kind : Kind) → map output_in (outputs_in (first + n) (box kind)) ≡ service_outputs kind (log_of front) (first + n)
  comes-out kind =
      let s : Shipped = first_of kind in
      let xs : List Entry = log_of es in
      let at : state_of kind (log_of (take first es)) ≡ state_from s 0 (take first xs) = ap (λ l. state_from s 0 l) (sym (take-map entry_of first es)) in
      outputs_found (state_of kind (log_of (take first es))) first n (take many (drop first xs))
      ∙ outputs-front (state_of kind (log_of (take first es))) first many n (drop first xs) less
      ∙ ap (λ z. outputs_from z first (drop first xs) n) at
      ∙ ap (λ j. outputs_from (state_from s 0 (take first xs)) j (drop first xs) n) (sym (zero-add first))
      ∙ sym (outputs-past s 0 first n xs)
      ∙ sym (outputs-front s 0 (suc (first + n)) (first + n) xs (omega arith))
      ∙ ap (λ l. outputs_from s 0 l (first + n)) (take-map entry_of (suc (first + n)) es)

-- ---- the seats of an entry

-- the records of so many seats from one on
abbrev from_seat : Rules → ℕ → Log → ℕ → ℕ → ℕ → List Output
from_seat r m log k v zero = []
from_seat r m log k v (suc c) = numbered m k v 0 (r.owed (take (suc k) log) v) ++ from_seat r m log k (suc v) c

seats-split : (r : Rules) (m : ℕ) (log : Log) (k v c : ℕ) → by_seat r m log k (v + c) ≡ by_seat r m log k v ++ from_seat r m log k v c
seats-split r m log k v zero = ap (by_seat r m log k) (add-zero v) ∙ sym (append-nil (by_seat r m log k v))
seats-split r m log k v (suc c) =
    let e : v + suc c ≡ suc v + c = omega arith in
    let own = numbered m k v 0 (r.owed (take (suc k) log) v) in
    ap (by_seat r m log k) e ∙ seats-split r m log k (suc v) c ∙ append_assoc (by_seat r m log k v) own (from_seat r m log k (suc v) c)

-- ---- one entry

module _ (kinds : List Kind) (log : Log) (formed : IsWellFormedOn kinds log) (m : ℕ) where
  abbrev es : List Event
  es = events_in log

  abbrev r : Rules
  r = rules_of kinds

  module _ (first many n : ℕ) (less : n < many) (room : first + n < length log) (e : Event) (at : slice_get es (first + n) ≡ some_of e) where
    abbrev k : ℕ
    k = first + n

    abbrev upto : List Event
    upto = take (suc k) es

    abbrev before : Module
    before = module_of kinds (take k es)

    upto-events : events_in (take (suc k) log) ≡ upto
    upto-events = front-events kinds log formed (suc k)

    upto-long : length (take (suc k) log) - 1 ≡ k
    upto-long = let a = front-long log (suc k) (omega (arith, room)) in omega (arith, a)

    last-is : slice_get upto k ≡ some_of e
    last-is = get-front es k (suc k) (omega arith) ∙ at

    -- the module owes
    module-owes : sendings kinds (take (suc k) log) 0 ≡ owed_by_module before e
    module-owes =
        (λ i. owed_of_module kinds (upto-events i) (upto-long i))
        ∙ ap (λ (fs : List Event). module_owes (module_of kinds fs) (slice_get upto k)) (take-take k (suc k) es (omega arith))
        ∙ ap (module_owes before) last-is

    -- after its event
    after-is : (os : List ServiceOutput) → owed_by_outputs (module_of kinds upto) e os ≡ owed_by_outputs (module_after before e) e os
    after-is os =
        let more : upto ≡ take k es ++ e ∷ [] = front-more es k e at in
        let spelled : AllByRecursion HasSpelling (take k es ++ e ∷ []) = subst (AllByRecursion HasSpelling) more (all-front HasSpelling es (suc k) (all-spelled es formed.spellable)) in
        let asks = asks_of kinds (take k es ++ e ∷ []) (length (take k es)) in
        ap (λ (fs : List Event). owed_by_outputs (module_of kinds fs) e os) more
        ∙ ap (λ (z : Module). owed_by_outputs z e os) (module_push kinds (take k es) e spelled)
        ∙ owed-alike (module_after before e) (after_asks module_part (module_after before e) asks) e os (asks-alike (module_after before e) asks)

    service-owes : (v : ℕ) (kind : Kind) → slice_get kinds v ≡ some_of kind → sendings kinds (take (suc k) log) (suc v) ≡ owed_by_outputs (module_after before e) e (map output_in (outputs_in k (box es first many n less kind)))
    service-owes v kind is =
        (λ i. owed_by (is i) kinds (upto-events i) (upto-long i))
        ∙ ap (λ (fs : List Event). service_owes (module_of kinds fs) (slice_get upto k) (service_outputs kind (log_of upto) k)) (take-take (suc k) (suc k) es (omega arith))
        ∙ ap (λ (o : Option Event). service_owes (module_of kinds upto) o (service_outputs kind (log_of upto) k)) last-is
        ∙ after-is (service_outputs kind (log_of upto) k)
        ∙ ap (owed_by_outputs (module_after before e) e) (sym (comes-out es first many n less kind))

    -- the records of the module's seat
    module-each : Each2 IsRecord (numbered m k 0 0 (r.owed (take (suc k) log) 0)) (numbered_sent k None 0 (outputs_of (owed_by_module before e)))
    module-each =
        subst (λ (l : List Sending). Each2 IsRecord (numbered m k 0 0 (map record_of l)) (numbered_sent k None 0 (outputs_of (owed_by_module before e)))) (sym module-owes)
        (numbers-each m k 0 0 0 None (owed_by_module before e) refl refl)

    -- of the services' seats
    services-each : (v : ℕ) (ks : List Kind) → ((j : ℕ) (kind : Kind) → slice_get ks j ≡ some_of kind → slice_get kinds (v + j) ≡ some_of kind)
        → Each2 IsRecord (from_seat r m log k (suc v) (length ks)) (sent_by_services true k (module_after before e) e (outboxes_from v (states_over ks (take first es)) first (take many (drop first (log_of es)))))
    services-each v [] has = tt
    services-each v (kind ∷ ks) has =
        let l = owed_by_outputs (module_after before e) e (map output_in (outputs_in k (box es first many n less kind))) in
        let mine : slice_get kinds v ≡ some_of kind = ap (slice_get kinds) (sym (add-zero v)) ∙ has 0 kind refl in
        let here : Each2 IsRecord (numbered m k (suc v) 0 (r.owed (take (suc k) log) (suc v))) (numbered_sent k (Some v) 0 (outputs_of l)) =
        subst (λ (z : List Sending). Each2 IsRecord (numbered m k (suc v) 0 (map record_of z)) (numbered_sent k (Some v) 0 (outputs_of l))) (sym (service-owes v kind mine))
        (numbers-each m k (suc v) 0 0 (Some v) l refl refl) in
        each-append IsRecord (numbered m k (suc v) 0 (r.owed (take (suc k) log) (suc v))) (from_seat r m log k (suc (suc v)) (length ks)) (numbered_sent k (Some v) 0 (outputs_of l))
        (sent_by_services true k (module_after before e) e (outboxes_from (suc v) (states_over ks (take first es)) first (take many (drop first (log_of es))))) here
        (services-each (suc v) ks (λ j q is. ap (slice_get kinds) (on v j) ∙ has (suc j) q is))
      where
        on : (v j : ℕ) → suc v + j ≡ v + suc j
        on v j = omega arith

    abbrev boxes : Outboxes
    boxes = outboxes_in kinds es first many

    none-sent : (bs : Outboxes) → sent_by_services false k (module_after before e) e bs ≡ []
    none-sent [] = refl
    none-sent (b ∷ bs) = none-sent bs

    by-role : (b : Bool) → Each2 IsRecord (if b then by_seat r m log k (suc (length kinds)) else []) (sent_of b k None (outputs_of (owed_by_module before e)) ++ sent_by_services b k (module_after before e) e boxes)
    by-role false = subst (Each2 IsRecord []) (sym (none-sent boxes)) tt
    by-role true =
        let split : by_seat r m log k (suc (length kinds)) ≡ numbered m k 0 0 (r.owed (take (suc k) log) 0) ++ from_seat r m log k 1 (length kinds) = ap (by_seat r m log k) (one (length kinds)) ∙ seats-split r m log k 1 (length kinds) in
        subst (λ (os : List Output). Each2 IsRecord os (sent_of true k None (outputs_of (owed_by_module before e)) ++ sent_by_services true k (module_after before e) e boxes)) (sym split)
        (each-append IsRecord (numbered m k 0 0 (r.owed (take (suc k) log) 0)) (from_seat r m log k 1 (length kinds)) (numbered_sent k None 0 (outputs_of (owed_by_module before e)))
        (sent_by_services true k (module_after before e) e boxes) module-each (services-each 0 kinds (λ j kind is. ap (slice_get kinds) (zero-add j) ∙ is)))
      where
        one : (c : ℕ) → suc c ≡ 1 + c
        one c = omega arith

    pub entry-each : (role : Role) → Each2 IsRecord (sent_at r m (term_led role) log k (slice_get log k)) (sent_there role boxes k before e)
    entry-each role =
        subst (λ (o : Option Entry). Each2 IsRecord (sent_at r m (term_led role) log k o) (sent_there role boxes k before e)) (sym (entry-there kinds log formed k e at)) (by role)
      where
        by : (role : Role) → Each2 IsRecord (sent_at r m (term_led role) log k (some_of (entry_of e))) (sent_there role boxes k before e)
        by Follower = by-role false
        by (Leader term) = by-role (sends_of (Leader term) (term_of e))

  -- ---- all of them

  pub none-below : (role : Option ℤ) (from n : ℕ) → n ≤ from → sent_in r m role log from n ≡ []
  none-below role from zero low = refl
  none-below role from (suc n) low =
      let past : nat_le from n ≡ false = grind (arith, nat_tests, low) in
      (λ i. none-below role from n (omega (arith, low)) i ++ (if past i then sent_at r m role log n (slice_get log n) else []))

  one-more : (role : Option ℤ) (from n : ℕ) → sent_in r m role log from (from + suc n) ≡ sent_in r m role log from (from + n) ++ sent_at r m role log (from + n) (slice_get log (from + n))
  one-more role from n =
      let is : from + suc n ≡ suc (from + n) = omega arith in
      let up : nat_le from (from + n) ≡ true = grind (arith, nat_tests) in
      ap (sent_in r m role log from) is
      ∙ ap (λ (b : Bool). sent_in r m role log from (from + n) ++ (if b then sent_at r m role log (from + n) (slice_get log (from + n)) else [])) up

  pub over-each : (role : Role) (first many n : ℕ) → n ≤ many → first + n ≤ length log
      → Each2 IsRecord (sent_in r m (term_led role) log first (first + n)) (sent_over role (outboxes_in kinds es first many) first (module_of kinds (take first es)) (take n (drop first es)))
  over-each role first many zero few room =
      subst (λ (os : List Output). Each2 IsRecord os []) (sym (none-below (term_led role) first (first + 0) (omega arith))) tt
  over-each role first many (suc n) few room =
      let bs = outboxes_in kinds es first many in
      let start = module_of kinds (take first es) in
      let long = log-long kinds log formed in
      let at = there es (first + n) (omega (arith, room, long)) in
      let e : Event = at.0 in
      let now : module_over bs first start (take n (drop first es)) ≡ module_of kinds (take (first + n) es) = module_goes_on kinds es first many n (omega (arith, few)) (omega (arith, room, long)) (all-spelled es formed.spellable) in
      let next : sent_over role bs first start (take (suc n) (drop first es)) ≡ sent_over role bs first start (take n (drop first es)) ++ sent_there role bs (first + n) (module_of kinds (take (first + n) es)) e =
      ap (λ (j : ℕ). sent_over role bs first start (take j (drop first es))) (sym (add-one n))
      ∙ sent_next role bs first n start (drop first es)
      ∙ ap (λ (z : Module). sent_over role bs first start (take n (drop first es)) ++ sent_with role bs (first + n) z (slice_get (drop first es) n)) now
      ∙ ap (λ (o : Option Event). sent_over role bs first start (take n (drop first es)) ++ sent_with role bs (first + n) (module_of kinds (take (first + n) es)) o) (get-past es first n ∙ at.1) in
      subst (λ (ys : List Sent). Each2 IsRecord (sent_in r m (term_led role) log first (first + suc n)) ys) (sym next)
      (subst (λ (os : List Output). Each2 IsRecord os (sent_over role bs first start (take n (drop first es)) ++ sent_there role bs (first + n) (module_of kinds (take (first + n) es)) e)) (sym (one-more (term_led role) first n))
      (each-append IsRecord (sent_in r m (term_led role) log first (first + n)) (sent_at r m (term_led role) log (first + n) (slice_get log (first + n))) (sent_over role bs first start (take n (drop first es)))
      (sent_there role bs (first + n) (module_of kinds (take (first + n) es)) e) (over-each role first many n (omega (arith, few)) (omega (arith, room)))
      (entry-each first many n (omega (arith, few)) (omega (arith, room)) e at.1 role)))
