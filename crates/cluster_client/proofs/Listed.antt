-- Calls and what they come to, one by one.
use Rattle.std.proofs.Common.{◌≡◌, ◌≢◌, ◌↔◌, ℕ, zero, suc, ◌+◌, ◌<◌, ◌≤◌, List, [], ◌∷◌, ◌++◌, length, get_or, drop, Option, Some, None, Result, Ok, Err, IfOk, OnOk, OnErr, MatchResult, refl, sym, ap, ◌∙◌, subst, arith, add-one, append_assoc}
use Rattle.std.specs.List.{cons_option}
use Rattle.std.proofs.lemmas.List.{append-nil}
use Rattle.wire_prims.specs.declared.fault.Bad.{Bad}
use Rattle.wire_prims.specs.declared.fault.DecodeFault.{DecodeFault}
use Rattle.wire_prims.specs.declared.fault.DecodeFault.TheVariants.{NoMemory, Bad as Faulty}
use Rattle.sbe_client.specs.Reading.{ReadsEgress, first_fault_egress}
use Rattle.sbe_client.specs.declared.egress.Egress.{Egress}
use Rattle.cluster_client.specs.declared.answers.Took.{Took}
use Rattle.cluster_client.specs.declared.runs.Got.{Got}
use Rattle.cluster_client.specs.declared.runs.Call.{Call}
use Rattle.cluster_client.specs.declared.runs.Call.TheVariants as call
use Rattle.cluster_client.specs.Seen.{ClientSeen}
use Rattle.cluster_client.specs.Calls.{heard, took}
use Rattle.cluster_client.specs.Runs.{Event, Steps, Hears, Hears_nothing, Offers, ComesTo, AllComeTo, after, got_of, got_by_answer, got_by, all_got}

-- the event of the call at a place, and those behind it
pub record EventAt (calls : List Call) (events : List Event) (i : ℕ) (d : Call) : Type 0 where
  pub event : Event
  pub comes : ComesTo (get_or calls i d) event
  pub here : drop i events ≡ event ∷ drop (suc i) events

pub event_at : (calls : List Call) (events : List Event) (i : ℕ) (d : Call) → AllComeTo calls events → i < length calls → EventAt calls events i d
event_at [] events i d all within = absurd (omega arith)
event_at (c ∷ calls) [] i d all within = absurd all
event_at (c ∷ calls) (e ∷ events) zero d all within = record { event = e; comes = all.0; here = refl }
event_at (c ∷ calls) (e ∷ events) (suc i) d all within =
    let at = event_at calls events i d all.1 (omega arith) in
    record { event = at.event; comes = at.comes; here = at.here }

-- no event is behind the last call
pub events_end : (calls : List Call) (events : List Event) → AllComeTo calls events → drop (length calls) events ≡ []
events_end [] [] all = refl
events_end [] (e ∷ events) all = absurd all
events_end (c ∷ calls) [] all = absurd all
events_end (c ∷ calls) (e ∷ events) all = events_end calls events all.1

-- a record that was given to a client, and what its user got by the answer
pub give_comes : (bytes : List ℕ) (now : ℕ) (old new : ClientSeen) (answer : Result Took DecodeFault)
    → ((m : Egress) → ReadsEgress bytes m → MatchResult answer (λ t. (t ≡ took m old) × (new ≡ heard m old)) (λ fault. fault ≡ NoMemory))
    → ((bad : Bad) → (answer ≡ Err (Faulty bad)) ↔ (first_fault_egress bytes ≡ Some bad))
    → OnErr answer (new ≡ old) → answer ≢ Err NoMemory
    → (e : Event) → ComesTo (call.Egress bytes now) e → (got_by_answer answer ≡ got_by e old) × (new ≡ after e old)
give_comes bytes now old new (Ok t) reads bad err memory (Hears m) comes = let h = reads m comes in (ap got_of h.0, h.1)
give_comes bytes now old new (Ok t) reads bad err memory Hears_nothing comes = let e = (bad comes.0).1 comes.1 in absurd (cc)
give_comes bytes now old new (Ok t) reads bad err memory (Steps at) comes = absurd comes
give_comes bytes now old new (Ok t) reads bad err memory (Offers at payload) comes = absurd comes
give_comes bytes now old new (Err fault) reads bad err memory (Hears m) comes = absurd (memory (ap (λ f. Err f) (reads m comes)))
give_comes bytes now old new (Err fault) reads bad err memory Hears_nothing comes = (refl, err)
give_comes bytes now old new (Err fault) reads bad err memory (Steps at) comes = absurd comes
give_comes bytes now old new (Err fault) reads bad err memory (Offers at payload) comes = absurd comes

pub gives : {E : Type 0} (bytes seen : List ℕ) (now : ℕ) (old new : ClientSeen) (answer : Result Took DecodeFault) (result : Result (Option Got) E)
    → seen ≡ bytes
    → ((m : Egress) → ReadsEgress seen m → MatchResult answer (λ t. (t ≡ took m old) × (new ≡ heard m old)) (λ fault. fault ≡ NoMemory))
    → ((bad : Bad) → (answer ≡ Err (Faulty bad)) ↔ (first_fault_egress seen ≡ Some bad))
    → OnErr answer (new ≡ old)
    → IfOk result (λ got. got ≡ got_by_answer answer) → OnOk result (answer ≢ Err NoMemory)
    → IfOk result (λ got. (e : Event) → ComesTo (call.Egress bytes now) e → (got ≡ got_by e old) × (new ≡ after e old))
gives bytes seen now old new answer (Ok got) same reads bad err is memory = λ e comes.
    let P : List ℕ → Type 0 = λ b. ComesTo (call.Egress b now) e in
    let h = give_comes seen now old new answer reads bad err memory e (subst P (sym same) comes) in
    (is ∙ h.0, h.1)
gives bytes seen now old new answer (Err x) same reads bad err is memory = tt

-- the fault of an answer
pub same_err : {T E : Type 0} {x y : E} → (let a : Result T E = Err x in a ≡ Err y) → x ≡ y
same_err e = cc

-- the faults of two answers that have none
pub same_faults : {A B : Type 0} (f : Option Bad) (x : A) (y : B) (bad : Bad) → ((Ok x ≡ Err (Faulty bad)) ↔ (f ≡ Some bad)) → (Ok y ≡ Err (Faulty bad)) ↔ (f ≡ Some bad)
same_faults f x y bad iff = (λ e. absurd (cc), λ g. let e = iff.1 g in absurd (cc))

-- one thing, if it is there, between two lists
joined : (xs : List Got) (o : Option Got) (ys : List Got) → (xs ++ cons_option o []) ++ ys ≡ xs ++ cons_option o ys
joined xs None ys = ap (λ l. l ++ ys) (append-nil xs)
joined xs (Some x) ys = append_assoc xs (x ∷ []) ys

-- one more call of a run
pub one_more : (calls : List Call) (events : List Event) (i : ℕ) (item : Call) (got more : List Got) (one : Option Got) (old new : ClientSeen) (whole : List Got)
    → AllComeTo calls events → i < length calls → item ≡ get_or calls i item
    → ((e : Event) → ComesTo item e → (one ≡ got_by e old) × (new ≡ after e old))
    → more ≡ got ++ cons_option one []
    → got ++ all_got old (drop i events) ≡ whole
    → more ++ all_got new (drop (i + 1) events) ≡ whole
one_more calls events i item got more one old new whole all within is made grows kept =
    let at = event_at calls events i item all within in
    let P : Call → Type 0 = λ x. ComesTo x at.event in
    let m = made at.event (subst P (sym is) at.comes) in
    ap (λ g. g ++ all_got new (drop (i + 1) events)) grows
    ∙ (ap (λ x. (got ++ cons_option one []) ++ all_got x (drop (i + 1) events)) m.1
    ∙ (ap (λ o. (got ++ cons_option o []) ++ all_got (after at.event old) (drop (i + 1) events)) m.0
    ∙ (ap (λ n. (got ++ cons_option (got_by at.event old) []) ++ all_got (after at.event old) (drop n events)) (add-one i)
    ∙ (joined got (got_by at.event old) (all_got (after at.event old) (drop (suc i) events))
    ∙ (ap (λ l. got ++ all_got old l) (sym at.here) ∙ kept)))))

-- no call is left
pub run_ends : (calls : List Call) (events : List Event) (i : ℕ) (got : List Got) (client : ClientSeen) (whole : List Got)
    → AllComeTo calls events → length calls ≤ i → i ≤ length calls → got ++ all_got client (drop i events) ≡ whole → got ≡ whole
run_ends calls events i got client whole all past within kept =
    let e : i ≡ length calls = omega arith in
    sym (append-nil got) ∙ (ap (λ l. got ++ all_got client l) (sym (ap (λ n. drop n events) e ∙ events_end calls events all)) ∙ kept)
