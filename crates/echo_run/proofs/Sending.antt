-- What is put behind a list, piece by piece.
use Rattle.std.proofs.Common.{◌≡◌, ℕ, suc, ◌+◌, ◌<◌, ◌≤◌, ℤ, true, false, nat_le, if◌then◌else◌, Option, Some, None, List, [], ◌∷◌, ◌++◌, length, drop, fold, get_or, refl, sym, ◌∙◌, ap, arith, append_assoc, append-nil}
use Rattle.std.proofs.lemmas.List.{at_drop_more, drop_all}
use Rattle.election.specs.declared.member.Election.{Election}
use Rattle.sbe_client.specs.declared.egress.Egress.TheVariants as egress
use Rattle.sbe_events.specs.declared.event.Event.{Event}
use Rattle.service_api.specs.declared.output.Output.{Output}
use Rattle.service_api.specs.declared.output.Output.TheVariants as output
use Rattle.echo_run.specs.Module.{module_after, session_of}
use Rattle.echo_run.specs.Owed.{new_leader_to, owed_outputs, given_to}
use Rattle.echo_run.specs.World.{sent_at, sent_from}
use Rattle.echo_run.specs.declared.module.Module.{Module}
use Rattle.echo_run.specs.declared.module.Session.{Session}
use Rattle.echo_run.specs.declared.sent.Origin.{Origin}
use Rattle.echo_run.specs.declared.sent.Origin.TheVariants as origin
use Rattle.echo_run.specs.declared.sent.Sent.{Sent}

-- one piece is put behind what is there, and the rest is still to come
pub next_piece : {X : Type 0} (whole was now piece all rest : List X) → was ++ all ≡ whole → all ≡ piece ++ rest → now ≡ was ++ piece → now ++ rest ≡ whole
next_piece whole was now piece all rest so_far parts put =
    ap (λ s. s ++ rest) put ∙ append_assoc was piece rest ∙ ap (λ s. was ++ s) (sym parts) ∙ so_far

-- nothing is left to come
pub last_piece : {X : Type 0} (whole was rest : List X) → was ++ rest ≡ whole → rest ≡ [] → was ≡ whole
last_piece whole was rest so_far none = sym (append-nil was) ∙ ap (λ s. was ++ s) (sym none) ∙ so_far

-- what is left begins with the next value
pub next_item : {X : Type 0} (xs : List X) (k : ℕ) (x : X) → k < length xs → x ≡ get_or xs k x → drop k xs ≡ x ∷ drop (k + 1) xs
next_item {X = X} xs k x within is = at_drop_more (λ (ys : List X). ys) xs k x within ∙ ap (λ y. y ∷ drop (k + 1) xs) (sym is)

pub leader_more : (i : ℕ) (term leader : ℤ) (sessions : List Session) (k : ℕ) (s : Session) (was now whole : List Sent) → k < length sessions → s ≡ get_or sessions k s → was ++ new_leader_to i k term leader (drop k sessions) ≡ whole → now ≡ was ++ record { stream = s.stream; origin = origin.Module i k; egress = egress.NewLeader term s.id leader } ∷ [] → now ++ new_leader_to i (k + 1) term leader (drop (k + 1) sessions) ≡ whole
leader_more i term leader sessions k s was now whole within is so_far put =
    let one : suc k ≡ k + 1 = omega arith in
    next_piece whole was now (record { stream = s.stream; origin = origin.Module i k; egress = egress.NewLeader term s.id leader } ∷ []) _ (new_leader_to i (k + 1) term leader (drop (k + 1) sessions)) so_far
    (ap (new_leader_to i k term leader) (next_item sessions k s within is) ∙ ap (λ n. record { stream = s.stream; origin = origin.Module i k; egress = egress.NewLeader term s.id leader } ∷ new_leader_to i n term leader (drop (k + 1) sessions)) one)
    put

pub leader_done : (i : ℕ) (term leader : ℤ) (sessions : List Session) (k : ℕ) (was whole : List Sent) → length sessions ≤ k → was ++ new_leader_to i k term leader (drop k sessions) ≡ whole → was ≡ whole
leader_done i term leader sessions k was whole past so_far = last_piece whole was _ so_far (ap (new_leader_to i k term leader) (drop_all k sessions past))

-- what one output owes, and the rest behind it
one_output : (m : Module) (i v : ℕ) (term stamp : ℤ) (j : ℕ) (o : Output) (rest : List Output) → owed_outputs m i v term stamp j (o ∷ rest) ≡ owed_outputs m i v term stamp j (o ∷ []) ++ owed_outputs m i v term stamp (j + length (owed_outputs m i v term stamp j (o ∷ []))) rest
one_output m i v term stamp j (output.Egress session payload) rest =
    let given = given_to (origin.Service i v j) term stamp session payload (session_of m session) in
    sym (ap (λ (g : List Sent). g ++ owed_outputs m i v term stamp (j + length g) rest) (append-nil given))
one_output m i v term stamp j (output.Command command) rest = let none : j ≡ j + 0 = omega arith in ap (λ n. owed_outputs m i v term stamp n rest) none

pub outputs_more : (m : Module) (i v : ℕ) (term stamp : ℤ) (j n : ℕ) (outputs : List Output) (k : ℕ) (o : Output) (was now whole : List Sent) → k < length outputs → o ≡ get_or outputs k o → was ++ owed_outputs m i v term stamp j (drop k outputs) ≡ whole → n ≡ length (owed_outputs m i v term stamp j (o ∷ [])) → now ≡ was ++ owed_outputs m i v term stamp j (o ∷ []) → now ++ owed_outputs m i v term stamp (j + n) (drop (k + 1) outputs) ≡ whole
outputs_more m i v term stamp j n outputs k o was now whole within is so_far count put =
    next_piece whole was now (owed_outputs m i v term stamp j (o ∷ [])) _ (owed_outputs m i v term stamp (j + n) (drop (k + 1) outputs)) so_far
    (ap (owed_outputs m i v term stamp j) (next_item outputs k o within is) ∙ one_output m i v term stamp j o (drop (k + 1) outputs) ∙ ap (λ c. owed_outputs m i v term stamp j (o ∷ []) ++ owed_outputs m i v term stamp (j + c) (drop (k + 1) outputs)) (sym count))
    put

-- a message of a service's is put where its session is open and it isn't too long
pub outputs_given : (m : Module) (i v : ℕ) (term stamp : ℤ) (j n next : ℕ) (outputs : List Output) (k : ℕ) (o : Output) (session : ℤ) (payload : List ℕ) (found : Option Session) (was now whole : List Sent) → k < length outputs → o ≡ get_or outputs k o → o ≡ output.Egress session payload → found ≡ session_of m session → was ++ owed_outputs m i v term stamp j (drop k outputs) ≡ whole → n ≡ length (given_to (origin.Service i v j) term stamp session payload found) → next ≡ j + n → now ≡ was ++ given_to (origin.Service i v j) term stamp session payload found → now ++ owed_outputs m i v term stamp next (drop (k + 1) outputs) ≡ whole
outputs_given m i v term stamp j n next outputs k o session payload found was now whole within is message its so_far count counted put =
    let one : owed_outputs m i v term stamp j (o ∷ []) ≡ given_to (origin.Service i v j) term stamp session payload found = ap (λ x. owed_outputs m i v term stamp j (x ∷ [])) message ∙ append-nil (given_to (origin.Service i v j) term stamp session payload (session_of m session)) ∙ ap (given_to (origin.Service i v j) term stamp session payload) (sym its) in
    ap (λ x. now ++ owed_outputs m i v term stamp x (drop (k + 1) outputs)) counted ∙ outputs_more m i v term stamp j n outputs k o was now whole within is so_far (count ∙ ap length (sym one)) (put ∙ ap (λ g. was ++ g) (sym one))

-- an output that owes clients nothing is passed
pub outputs_other : (m : Module) (i v : ℕ) (term stamp : ℤ) (j next : ℕ) (outputs : List Output) (k : ℕ) (o : Output) (was now whole : List Sent) → k < length outputs → o ≡ get_or outputs k o → owed_outputs m i v term stamp j (o ∷ []) ≡ [] → was ++ owed_outputs m i v term stamp j (drop k outputs) ≡ whole → next ≡ j → now ≡ was → now ++ owed_outputs m i v term stamp next (drop (k + 1) outputs) ≡ whole
outputs_other m i v term stamp j next outputs k o was now whole within is one so_far counted same =
    let none : next ≡ j + 0 = omega (arith, counted) in
    ap (λ x. now ++ owed_outputs m i v term stamp x (drop (k + 1) outputs)) none ∙ outputs_more m i v term stamp j 0 outputs k o was now whole within is so_far (ap length (sym one)) (same ∙ sym (append-nil was) ∙ ap (λ g. was ++ g) (sym one))

pub given_most : (o : Origin) (term stamp session : ℤ) (payload : List ℕ) (found : Option Session) → length (given_to o term stamp session payload found) ≤ 1
given_most o term stamp session payload None = omega arith
given_most o term stamp session payload (Some s) =
    let sent : List Sent = record { stream = s.stream; origin = o; egress = egress.Message term session stamp payload } ∷ [] in
    elim (nat_le (length payload) 16384) as (λ b. length (if b then sent else []) ≤ 1) [ true ↦ omega arith | false ↦ omega arith ]

pub outputs_done : (m : Module) (i v : ℕ) (term stamp : ℤ) (j : ℕ) (outputs : List Output) (k : ℕ) (was whole : List Sent) → length outputs ≤ k → was ++ owed_outputs m i v term stamp j (drop k outputs) ≡ whole → was ≡ whole
outputs_done m i v term stamp j outputs k was whole past so_far = last_piece whole was _ so_far (ap (owed_outputs m i v term stamp j) (drop_all k outputs past))

-- the front of the entries is taken: what is sent and what the rest sends are what all send
pub record Taken (election : Election) (first_module now_module : Module) (first : ℕ) (entries : List Event) (i : ℕ) (before sent : List Sent) : Type 0 where
  pub modules : fold module_after now_module (drop i entries) ≡ fold module_after first_module entries
  pub records : sent ++ sent_from election now_module (first + i) (drop i entries) ≡ before ++ sent_from election first_module first entries

pub taken_more : (election : Election) (m0 m m1 : Module) (first : ℕ) (entries : List Event) (i : ℕ) (e : Event) (before was now : List Sent) → Taken election m0 m first entries i before was → i < length entries → e ≡ get_or entries i e → m1 ≡ module_after m e → now ≡ was ++ sent_at election m (first + i) e → Taken election m0 m1 first entries (i + 1) before now
taken_more election m0 m m1 first entries i e before was now so_far within is applied put =
    let one : suc (first + i) ≡ first + (i + 1) = omega arith in
    record {
      modules = ap (λ n. fold module_after n (drop (i + 1) entries)) applied ∙ sym (ap (fold module_after m) (next_item entries i e within is)) ∙ so_far.modules;
      records = next_piece _ was now (sent_at election m (first + i) e) _ (sent_from election m1 (first + (i + 1)) (drop (i + 1) entries)) so_far.records
          (ap (sent_from election m (first + i)) (next_item entries i e within is)
          ∙ ap (λ n. sent_at election m (first + i) e ++ sent_from election n (suc (first + i)) (drop (i + 1) entries)) (sym applied)
          ∙ ap (λ k. sent_at election m (first + i) e ++ sent_from election m1 k (drop (i + 1) entries)) one)
          put;
    }

pub taken_none : (election : Election) (m : Module) (first : ℕ) (entries : List Event) (before : List Sent) → Taken election m m first entries 0 before before
taken_none election m first entries before = let none : first + 0 ≡ first = omega arith in record { modules = refl; records = ap (λ k. before ++ sent_from election m k entries) none }

pub all_applied : (election : Election) (m0 m : Module) (first : ℕ) (entries : List Event) (i : ℕ) (before sent : List Sent) → Taken election m0 m first entries i before sent → length entries ≤ i → m ≡ fold module_after m0 entries
all_applied election m0 m first entries i before sent taken past = sym (ap (fold module_after m) (drop_all i entries past)) ∙ taken.modules

pub all_sent : (election : Election) (m0 m : Module) (first : ℕ) (entries : List Event) (i : ℕ) (before sent : List Sent) → Taken election m0 m first entries i before sent → length entries ≤ i → sent ≡ before ++ sent_from election m0 first entries
all_sent election m0 m first entries i before sent taken past = last_piece _ sent _ taken.records (ap (sent_from election m (first + i)) (drop_all i entries past))
