-- What opens a client's session, and how often.
use Rattle.std.proofs.Common.{◌≡◌, ℕ, ℤ, pos, ◌+◌, ◌≤◌, Bool, true, false, not, cond, ◌&&◌, ◌==◌, List, [], ◌∷◌, length, unwrap_or, refl, sym, ap, ◌∙◌, subst, arith, zero-add}
use Rattle.std.specs.Prelude.{count_by}
use Rattle.std.specs.Ordering.{int_eq}
use Rattle.std.specs.Cmp.{signed_Decides}
use Rattle.std.proofs.lemmas.Bool.{eqb-true}
use Rattle.std.proofs.lemmas.List.Sums.{sum_by-cons}
use Rattle.sbe_client.specs.declared.egress.Egress.{Egress}
use Rattle.sbe_client.specs.declared.egress.Egress.TheVariants.{SessionEvent, Message, NewLeader}
use Rattle.cluster_client.specs.declared.state.State.{State}
use Rattle.cluster_client.specs.declared.state.State.TheVariants.{Unconnected, Connecting, Open, Closed}
use Rattle.cluster_client.specs.Seen.{ClientSeen, is_open_state, is_open, member_after, member_named, new_client}
use Rattle.cluster_client.specs.Calls.{stepped, answered, heard_in, heard, told, refusal}
use Rattle.cluster_client.specs.Handed.{Given, IsOkTo}
use Rattle.cluster_client.specs.Runs.{Event, Steps, Hears, Hears_nothing, Offers, offered_unless, given_by, given}
use Rattle.cluster_client.proofs.States.{step_keeps, step_closed, offer_keeps, hear_closed, Goes, Ends, Stays, told_goes}

pub opened_by_ok : (m : Egress) (c : ClientSeen) → is_open c ≡ false → is_open (heard m c) ≡ true → IsOkTo c.corr m
opened_by_ok m c shut stands = by c.state refl shut stands
  where
    answers : (session corr term leader : ℤ) (code : ℕ) (a : Bool) → int_eq corr (pos c.corr) ≡ a → (b : Bool) → (code == 0) ≡ b → (d : Bool)
        → is_open_state (cond a (cond b (record c { state = Open session term (unwrap_or (member_named c.members leader) 0) }) (cond d (record c { next = unwrap_or (member_named c.members leader) (member_after c); state = Unconnected }) c)) c).state ≡ true
        → (corr ≡ pos c.corr) × (code ≡ 0)
    answers session corr term leader code true e true f d stands = ((signed_Decides corr (pos c.corr)).0 e, eqb-true code 0 f)
    answers session corr term leader code true e false f true stands = absurd (cc)
    answers session corr term leader code true e false f false stands = absurd (cc)
    answers session corr term leader code false e b f d stands = absurd (cc)

    asks : (m : Egress) → is_open_state (answered m c).state ≡ true → IsOkTo c.corr m
    asks (SessionEvent session corr term leader code) stands = answers session corr term leader code (int_eq corr (pos c.corr)) refl (code == 0) refl (code == 2) stands
    asks (Message term session stamp payload) stands = absurd (cc)
    asks (NewLeader term session leader) stands = absurd (cc)

    by : (s : State) → c.state ≡ s → is_open_state s ≡ false → is_open_state (heard_in s m c).state ≡ true → IsOkTo c.corr m
    by Unconnected is e stands = absurd (cc)
    by Connecting is e stands = asks m stands
    by (Open session term leader) is e stands = absurd (cc)
    by Closed is e stands = absurd (cc)

-- a client that has a session, or had one
pub data Had (s : State) : Type 0 where
  Has : (session term : ℤ) (leader : ℕ) → s ≡ Open session term leader → Had s
  Lost : s ≡ Closed → Had s

had_steps : (now : ℕ) (c : ClientSeen) → Had c.state → Had (stepped now c).state
had_steps now c (Has session term leader e) = Has session term leader (step_keeps now c session term leader e)
had_steps now c (Lost e) = Lost (ap (λ (x : ClientSeen). x.state) (step_closed now c e) ∙ e)

had_hears : (m : Egress) (c : ClientSeen) → Had c.state → Had (heard m c).state
had_hears m c (Lost e) = Lost (ap (λ (x : ClientSeen). x.state) (hear_closed m c e) ∙ e)
had_hears m c (Has session term leader e) = by (told_goes c.members session term leader m)
  where
    state_is : (heard m c).state ≡ told c.members session term leader m
    state_is = ap (λ (st : State). (heard_in st m c).state) e

    by : Goes session term m (told c.members session term leader m) → Had (heard m c).state
    by (Ends f is) = Lost (state_is ∙ is)
    by (Stays f leads is) = Has session _ leads (state_is ∙ is)

-- no record opens it again
had_unmarked : (m : Egress) (c : ClientSeen) → Had c.state → (not (is_open c) && is_open (heard m c)) ≡ false
had_unmarked m c (Has session term leader e) = ap (λ st. not (is_open_state st) && is_open (heard m c)) e
had_unmarked m c (Lost e) = ap (λ b. not (is_open c) && b) (ap (λ (x : ClientSeen). is_open x) (hear_closed m c e) ∙ ap is_open_state e) ∙ none (not (is_open c))
  where
    none : (b : Bool) → (b && false) ≡ false
    none true = refl
    none false = refl

abbrev marks : List Given → ℕ
marks records = count_by (λ (g : Given). g.opens) records

marks-hears : (m : Egress) (c : ClientSeen) (records : List Given) → marks (given_by (Hears m) c records) ≡ cond (not (is_open c) && is_open (heard m c)) 1 0 + marks records
marks-hears m c records = sum_by-cons (λ (g : Given). cond g.opens 1 0) (record { message = m; opens = not (is_open c) && is_open (heard m c) }) records

had_marks_none : (events : List Event) (c : ClientSeen) → Had c.state → marks (given c events) ≡ 0
had_marks_none [] c had = refl
had_marks_none (Steps now ∷ events) c had = had_marks_none events (stepped now c) (had_steps now c had)
had_marks_none (Hears_nothing ∷ events) c had = had_marks_none events c had
had_marks_none (Offers now payload ∷ events) c had = had_marks_none events (offered_unless (refusal (length payload) c) now c) (subst Had (sym (offer_keeps (refusal (length payload) c) now c)) had)
had_marks_none (Hears m ∷ events) c had =
    marks-hears m c (given (heard m c) events) ∙ (ap (λ b. cond b 1 0 + marks (given (heard m c) events)) (had_unmarked m c had) ∙ (zero-add (marks (given (heard m c) events)) ∙ had_marks_none events (heard m c) (had_hears m c had)))

open_had : (s : State) → is_open_state s ≡ true → Had s
open_had (Open session term leader) e = Has session term leader refl
open_had Unconnected e = absurd (cc)
open_had Connecting e = absurd (cc)
open_had Closed e = absurd (cc)

-- one record, marked or not, before others
marks_more : (b : Bool) (n : ℕ) → n ≤ 1 → (b ≡ true → n ≡ 0) → cond b 1 0 + n ≤ 1
marks_more true n few none = let e = none refl in omega arith
marks_more false n few none = omega arith

both : (a b : Bool) → (a && b) ≡ true → b ≡ true
both true b e = e
both false b e = absurd (cc)

marks_few : (events : List Event) (c : ClientSeen) → marks (given c events) ≤ 1
marks_few [] c = omega arith
marks_few (Steps now ∷ events) c = marks_few events (stepped now c)
marks_few (Hears_nothing ∷ events) c = marks_few events c
marks_few (Offers now payload ∷ events) c = marks_few events (offered_unless (refusal (length payload) c) now c)
marks_few (Hears m ∷ events) c =
    let P : ℕ → Type 0 = λ n. n ≤ 1 in
    subst P (sym (marks-hears m c (given (heard m c) events)))
    (marks_more (not (is_open c) && is_open (heard m c)) (marks (given (heard m c) events)) (marks_few events (heard m c))
    (λ e. had_marks_none events (heard m c) (open_had (heard m c).state (both (not (is_open c)) (is_open (heard m c)) e))))

pub opened_once : (stream : ℤ) (members : ℕ) (events : List Event) → count_by (λ (g : Given). g.opens) (given (new_client stream members) events) ≤ 1
opened_once stream members events = marks_few events (new_client stream members)
