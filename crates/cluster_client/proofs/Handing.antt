-- What a client's user gets is what is to be handed of the records that the client was given.
use Rattle.std.proofs.Common.{◌≡◌, ℕ, ℤ, Bool, true, false, not, cond, ◌&&◌, List, [], ◌∷◌, ◌++◌, length, None, refl, sym, ap, ◌∙◌}
use Rattle.std.specs.Prelude.{map}
use Rattle.std.specs.List.{cons_option}
use Rattle.std.proofs.lemmas.List.Sums.{take_while-cons}
use Rattle.sbe_client.specs.declared.egress.Egress.{Egress}
use Rattle.sbe_client.specs.declared.egress.Egress.TheVariants.{SessionEvent, Message, NewLeader}
use Rattle.cluster_client.specs.declared.state.State.{State}
use Rattle.cluster_client.specs.declared.state.State.TheVariants.{Open, Closed}
use Rattle.cluster_client.specs.Seen.{ClientSeen, is_open_state, is_open, new_client}
use Rattle.cluster_client.specs.Calls.{stepped, heard, heard_in, told, took, took_in, refusal}
use Rattle.cluster_client.specs.Handed.{Given, greatest_term, message_to, messages_after, is_closed_by, before_closed, handed_after, handed}
use Rattle.cluster_client.specs.Runs.{Event, Steps, Hears, Hears_nothing, Offers, offered_unless, got_of, all_got, given}
use Rattle.cluster_client.proofs.States.{step_keeps, step_opens_none, step_closed, offer_keeps, hear_closed, took_shut, took_is_message, term_after, greatest-more, Goes, Ends, Stays, told_goes, Opens, Opened, hear_opens}

-- the records themselves
abbrev pub messages_of : List Given → List Egress
messages_of records = map (λ (r : Given). r.message) records

-- a closed client's user gets nothing
closed_gets_none : (events : List Event) (c : ClientSeen) → c.state ≡ Closed → all_got c events ≡ []
closed_gets_none [] c e = refl
closed_gets_none (Steps now ∷ events) c e = closed_gets_none events (stepped now c) (ap (λ (x : ClientSeen). x.state) (step_closed now c e) ∙ e)
closed_gets_none (Hears_nothing ∷ events) c e = closed_gets_none events c e
closed_gets_none (Offers now payload ∷ events) c e = closed_gets_none events (offered_unless (refusal (length payload) c) now c) (offer_keeps (refusal (length payload) c) now c ∙ e)
closed_gets_none (Hears m ∷ events) c e =
    ap (λ o. cons_option o (all_got (heard m c) events)) (took_shut m c (ap is_open_state e))
    ∙ closed_gets_none events (heard m c) (ap (λ (x : ClientSeen). x.state) (hear_closed m c e) ∙ e)

-- a close is no message
ends_message : (session term : ℤ) (m : Egress) → is_closed_by session m ≡ true → message_to session term m ≡ None
ends_message session term (SessionEvent s corr t l code) f = refl
ends_message session term (Message t s stamp payload) f = absurd cc
ends_message session term (NewLeader t s l) f = refl

-- one more record of an open session, where what follows is as it is to be
open_hears : (m : Egress) (events : List Event) (c : ClientSeen) (session term opened : ℤ) (leader : ℕ) (before : List Egress) → c.state ≡ Open session term leader → greatest_term session opened before ≡ term
    → ((leads : ℕ) → (heard m c).state ≡ Open session (greatest_term session opened (before ++ m ∷ [])) leads
    → all_got (heard m c) events ≡ messages_after session opened (before ++ m ∷ []) (before_closed session (messages_of (given (heard m c) events))))
    → cons_option (got_of (took m c)) (all_got (heard m c) events) ≡ messages_after session opened before (before_closed session (m ∷ messages_of (given (heard m c) events)))
open_hears m events c session term opened leader before e g follows = by (told_goes c.members session term leader m)
  where
    state_is : (heard m c).state ≡ told c.members session term leader m
    state_is = ap (λ (st : State). (heard_in st m c).state) e

    got_is : got_of (took m c) ≡ message_to session (greatest_term session opened before) m
    got_is = ap (λ (st : State). got_of (took_in st m)) e ∙ took_is_message session term m ∙ ap (λ t. message_to session t m) (sym g)

    front : (b : Bool) → is_closed_by session m ≡ b → before_closed session (m ∷ messages_of (given (heard m c) events)) ≡ cond (not b) (m ∷ before_closed session (messages_of (given (heard m c) events))) []
    front b f =
        take_while-cons (λ x. not (is_closed_by session x)) m (messages_of (given (heard m c) events))
        ∙ ap (λ v. cond (not v) (m ∷ before_closed session (messages_of (given (heard m c) events))) []) f

    by : Goes session term m (told c.members session term leader m)
        → cons_option (got_of (took m c)) (all_got (heard m c) events) ≡ messages_after session opened before (before_closed session (m ∷ messages_of (given (heard m c) events)))
    by (Ends f is) =
        ap (λ o. cons_option o (all_got (heard m c) events)) (got_is ∙ ends_message session (greatest_term session opened before) m f)
        ∙ closed_gets_none events (heard m c) (state_is ∙ is)
        ∙ sym (ap (messages_after session opened before) (front true f))
    by (Stays f leads is) =
        let known : greatest_term session opened (before ++ m ∷ []) ≡ term_after session term m = greatest-more session opened before m ∙ ap (λ t. term_after session t m) g in
        let now : (heard m c).state ≡ Open session (greatest_term session opened (before ++ m ∷ [])) leads = state_is ∙ is ∙ ap (λ t. Open session t leads) (sym known) in
        ap (λ o. cons_option o (all_got (heard m c) events)) got_is
        ∙ ap (λ l. cons_option (message_to session (greatest_term session opened before) m) l) (follows leads now)
        ∙ sym (ap (messages_after session opened before) (front false f))

-- the user of an open session gets the messages of the greatest term before its close
open_gets : (events : List Event) (c : ClientSeen) (session term opened : ℤ) (leader : ℕ) (before : List Egress) → c.state ≡ Open session term leader → greatest_term session opened before ≡ term
    → all_got c events ≡ messages_after session opened before (before_closed session (messages_of (given c events)))
open_gets [] c session term opened leader before e g = refl
open_gets (Steps now ∷ events) c session term opened leader before e g = open_gets events (stepped now c) session term opened leader before (step_keeps now c session term leader e) g
open_gets (Hears_nothing ∷ events) c session term opened leader before e g = open_gets events c session term opened leader before e g
open_gets (Offers now payload ∷ events) c session term opened leader before e g =
    open_gets events (offered_unless (refusal (length payload) c) now c) session term opened leader before (offer_keeps (refusal (length payload) c) now c ∙ e) g
open_gets (Hears m ∷ events) c session term opened leader before e g =
    open_hears m events c session term opened leader before e g
    (λ leads now. open_gets events (heard m c) session (greatest_term session opened (before ++ m ∷ [])) opened leads (before ++ m ∷ []) now refl)

-- one more record of a client that has no session, where what follows is as it is to be
shut_hears : (m : Egress) (events : List Event) (c : ClientSeen) → is_open c ≡ false
    → (is_open (heard m c) ≡ false → all_got (heard m c) events ≡ handed (given (heard m c) events))
    → cons_option (got_of (took m c)) (all_got (heard m c) events) ≡ handed (given c (Hears m ∷ events))
shut_hears m events c e follows =
    ap (λ o. cons_option o (all_got (heard m c) events)) (took_shut m c e)
    ∙ by (is_open (heard m c)) refl
    ∙ sym (ap (λ b. cond (not b && is_open (heard m c)) (handed_after m (messages_of (given (heard m c) events))) (handed (given (heard m c) events))) e)
  where
    opened : Opens m (heard m c).state → all_got (heard m c) events ≡ handed_after m (messages_of (given (heard m c) events))
    opened (Opened session corr term named code is leader now) =
        open_gets events (heard m c) session term term leader [] now refl
        ∙ sym (ap (λ x. handed_after x (messages_of (given (heard m c) events))) is)

    by : (b : Bool) → is_open (heard m c) ≡ b → all_got (heard m c) events ≡ cond (is_open (heard m c)) (handed_after m (messages_of (given (heard m c) events))) (handed (given (heard m c) events))
    by true f = opened (hear_opens m c e f) ∙ sym (ap (λ v. cond v (handed_after m (messages_of (given (heard m c) events))) (handed (given (heard m c) events))) f)
    by false f = follows f ∙ sym (ap (λ v. cond v (handed_after m (messages_of (given (heard m c) events))) (handed (given (heard m c) events))) f)

-- the user of a client that has no session yet
shut_gets : (events : List Event) (c : ClientSeen) → is_open c ≡ false → all_got c events ≡ handed (given c events)
shut_gets [] c e = refl
shut_gets (Steps now ∷ events) c e = shut_gets events (stepped now c) (step_opens_none now c e)
shut_gets (Hears_nothing ∷ events) c e = shut_gets events c e
shut_gets (Offers now payload ∷ events) c e = shut_gets events (offered_unless (refusal (length payload) c) now c) (ap is_open_state (offer_keeps (refusal (length payload) c) now c) ∙ e)
shut_gets (Hears m ∷ events) c e = shut_hears m events c e (λ f. shut_gets events (heard m c) f)

-- whatever a new client is given
pub new_gets : (stream : ℤ) (members : ℕ) (events : List Event) → all_got (new_client stream members) events ≡ handed (given (new_client stream members) events)
new_gets stream members events = shut_gets events (new_client stream members) refl
