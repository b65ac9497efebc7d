-- How far a client is after each event.
use Rattle.std.proofs.Common.{◌≡◌, ℕ, ℤ, pos, Bool, true, false, cond, ◌&&◌, ◌==◌, List, [], ◌∷◌, ◌++◌, Option, Some, None, refl, sym, ap, ◌∙◌, subst, arith, unwrap_or, int_lt}
use Rattle.std.specs.Prelude.{fold}
use Rattle.std.specs.Int.{int_max}
use Rattle.std.specs.List.{cons_option, filter_map}
use Rattle.std.specs.Ordering.{int_eq}
use Rattle.std.proofs.lemmas.Int.{ints}
use Rattle.std.proofs.lemmas.List.Sums.{fold-append}
use Rattle.std.proofs.lemmas.List.Elements.{filter_map-append}
use Rattle.sbe_client.specs.declared.egress.Egress.{Egress}
use Rattle.sbe_client.specs.declared.egress.Egress.TheVariants.{SessionEvent, Message, NewLeader}
use Rattle.cluster_client.specs.declared.answers.OfferFault.{OfferFault}
use Rattle.cluster_client.specs.declared.answers.Took.TheVariants.{Handed, Ignored}
use Rattle.cluster_client.specs.declared.state.State.{State}
use Rattle.cluster_client.specs.declared.state.State.TheVariants.{Unconnected, Connecting, Open, Closed}
use Rattle.cluster_client.specs.Seen.{ClientSeen, is_open_state, member_after, member_named}
use Rattle.cluster_client.specs.Calls.{is_quiet, asked, stepped_in, stepped, answered, told, heard_in, heard, took_open, took_in, took}
use Rattle.cluster_client.specs.Handed.{term_told, greatest_term, message_to, is_closed_by}
use Rattle.cluster_client.specs.Runs.{offered_unless, got_of}

-- a step keeps a session
pub step_keeps : (now : ℕ) (c : ClientSeen) (session term : ℤ) (leader : ℕ) → c.state ≡ Open session term leader → (stepped now c).state ≡ Open session term leader
step_keeps now c session term leader e = let P : State → Type 0 = λ st. (stepped_in st now c).state ≡ Open session term leader in subst P (sym e) (either (is_quiet now c))
  where
    either : (b : Bool) → (cond b (record c { sent = now }) c).state ≡ Open session term leader
    either true = e
    either false = e

-- and opens none
pub step_opens_none : (now : ℕ) (c : ClientSeen) → is_open_state c.state ≡ false → is_open_state (stepped now c).state ≡ false
step_opens_none now c e = by c.state refl e
  where
    either : (b : Bool) → is_open_state c.state ≡ false → is_open_state (cond b (asked (member_after c) now c) c).state ≡ false
    either true e = refl
    either false e = e

    by : (s : State) → c.state ≡ s → is_open_state s ≡ false → is_open_state (stepped_in s now c).state ≡ false
    by Unconnected is e = refl
    by Connecting is e = either (is_quiet now c) (ap is_open_state is)
    by (Open session term leader) is e = absurd cc
    by Closed is e = ap is_open_state is

-- it leaves one that is closed as it is
pub step_closed : (now : ℕ) (c : ClientSeen) → c.state ≡ Closed → stepped now c ≡ c
step_closed now c e = ap (λ st. stepped_in st now c) e

-- an offer leaves each as far as it is
pub offer_keeps : (o : Option OfferFault) (now : ℕ) (c : ClientSeen) → (offered_unless o now c).state ≡ c.state
offer_keeps None now c = refl
offer_keeps (Some fault) now c = refl

-- a record leaves one that is closed as it is
pub hear_closed : (m : Egress) (c : ClientSeen) → c.state ≡ Closed → heard m c ≡ c
hear_closed m c e = ap (λ st. heard_in st m c) e

pub took_shut : (m : Egress) (c : ClientSeen) → is_open_state c.state ≡ false → got_of (took m c) ≡ None
took_shut m c e = by c.state e
  where
    by : (s : State) → is_open_state s ≡ false → got_of (took_in s m) ≡ None
    by Unconnected e = refl
    by Connecting e = refl
    by (Open session term leader) e = absurd cc
    by Closed e = refl

-- what is handed out of a record to an open session is the message that it holds for the session in its term
pub took_is_message : (session term : ℤ) (m : Egress) → got_of (took_open session term m) ≡ message_to session term m
took_is_message session term (Message t s stamp payload) = either (int_eq s session && int_eq t term)
  where
    either : (b : Bool) → got_of (cond b (Handed t payload) Ignored) ≡ cond b (Some (record { term = t; payload = payload })) None
    either true = refl
    either false = refl
took_is_message session term (SessionEvent s corr t l code) = refl
took_is_message session term (NewLeader t s l) = refl

-- the term after one more record
abbrev pub term_after : ℤ → ℤ → Egress → ℤ
term_after session term m = fold int_max term (filter_map (term_told session) (m ∷ []))

pub greatest-more : (session opened : ℤ) (before : List Egress) (m : Egress) → greatest_term session opened (before ++ m ∷ []) ≡ term_after session (greatest_term session opened before) m
greatest-more session opened before m =
    ap (fold int_max opened) (filter_map-append (term_told session) before (m ∷ []))
    ∙ fold-append int_max opened (filter_map (term_told session) before) (filter_map (term_told session) (m ∷ []))

-- the greater of two terms, either way round
greater : (x y : ℤ) → cond (int_lt y x) x y ≡ cond (int_lt x y) y x
greater x y = by (int_lt y x) refl (int_lt x y) refl
  where
    by : (a : Bool) → int_lt y x ≡ a → (b : Bool) → int_lt x y ≡ b → cond a x y ≡ cond b y x
    by true e true f = grind (arith, ints, e, f)
    by true e false f = refl
    by false e true f = refl
    by false e false f = grind (arith, ints, e, f)

-- an open session is ended by its close alone; any other record leaves it open in the greatest term that it knows
pub data Goes (session term : ℤ) (m : Egress) (now : State) : Type 0 where
  Ends : is_closed_by session m ≡ true → now ≡ Closed → Goes session term m now
  Stays : is_closed_by session m ≡ false → (leader : ℕ) → now ≡ Open session (term_after session term m) leader → Goes session term m now

pub told_goes : (members : ℕ) (session term : ℤ) (leader : ℕ) (m : Egress) → Goes session term m (told members session term leader m)
told_goes members session term leader (SessionEvent s corr t l code) = either (int_eq s session && code == 4) refl
  where
    either : (b : Bool) → (int_eq s session && code == 4) ≡ b → Goes session term (SessionEvent s corr t l code) (cond b Closed (Open session term leader))
    either true e = Ends e refl
    either false e = Stays e leader refl
told_goes members session term leader (Message t s stamp payload) = Stays refl leader refl
told_goes members session term leader (NewLeader t s l) = either (int_eq s session) refl (int_lt term t) refl
  where
    named : int_eq s session ≡ true → cond (int_eq s session) (Some t) None ≡ Some t
    named e = ap (λ v. cond v (Some t) None) e

    unnamed : int_eq s session ≡ false → cond (int_eq s session) (Some t) None ≡ None
    unnamed e = ap (λ v. cond v (Some t) None) e

    either : (a : Bool) → int_eq s session ≡ a → (b : Bool) → int_lt term t ≡ b → Goes session term (NewLeader t s l) (cond (a && b) (Open session t (unwrap_or (member_named members l) 0)) (Open session term leader))
    either true e true f = Stays refl (unwrap_or (member_named members l) 0) (ap (λ x. Open session x (unwrap_or (member_named members l) 0)) (sym (ap (λ v. fold int_max term (cons_option v [])) (named e) ∙ (greater term t ∙ ap (λ v. cond v t term) f))))
    either true e false f = Stays refl leader (ap (λ x. Open session x leader) (sym (ap (λ v. fold int_max term (cons_option v [])) (named e) ∙ (greater term t ∙ ap (λ v. cond v t term) f))))
    either false e b f = Stays refl leader (ap (λ x. Open session x leader) (sym (ap (λ v. fold int_max term (cons_option v [])) (unnamed e))))

-- a record that opens a session is an OK, and the session is the one that it names, in its term
pub data Opens (m : Egress) (now : State) : Type 0 where
  Opened : (session corr term leader_named : ℤ) (code : ℕ) → m ≡ SessionEvent session corr term leader_named code → (leader : ℕ) → now ≡ Open session term leader → Opens m now

pub hear_opens : (m : Egress) (c : ClientSeen) → is_open_state c.state ≡ false → is_open_state (heard m c).state ≡ true → Opens m (heard m c).state
hear_opens m c shut stands = by c.state refl shut stands
  where
    answers : (session corr term leader : ℤ) (code : ℕ) (a b d : Bool) → is_open_state c.state ≡ false
        → is_open_state (cond a (cond b (record c { state = Open session term (unwrap_or (member_named c.members leader) 0) }) (cond d (record c { next = unwrap_or (member_named c.members leader) (member_after c); state = Unconnected }) c)) c).state ≡ true
        → Opens (SessionEvent session corr term leader code) (cond a (cond b (record c { state = Open session term (unwrap_or (member_named c.members leader) 0) }) (cond d (record c { next = unwrap_or (member_named c.members leader) (member_after c); state = Unconnected }) c)) c).state
    answers session corr term leader code true true d shut stands = Opened session corr term leader code refl (unwrap_or (member_named c.members leader) 0) refl
    answers session corr term leader code true false true shut stands = absurd cc
    answers session corr term leader code true false false shut stands = absurd cc
    answers session corr term leader code false b d shut stands = absurd cc

    asks : (m : Egress) → is_open_state c.state ≡ false → is_open_state (answered m c).state ≡ true → Opens m (answered m c).state
    asks (SessionEvent session corr term leader code) shut stands = answers session corr term leader code (int_eq corr (pos c.corr)) (code == 0) (code == 2) shut stands
    asks (Message term session stamp payload) shut stands = absurd cc
    asks (NewLeader term session leader) shut stands = absurd cc

    by : (s : State) → c.state ≡ s → is_open_state s ≡ false → is_open_state (heard_in s m c).state ≡ true → Opens m (heard_in s m c).state
    by Unconnected is e stands = absurd (let f = ap is_open_state is in cc)
    by Connecting is e stands = asks m (ap is_open_state is) stands
    by (Open session term leader) is e stands = absurd cc
    by Closed is e stands = absurd (let f = ap is_open_state is in cc)
