-- The headline is true after each list of orders.
use Rattle.std.proofs.Common.{◌≡◌, ℕ, zero, suc, ◌+◌, ◌-◌, ℤ, pos, Bool, true, false, ◌&&◌, List, [], ◌∷◌, ◌++◌, take, drop, length, fold, get_or, Some, None, refl, sym, ◌∙◌, ap, subst, arith, append_assoc, append-nil, take-append-drop}
use Rattle.std.specs.Prelude.{All, Contains, slice_index, int_le, ◌≤ℤ◌}
use Rattle.std.proofs.lemmas.Bool.{false≢true}
use Rattle.std.proofs.lemmas.Int.{ints}
use Rattle.std.proofs.lemmas.Option.{slice_get_within}
use Rattle.std.proofs.lemmas.List.Elements.{All-nil, All-append, All-weaker, All-contains_itself, Contains-push}
use Rattle.entry_log.specs.Log.{same_term}
use Rattle.election.specs.declared.member.State.{State}
use Rattle.election.specs.declared.member.State.TheVariants.{LeaderReady}
use Rattle.election.specs.declared.member.Election.{Election}
use Rattle.scenario.specs.declared.order.Order.{Order}
use Rattle.scenario.specs.declared.order.Order.TheVariants as order
use Rattle.sbe_events.specs.declared.event.Event.{Event}
use Rattle.sbe_events.specs.declared.event.Event.TheVariants as event
use Rattle.echo_run.specs.declared.sent.Outcome.{Outcome}
use Rattle.echo_run.specs.declared.sent.Outcome.TheVariants as outcome
use Rattle.echo_run.specs.declared.sent.Sent.{Sent}
use Rattle.echo_run.specs.declared.clients.Known.{Known}
use Rattle.sbe_events.specs.Spelling.{term_of}
use Rattle.echo_run.specs.Module.{module_of}
use Rattle.echo_run.specs.Headline.{entry_of, IsOwed, IsSentByLeader, phase_sends, phases_in, phases_at, phases_from, phases_of, IsLedBy, no_reign, Headline}
use Rattle.echo_run.specs.World.{World, first_world, turn, phase, round, rounds, connects_to, sends, answers, direct, connect_outcome, message_outcome, known_by, step, world_after, is_ready}
use Rattle.echo_run.proofs.Fronts.{IsSound, turn_sound, phase_sound, step_sound, consumes_front}
use Rattle.echo_run.proofs.HeadlineEntries.{Apart, apart_pairs, apart_append, one_all, one_apart, BeforeEntry, FromEntry, before_from, sent_all, Paid, paid_from, owed_on, led_on, some_none}
use Rattle.echo_run.proofs.HeadlineReigns.{IsReigned, duty_reigned, taken_reigned, accepts_ready, led_front}

both_true : (a b : Bool) → (a && b) ≡ true → (a ≡ true) × (b ≡ true)
both_true true b h = (refl, h)
both_true false b h = absurd (false≢true h)

ready_state : (s : State) → is_ready s ≡ true → s ≡ LeaderReady
ready_state LeaderReady h = refl
ready_state _ h = absurd (false≢true h)

same_is : (s t : ℤ) → same_term s t ≡ true → s ≡ t
same_is s t h =
    let p = both_true (int_le s t) (int_le t s) h in
    let l = p.0 in
    let r = p.1 in
    let less : s ≤ℤ t = grind (arith, ints, l) in
    let more : t ≤ℤ s = grind (arith, ints, r) in
    omega (arith, ints, less, more)

-- what is true of a world, whose phases up to it began in these worlds
record IsFine (past : List World) (w : World) : Type 0 where
  sound : IsSound w
  reigned : IsReigned w.member
  owed : All (IsOwed w.inputs) w.sent
  led : All (IsSentByLeader past w.inputs) w.sent
  apart : Apart w.sent

turn_fine : (past : List World) (w : World) → IsFine past w → IsFine past (turn w)
turn_fine past w f = record { sound = turn_sound w f.sound; reigned = duty_reigned w.member.election.state w.member w.now f.reigned; owed = f.owed; led = f.led; apart = f.apart }

-- a record that an entry of the consumed log owes, of a phase in which the member leads in the entry's term
led_now : (past : List World) (w : World) (log : List Event) (s : Sent) → Paid w.member.election log s → Contains (phase_sends w) s → IsSentByLeader (past ++ w ∷ []) log s
led_now past w log s paid self i at =
    let p = paid i at in
    let l = both_true (is_ready w.member.election.state) (same_term w.member.election.term (term_of p.0)) p.3 in
    (p.0, p.1, (w, Contains-push past w, record { sent = self; leads = ready_state w.member.election.state l.0; term = same_is w.member.election.term (term_of p.0) l.1 }))

phase_fine : (past : List World) (w : World) → IsFine past w → IsFine (past ++ w ∷ []) (phase w)
phase_fine past w f =
    let n = length w.inputs in
    let log = w.member.log in
    let es = take (w.member.commit - n) (drop n log) in
    let paid : All (Paid w.member.election (w.inputs ++ es)) (phase_sends w) = paid_from w.member.election w.inputs es (module_of (take n log)) n (ap module_of (sym f.sound.inputs)) refl in
    let self = All-contains_itself (phase_sends w) in
    let all = sent_all w.member.election (module_of (take n log)) n es in
    let before : All (BeforeEntry n) w.sent = All-weaker (IsOwed w.inputs) (BeforeEntry n) (λ s p i at. slice_get_within w.inputs i (p i at).0 (p i at).1) w.sent f.owed in
    record {
      sound = phase_sound w f.sound;
      reigned = f.reigned;
      owed = All-append (IsOwed (w.inputs ++ es)) w.sent (phase_sends w)
          (All-weaker (IsOwed w.inputs) (IsOwed (w.inputs ++ es)) (owed_on w.inputs es) w.sent f.owed)
          (All-weaker (Paid w.member.election (w.inputs ++ es)) (IsOwed (w.inputs ++ es)) (λ s p i at. let q = p i at in (q.0, q.1, q.2)) (phase_sends w) paid);
      led = All-append (IsSentByLeader (past ++ w ∷ []) (w.inputs ++ es)) w.sent (phase_sends w)
          (All-weaker (IsSentByLeader past w.inputs) (IsSentByLeader (past ++ w ∷ []) (w.inputs ++ es)) (led_on past (w ∷ []) w.inputs es) w.sent f.led)
          (λ k d h. led_now past w (w.inputs ++ es) (get_or (phase_sends w) k d) (paid k d h) (self k d h));
      apart = apart_append (BeforeEntry n) (FromEntry n) (before_from n) w.sent (phase_sends w) before all.0 f.apart all.1;
    }

rounds_fine : (n : ℕ) (past : List World) (w : World) → IsFine past w → IsFine (past ++ phases_in n w) (rounds n w)
rounds_fine zero past w f = subst (λ (p : List World). IsFine p w) (sym (append-nil past)) f
rounds_fine (suc n) past w f =
    let v : World = record w { now = w.now + 10 } in
    let s = f.sound in
    let later : IsFine past v = record { sound = record { commit = s.commit; printed = s.printed; few = s.few; inputs = s.inputs }; reigned = f.reigned; owed = f.owed; led = f.led; apart = f.apart } in
    subst (λ (p : List World). IsFine p (rounds n (round w))) (append_assoc past (turn v ∷ []) (phases_in n (round w)))
    (rounds_fine n (past ++ turn v ∷ []) (round w) (phase_fine past (turn v) (turn_fine past v later)))

abbrev IsDirect : Sent → Type 0
IsDirect s = entry_of s.origin ≡ None

one_direct : (s : Sent) → IsDirect s → All IsDirect (s ∷ []) × Apart (s ∷ [])
one_direct s h = (one_all IsDirect s h, one_apart s)

answers_direct : (client : ℕ) (corr : ℤ) (election : Election) (o : Outcome) → All IsDirect (answers client corr election o) × Apart (answers client corr election o)
answers_direct client corr election (outcome.Accepted i) = (All-nil IsDirect, tt)
answers_direct client corr election (outcome.NotLeader l) = one_direct (direct client corr election 2) refl
answers_direct client corr election (outcome.WrongTerm t) = one_direct (direct client corr election 1) refl
answers_direct client corr election (outcome.NoSession s) = one_direct (direct client corr election 1) refl
answers_direct client corr election (outcome.TooLarge n) = one_direct (direct client corr election 1) refl
answers_direct client corr election outcome.SessionLimit = one_direct (direct client corr election 1) refl
answers_direct client corr election (outcome.BackPressure n) = one_direct (direct client corr election 1) refl
answers_direct client corr election (outcome.LogFull p) = one_direct (direct client corr election 1) refl

direct_none : (s : Sent) (i : ℕ) → IsDirect s → entry_of s.origin ≡ Some i → ⊥
direct_none s i direct at = some_none i (sym at ∙ direct)

-- records that no entry owes are sent too
answered : (past : List World) (log : List Event) (sent more : List Sent) → All IsDirect more × Apart more → All (IsOwed log) sent → All (IsSentByLeader past log) sent → Apart sent
    → All (IsOwed log) (sent ++ more) × All (IsSentByLeader past log) (sent ++ more) × Apart (sent ++ more)
answered past log sent more direct owed led apart = (
  All-append (IsOwed log) sent more owed (All-weaker IsDirect (IsOwed log) (λ s d i at. absurd (direct_none s i d at)) more direct.0),
  All-append (IsSentByLeader past log) sent more led (All-weaker IsDirect (IsSentByLeader past log) (λ s d i at. absurd (direct_none s i d at)) more direct.0),
  apart_append (IsOwed log) IsDirect (λ s t p q same. ap entry_of same ∙ q) sent more owed direct.0 apart direct.1,
)

step_fine : (past : List World) (w : World) (o : Order) → IsFine past w → IsFine (past ++ phases_at w o) (step w o)
step_fine past w (order.Rounds line n) f = rounds_fine n past w f
step_fine past w (order.Connect line client member) f =
    let corr : ℤ = pos (suc (slice_index w.connects client)) in
    let e : Event = event.Opened w.member.election.term corr (module_of w.member.log).next_id (pos w.now) (pos client) [] in
    let given : Outcome = connect_outcome w.member e in
    let all = answered past w.inputs w.sent (answers client corr w.member.election given) (answers_direct client corr w.member.election given) f.owed f.led f.apart in
    let next : IsFine past (connects_to line client w) = record {
      sound = step_sound w (order.Connect line client member) f.sound;
      reigned = taken_reigned w.member e given f.reigned (λ i h. accepts_ready (is_ready w.member.election.state) _ w.member.election.leader i h) (λ r. refl) refl;
      owed = all.0;
      led = all.1;
      apart = all.2;
    } in
    subst (λ (p : List World). IsFine p (connects_to line client w)) (sym (append-nil past)) next
step_fine past w (order.Send line client member text) f =
    let k : Known = known_by client w.sent in
    let e : Event = event.Message w.member.election.term k.session (pos w.now) text in
    let given : Outcome = message_outcome w.member k.term k.session (length text) e in
    let next : IsFine past (sends line client text w) = record {
      sound = step_sound w (order.Send line client member text) f.sound;
      reigned = taken_reigned w.member e given f.reigned (λ i h. accepts_ready (is_ready w.member.election.state) _ w.member.election.leader i h) (λ r. refl) refl;
      owed = f.owed;
      led = f.led;
      apart = f.apart;
    } in
    subst (λ (p : List World). IsFine p (sends line client text w)) (sym (append-nil past)) next
step_fine past w _ f = subst (λ (p : List World). IsFine p w) (sym (append-nil past)) f

steps_fine : (past : List World) (w : World) (orders : List Order) → IsFine past w → IsFine (past ++ phases_from w orders) (fold step w orders)
steps_fine past w [] f = subst (λ (p : List World). IsFine p w) (sym (append-nil past)) f
steps_fine past w (o ∷ orders) f =
    subst (λ (p : List World). IsFine p (fold step (step w o) orders)) (append_assoc past (phases_at w o) (phases_from (step w o) orders))
    (steps_fine (past ++ phases_at w o) (step w o) orders (step_fine past w o f))

first_fine : IsFine [] first_world
first_fine = record {
  sound = record { commit = omega arith; printed = refl; few = omega arith; inputs = refl };
  reigned = record { id = refl; current = λ r. absurd (false≢true r); past = tt };
  owed = All-nil (IsOwed []);
  led = All-nil (IsSentByLeader [] []);
  apart = tt;
}

pub headline_holds : (orders : List Order) → Headline orders
headline_holds orders =
    let w = world_after orders in
    let phases = phases_of orders in
    let f : IsFine phases w = steps_fine [] first_world orders first_fine in
    let n = length w.inputs in
    let rest = drop n w.printed in
    let front : w.inputs ≡ take n w.printed = consumes_front orders in
    let printed : w.inputs ++ rest ≡ w.printed = ap (λ xs. xs ++ rest) front ∙ take-append-drop n w.printed in
    let log : take w.member.commit w.member.log ++ drop w.member.commit w.member.log ≡ w.member.log = take-append-drop w.member.commit w.member.log in
    let more : All (IsSentByLeader (phases ++ []) (w.inputs ++ rest)) w.sent = All-weaker (IsSentByLeader phases w.inputs) (IsSentByLeader (phases ++ []) (w.inputs ++ rest)) (led_on phases [] w.inputs rest) w.sent f.led in
    record {
      inputs = front;
      owed = subst (λ (log : List Event). All (IsOwed log) w.sent) printed (All-weaker (IsOwed w.inputs) (IsOwed (w.inputs ++ rest)) (owed_on w.inputs rest) w.sent f.owed);
      once = apart_pairs w.sent f.apart;
      led = subst (λ (log : List Event). All (IsSentByLeader phases log) w.sent) printed (subst (λ (ps : List World). All (IsSentByLeader ps (w.inputs ++ rest)) w.sent) (append-nil phases) more);
      named = subst (IsLedBy (pos 0) no_reign) (sym f.sound.printed) (led_front no_reign (take w.member.commit w.member.log) (drop w.member.commit w.member.log) (subst (IsLedBy (pos 0) no_reign) (sym log) f.reigned.past));
    }
