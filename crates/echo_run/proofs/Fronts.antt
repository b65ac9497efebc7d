-- In every world the service has consumed a front of the printed log, and that is what is committed.
use Rattle.std.proofs.Common.{◌≡◌, ℕ, zero, suc, ◌+◌, ◌-◌, ◌≤◌, max, Bool, true, false, if◌then◌else◌, nat_le, nat_lt, List, [], ◌∷◌, ◌++◌, map, length, take, drop, fold, None, refl, sym, ◌∙◌, ap, ⊎_elim, arith, append-nil, length-take-le, length-append}
use Rattle.std.proofs.lemmas.List.{take-take, take-append-le}
use Rattle.std.proofs.lemmas.Bool.{le-leb, cases_lt}
use Rattle.line_text.proofs.Parts.{take-add}
use Rattle.scenario.specs.declared.order.Order.{Order}
use Rattle.scenario.specs.declared.order.Order.TheVariants as order
use Rattle.election.specs.declared.member.State.{State}
use Rattle.election.specs.declared.member.State.TheVariants.{Init, Canvass, Nominate, CandidateBallot, FollowerBallot, LeaderInit, LeaderReady, FollowerLogReplication, FollowerReady, Closed}
use Rattle.election.specs.declared.member.Election.{Election}
use Rattle.election.specs.Rows.{enter_canvass, duty}
use Rattle.entry_log.specs.Quorum.{is_quorum}
use Rattle.entry_log.specs.Log.{end_after}
use Rattle.sbe_events.specs.declared.event.Event.{Event}
use Rattle.echo_run.specs.declared.sent.Outcome.{Outcome}
use Rattle.echo_run.specs.declared.sent.Outcome.TheVariants as outcome
use Rattle.echo_run.specs.Module.{event_len, place_of}
use Rattle.echo_run.specs.LeaderRows.{Member, begins_reign, leads, duty_in, duty_of, name_of, appends, commit_after, entries_from, entries_to, quorum_position, reports_of, heard_count, new_term}
use Rattle.echo_run.specs.World.{World, first_world, longer, turn, phase, round, rounds, taken, connects_to, sends, step, world_after}

-- a member's commit is within its log
abbrev Within : Member → Type 0
Within m = m.commit ≤ length m.log

-- the log goes on, and the commit doesn't fall
record Grows (old new : Member) : Type 0 where
  within : new.commit ≤ length new.log
  front : take old.commit new.log ≡ take old.commit old.log
  goes_on : (n : ℕ) → n ≤ length old.log → take n new.log ≡ take n old.log
  rises : old.commit ≤ new.commit

pub record IsSound (w : World) : Type 0 where
  pub commit : w.member.commit ≤ length w.member.log
  pub printed : w.printed ≡ take w.member.commit w.member.log
  pub few : length w.inputs ≤ w.member.commit
  pub inputs : w.inputs ≡ take (length w.inputs) w.member.log

still : (m : Member) → Within m → (e : Election) → Grows m (record m { election = e })
still m within e = record { within = within; front = refl; goes_on = λ n h. refl; rises = omega arith }

one_more : (m : Member) → Within m → (x : Event) → Grows m (appends m x)
one_more m within x = record {
  within = let more : length (m.log ++ x ∷ []) ≡ length m.log + 1 = length-append m.log (x ∷ []) in omega arith;
  front = take-append-le m.commit m.log (x ∷ []) within;
  goes_on = λ n h. take-append-le n m.log (x ∷ []) h;
  rises = omega arith;
}

entries_within : (p q : ℕ) (log : List Event) → entries_from p q log ≤ length log
entries_within p q [] = omega arith
entries_within p q (e ∷ es) =
    let rest : entries_from (end_after p (event_len e)) q es ≤ length es = entries_within (end_after p (event_len e)) q es in
    elim (nat_le (end_after p (event_len e)) q) as (λ b. (if b then suc (entries_from (end_after p (event_len e)) q es) else 0) ≤ suc (length es)) [ true ↦ omega arith | false ↦ omega arith ]

commit_within : (m : Member) → Within m → (commit_after m ≤ length m.log) × (m.commit ≤ commit_after m)
commit_within m within =
    let q = quorum_position m.election.members (reports_of m) in
    let few : entries_to q m.log ≤ length m.log = entries_within 0 q m.log in
    elim (nat_le m.own_end q) as (λ b. ((if b then max m.commit (entries_to q m.log) else m.commit) ≤ length m.log) × (m.commit ≤ (if b then max m.commit (entries_to q m.log) else m.commit))) [ true ↦ (omega arith, omega arith) | false ↦ (within, omega arith) ]

leads_grows : (m : Member) (now : ℕ) → Within m → Grows m (leads m [] now)
leads_grows m now within =
    elim (is_quorum m.election.members (heard_count m now)) as (λ b. Grows m (if b
    then record m { election = record m.election { next = if nat_le m.election.next now then now + 100 else m.election.next }; commit = commit_after m; log = m.log ++ [] }
    else record m { election = enter_canvass m.election now })) [
      | true ↦ record {
        within = let same : length (m.log ++ []) ≡ length m.log = ap length (append-nil m.log) in let bounds = commit_within m within in omega (arith, bounds.0);
        front = ap (take m.commit) (append-nil m.log);
        goes_on = λ n h. ap (take n) (append-nil m.log);
        rises = (commit_within m within).1;
      }
      | false ↦ still m within (enter_canvass m.election now)
    ]

begins_grows : (m : Member) (now : ℕ) → Within m → Grows m (begins_reign m now)
begins_grows m now within =
    let g = one_more m within (new_term m now) in
    elim (nat_le (place_of (m.log ++ new_term m now ∷ [])) 16777216) as (λ b. Grows m (if b
    then record m {
      election = record m.election { state = LeaderReady; next = now + 100 };
      log = m.log ++ new_term m now ∷ [];
      own_end = place_of (m.log ++ new_term m now ∷ []);
      acked = map (λ a. None) m.acked;
      last_heard = map (λ h. now) m.last_heard;
    }
    else record m { election = enter_canvass m.election now })) [
      | true ↦ record { within = g.within; front = g.front; goes_on = g.goes_on; rises = g.rises }
      | false ↦ still m within (enter_canvass m.election now)
    ]

duty_grows : (s : State) (m : Member) (now : ℕ) → Within m → Grows m (duty_in s m [] now)
duty_grows LeaderInit m now within = begins_grows m now within
duty_grows LeaderReady m now within = leads_grows m now within
duty_grows Init m now within = still m within (duty Init m.election (name_of m.log) now).election
duty_grows Canvass m now within = still m within (duty Canvass m.election (name_of m.log) now).election
duty_grows Nominate m now within = still m within (duty Nominate m.election (name_of m.log) now).election
duty_grows CandidateBallot m now within = still m within (duty CandidateBallot m.election (name_of m.log) now).election
duty_grows FollowerBallot m now within = still m within (duty FollowerBallot m.election (name_of m.log) now).election
duty_grows FollowerLogReplication m now within = still m within (duty FollowerLogReplication m.election (name_of m.log) now).election
duty_grows FollowerReady m now within = still m within (duty FollowerReady m.election (name_of m.log) now).election
duty_grows Closed m now within = still m within (duty Closed m.election (name_of m.log) now).election

pub longer_same : (xs : List Event) → longer xs xs ≡ xs
longer_same xs = elim (nat_lt (length xs) (length xs)) as (λ b. (if b then xs else xs) ≡ xs) [ true ↦ refl | false ↦ refl ]

pub longer_front : (log : List Event) (m n : ℕ) → m ≤ n → n ≤ length log → longer (take m log) (take n log) ≡ take n log
longer_front log m n order within = ⊎_elim
    (λ less.
    let a : length (take m log) ≡ m = length-take-le m log (omega arith) in
    let b : length (take n log) ≡ n = length-take-le n log within in
    let test : nat_lt (length (take m log)) (length (take n log)) ≡ true = le-leb _ _ (omega (arith, less)) in
    ap (λ (t : Bool). if t then take n log else take m log) test)
    (λ more.
    let same : m ≡ n = omega (arith, more) in
    ap (λ k. longer (take k log) (take n log)) same ∙ longer_same (take n log))
    (cases_lt m n)

pub turn_sound : (w : World) → IsSound w → IsSound (turn w)
turn_sound w sound =
    let g = duty_grows w.member.election.state w.member w.now sound.commit in
    let m = duty_of w.member [] w.now in
    record {
      commit = g.within;
      printed = ap (λ p. longer p (take m.commit m.log)) (sound.printed ∙ sym g.front) ∙ longer_front m.log w.member.commit m.commit g.rises g.within;
      few = let rises = g.rises in let few = sound.few in omega arith;
      inputs = sound.inputs ∙ sym (g.goes_on (length w.inputs) (let few = sound.few in let within = sound.commit in omega arith));
    }

pub phase_sound : (w : World) → IsSound w → IsSound (phase w)
phase_sound w sound =
    let n = length w.inputs in
    let few : n ≤ w.member.commit = sound.few in
    let within : w.member.commit ≤ length w.member.log = sound.commit in
    let all : w.inputs ++ take (w.member.commit - n) (drop n w.member.log) ≡ take w.member.commit w.member.log =
    ap (λ xs. xs ++ take (w.member.commit - n) (drop n w.member.log)) sound.inputs
    ∙ sym (take-add w.member.log n (w.member.commit - n) (omega arith))
    ∙ ap (λ k. take k w.member.log) (let k : n + (w.member.commit - n) ≡ w.member.commit = omega arith in k) in
    let count : length (w.inputs ++ take (w.member.commit - n) (drop n w.member.log)) ≡ w.member.commit = ap length all ∙ length-take-le w.member.commit w.member.log within in
    record {
      commit = sound.commit;
      printed = sound.printed;
      few = omega (arith, count);
      inputs = all ∙ ap (λ k. take k w.member.log) (sym count);
    }

rounds_sound : (n : ℕ) (w : World) → IsSound w → IsSound (rounds n w)
rounds_sound zero w sound = sound
rounds_sound (suc n) w sound =
    let v : World = record w { now = w.now + 10 } in
    let later : IsSound v = record { commit = sound.commit; printed = sound.printed; few = sound.few; inputs = sound.inputs } in
    rounds_sound n (round w) (phase_sound (turn v) (turn_sound v later))

-- an offered entry is appended, or nothing changes
record Keeps (old new : Member) : Type 0 where
  commit : new.commit ≡ old.commit
  within : old.commit ≤ length new.log
  goes_on : (n : ℕ) → n ≤ length old.log → take n new.log ≡ take n old.log

kept : (m : Member) → Within m → Keeps m m
kept m within = record { commit = refl; within = within; goes_on = λ n h. refl }

taken_keeps : (m : Member) → Within m → (e : Event) (o : Outcome) → Keeps m (taken m e o)
taken_keeps m within e (outcome.Accepted i) = let g = one_more m within e in record { commit = refl; within = g.within; goes_on = g.goes_on }
taken_keeps m within e (outcome.NotLeader l) = kept m within
taken_keeps m within e (outcome.WrongTerm t) = kept m within
taken_keeps m within e (outcome.NoSession s) = kept m within
taken_keeps m within e (outcome.TooLarge n) = kept m within
taken_keeps m within e outcome.SessionLimit = kept m within
taken_keeps m within e (outcome.BackPressure n) = kept m within
taken_keeps m within e (outcome.LogFull p) = kept m within

still_sound : (w : World) (m : Member) → IsSound w → Keeps w.member m → (v : World) → v.member ≡ m → v.printed ≡ w.printed → v.inputs ≡ w.inputs → IsSound v
still_sound w m sound keeps v member printed inputs = record {
  commit = rw member (rw keeps.commit keeps.within);
  printed = rw member (printed ∙ sound.printed ∙ sym (keeps.goes_on w.member.commit sound.commit) ∙ ap (λ k. take k m.log) (sym keeps.commit));
  few = rw (member, inputs) (rw keeps.commit sound.few);
  inputs = rw (member, inputs) (sound.inputs ∙ sym (keeps.goes_on (length w.inputs) (let few = sound.few in let within = sound.commit in omega arith)));
}

pub step_sound : (w : World) (o : Order) → IsSound w → IsSound (step w o)
step_sound w (order.Rounds line n) sound = rounds_sound n w sound
step_sound w (order.Connect line client member) sound = still_sound w _ sound (taken_keeps w.member sound.commit _ _) (connects_to line client w) refl refl refl
step_sound w (order.Send line client member text) sound = still_sound w _ sound (taken_keeps w.member sound.commit _ _) (sends line client text w) refl refl refl
step_sound w _ sound = sound

steps_sound : (w : World) (orders : List Order) → IsSound w → IsSound (fold step w orders)
steps_sound w [] sound = sound
steps_sound w (o ∷ orders) sound = steps_sound (step w o) orders (step_sound w o sound)

-- the service's inputs are the front of the printed log
pub consumes_front : (orders : List Order) → (world_after orders).inputs ≡ take (length (world_after orders).inputs) (world_after orders).printed
consumes_front orders =
    let w = world_after orders in
    let sound = steps_sound first_world orders (record { commit = omega arith; printed = refl; few = omega arith; inputs = refl }) in
    sound.inputs ∙ sym (take-take (length w.inputs) w.member.commit w.member.log sound.few) ∙ ap (take (length w.inputs)) (sym sound.printed)
