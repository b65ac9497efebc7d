-- The log of one member is led by it.
use Rattle.std.proofs.Common.{◌≡◌, ℕ, ◌+◌, ℤ, Bool, true, false, if◌then◌else◌, nat_le, List, [], ◌∷◌, ◌++◌, map, fold, Option, Some, None, refl, sym, ◌∙◌, ap, subst, append-nil}
use Rattle.std.specs.Prelude.{pos, ◌+ℤ◌, ◌*◌, ◌^◌, ◌&&◌, not, set, replicate, int_le}
use Rattle.std.specs.Int.{int_max}
use Rattle.std.specs.List.{list_any}
use Rattle.std.proofs.lemmas.Bool.{false≢true}
use Rattle.entry_log.specs.TermLaws.{choice}
use Rattle.entry_log.specs.Quorum.{is_quorum}
use Rattle.entry_log.specs.declared.name.LogName.{LogName}
use Rattle.election.specs.declared.member.State.{State}
use Rattle.election.specs.declared.member.State.TheVariants.{Init, Canvass, Nominate, CandidateBallot, FollowerBallot, LeaderInit, LeaderReady, FollowerLogReplication, FollowerReady, Closed}
use Rattle.election.specs.declared.member.Election.{Election}
use Rattle.election.specs.Rows.{Turn, stays, later, heard_count, heard_better, vote_count, enter_canvass, returns_to_canvass, duty, canvass_ends, in_canvass, in_follower_ballot, in_candidate_ballot, nominates}
use Rattle.election.specs.declared.event.Decision.TheVariants as D
use Rattle.sbe_events.specs.declared.event.Event.{Event}
use Rattle.echo_run.specs.declared.sent.Outcome.{Outcome}
use Rattle.echo_run.specs.declared.sent.Outcome.TheVariants as outcome
use Rattle.echo_run.specs.Headline.{Reign, no_reign, reign_after, IsLedBy}
use Rattle.sbe_events.specs.Spelling.{term_of}
use Rattle.echo_run.specs.Module.{place_of}
use Rattle.echo_run.specs.LeaderRows.{Member, begins_reign, leads, duty_in, name_of, new_term, commit_after, heard_count as leader_heard}
use Rattle.echo_run.specs.World.{is_ready, taken}
use Rattle.echo_run.proofs.HeadlineEntries.{push_fold}

abbrev reign_of : List Event → Reign
reign_of log = fold reign_after no_reign log

abbrev reign_in : ℤ → ℕ → Reign
reign_in term id = record { term = term; leader = pos id }

-- the member's log is led by it, and while it leads, in its own term
pub record IsReigned (m : Member) : Type 0 where
  pub id : m.election.id ≡ 0
  pub current : is_ready m.election.state ≡ true → reign_of m.log ≡ reign_in m.election.term 0
  pub past : IsLedBy (pos 0) no_reign m.log

led_push : (r : Reign) (log : List Event) (x : Event) → IsLedBy (pos 0) r log → reign_after (fold reign_after r log) x ≡ reign_in (term_of x) 0 → IsLedBy (pos 0) r (log ++ x ∷ [])
led_push r [] x led last = (last, tt)
led_push r (e ∷ es) x led last = (led.0, led_push (reign_after r e) es x led.1 last)

pub led_front : (r : Reign) (xs ys : List Event) → IsLedBy (pos 0) r (xs ++ ys) → IsLedBy (pos 0) r xs
led_front r [] ys led = tt
led_front r (x ∷ xs) ys led = (led.0, led_front (reign_after r x) xs ys led.1)

-- a row that doesn't make its member a leader
record IsCalm (old new : Election) : Type 0 where
  id : new.id ≡ old.id
  ready : is_ready new.state ≡ true → (is_ready old.state ≡ true) × (new.term ≡ old.term)

calm_self : (m : Election) → IsCalm m m
calm_self m = record { id = refl; ready = λ r. (r, refl) }

canvass_calm : (m : Election) (now : ℕ) → IsCalm m (enter_canvass m now)
canvass_calm m now = record { id = refl; ready = λ r. absurd (false≢true r) }

calm_if : (b : Bool) (m : Election) (x y : Turn) → IsCalm m x.election → IsCalm m y.election → IsCalm m (if b then x else y).election
calm_if true m x y p q = p
calm_if false m x y p q = q

ends_calm : (m : Election) (own : LogName) (now : ℕ) → IsCalm m (canvass_ends m own now).election
ends_calm m own now =
    calm_if (is_quorum m.members (1 + heard_count m.heard) && not (list_any (heard_better own) m.heard)) m
    (record { election = record m { state = Nominate }; decision = D.Nominate })
    (record { election = record m { deadline = now + 300 + 100 * m.id }; decision = D.CanvassAgain })
    (record { id = refl; ready = λ r. absurd (false≢true r) })
    (record { id = refl; ready = λ r. (r, refl) })

in_canvass_calm : (m : Election) (own : LogName) (now : ℕ) → IsCalm m (in_canvass m own now).election
in_canvass_calm m own now =
    let again : Turn = record { election = record m { next = now + 100 }; decision = D.Canvass } in
    calm_if (nat_le m.deadline now) m (canvass_ends m own now) (if nat_le m.next now then again else stays m) (ends_calm m own now)
    (calm_if (nat_le m.next now) m again (stays m) (record { id = refl; ready = λ r. (r, refl) }) (calm_self m))

nominates_calm : (m : Election) (most : ℤ) (now : ℕ) → IsCalm m (nominates m most now).election
nominates_calm m most now =
    calm_if (int_le (pos (2 ^ 62)) most) m (returns_to_canvass m now)
    (record {
      election = record m { candidate = most +ℤ pos 1; voted = Some m.id; votes = set (replicate 5 false) m.id true; deadline = now + 500; state = CandidateBallot };
      decision = D.Request (most +ℤ pos 1);
    })
    (canvass_calm m now)
    (record { id = refl; ready = λ r. absurd (false≢true r) })

follower_calm : (m : Election) (now : ℕ) → IsCalm m (in_follower_ballot m now).election
follower_calm m now = calm_if (nat_le m.deadline now) m (returns_to_canvass m now) (stays m) (canvass_calm m now) (calm_self m)

candidate_calm : (m : Election) (now : ℕ) → IsCalm m (in_candidate_ballot m now).election
candidate_calm m now =
    calm_if (is_quorum m.members (vote_count m.votes)) m
    (record { election = record m { term = m.candidate; leader = Some m.id; state = LeaderInit }; decision = D.Lead })
    (if nat_le m.deadline now then returns_to_canvass m now else stays m)
    (record { id = refl; ready = λ r. absurd (false≢true r) })
    (calm_if (nat_le m.deadline now) m (returns_to_canvass m now) (stays m) (canvass_calm m now) (calm_self m))

duty_calm : (s : State) (m : Election) (own : LogName) (now : ℕ) → IsCalm m (duty s m own now).election
duty_calm Init m own now = canvass_calm m now
duty_calm Canvass m own now = in_canvass_calm m own now
duty_calm Nominate m own now = nominates_calm m (fold later (int_max m.candidate own.term) m.heard) now
duty_calm CandidateBallot m own now = candidate_calm m now
duty_calm FollowerBallot m own now = follower_calm m now
duty_calm LeaderInit m own now = calm_self m
duty_calm LeaderReady m own now = calm_self m
duty_calm FollowerLogReplication m own now = calm_self m
duty_calm FollowerReady m own now = calm_self m
duty_calm Closed m own now = calm_self m

calm_reigned : (m : Member) (e : Election) → IsReigned m → IsCalm m.election e → IsReigned (record m { election = e })
calm_reigned m e r calm = record {
  id = calm.id ∙ r.id;
  current = λ ready. let p = calm.ready ready in r.current p.0 ∙ ap (λ t. reign_in t 0) (sym p.1);
  past = r.past;
}

begins_reigned : (m : Member) (now : ℕ) → IsReigned m → IsReigned (begins_reign m now)
begins_reigned m now r =
    let begun : reign_after (reign_of m.log) (new_term m now) ≡ reign_in m.election.term 0 = ap (reign_in m.election.term) r.id in
    choice IsReigned (nat_le (place_of (m.log ++ new_term m now ∷ [])) 16777216)
    (record m {
      election = record m.election { state = LeaderReady; next = now + 100 };
      log = m.log ++ new_term m now ∷ [];
      own_end = place_of (m.log ++ new_term m now ∷ []);
      acked = map (λ a. None) m.acked;
      last_heard = map (λ h. now) m.last_heard;
    })
    (record m { election = enter_canvass m.election now })
    (λ h. record {
      id = r.id;
      current = λ ready. push_fold reign_after no_reign m.log (new_term m now) ∙ begun;
      past = led_push no_reign m.log (new_term m now) r.past begun;
    })
    (λ h. calm_reigned m (enter_canvass m.election now) r (canvass_calm m.election now))

leads_reigned : (m : Member) (now : ℕ) → IsReigned m → IsReigned (leads m [] now)
leads_reigned m now r =
    choice IsReigned (is_quorum m.election.members (leader_heard m now))
    (record m { election = record m.election { next = if nat_le m.election.next now then now + 100 else m.election.next }; commit = commit_after m; log = m.log ++ [] })
    (record m { election = enter_canvass m.election now })
    (λ h. record {
      id = r.id;
      current = λ ready. ap reign_of (append-nil m.log) ∙ r.current ready;
      past = subst (IsLedBy (pos 0) no_reign) (sym (append-nil m.log)) r.past;
    })
    (λ h. calm_reigned m (enter_canvass m.election now) r (canvass_calm m.election now))

pub duty_reigned : (s : State) (m : Member) (now : ℕ) → IsReigned m → IsReigned (duty_in s m [] now)
duty_reigned LeaderInit m now r = begins_reigned m now r
duty_reigned LeaderReady m now r = leads_reigned m now r
duty_reigned Init m now r = calm_reigned m (duty Init m.election (name_of m.log) now).election r (duty_calm Init m.election (name_of m.log) now)
duty_reigned Canvass m now r = calm_reigned m (duty Canvass m.election (name_of m.log) now).election r (duty_calm Canvass m.election (name_of m.log) now)
duty_reigned Nominate m now r = calm_reigned m (duty Nominate m.election (name_of m.log) now).election r (duty_calm Nominate m.election (name_of m.log) now)
duty_reigned CandidateBallot m now r = calm_reigned m (duty CandidateBallot m.election (name_of m.log) now).election r (duty_calm CandidateBallot m.election (name_of m.log) now)
duty_reigned FollowerBallot m now r = calm_reigned m (duty FollowerBallot m.election (name_of m.log) now).election r (duty_calm FollowerBallot m.election (name_of m.log) now)
duty_reigned FollowerLogReplication m now r = calm_reigned m (duty FollowerLogReplication m.election (name_of m.log) now).election r (duty_calm FollowerLogReplication m.election (name_of m.log) now)
duty_reigned FollowerReady m now r = calm_reigned m (duty FollowerReady m.election (name_of m.log) now).election r (duty_calm FollowerReady m.election (name_of m.log) now)
duty_reigned Closed m now r = calm_reigned m (duty Closed m.election (name_of m.log) now).election r (duty_calm Closed m.election (name_of m.log) now)

abbrev is_accepted : Outcome → Bool
is_accepted (outcome.Accepted i) = true
is_accepted _ = false

-- only a leader accepts
pub accepts_ready : (b : Bool) (x : Outcome) (leader : Option ℕ) (i : ℕ) → (if b then x else outcome.NotLeader leader) ≡ outcome.Accepted i → b ≡ true
accepts_ready true x leader i h = refl
accepts_ready false x leader i h = absurd (false≢true (ap is_accepted h))

-- an entry of the leader's term, that begins no reign, is offered
pub taken_reigned : (m : Member) (e : Event) (o : Outcome) → IsReigned m → ((i : ℕ) → o ≡ outcome.Accepted i → is_ready m.election.state ≡ true) → ((r : Reign) → reign_after r e ≡ r) → term_of e ≡ m.election.term
    → IsReigned (taken m e o)
taken_reigned m e (outcome.Accepted i) r allowed same term =
    let led : reign_after (reign_of m.log) e ≡ reign_in m.election.term 0 = same (reign_of m.log) ∙ r.current (allowed i refl) in
    record {
      id = r.id;
      current = λ ready. push_fold reign_after no_reign m.log e ∙ led;
      past = led_push no_reign m.log e r.past (led ∙ ap (λ t. reign_in t 0) (sym term));
    }
taken_reigned m e (outcome.NotLeader l) r allowed same term = r
taken_reigned m e (outcome.WrongTerm t) r allowed same term = r
taken_reigned m e (outcome.NoSession s) r allowed same term = r
taken_reigned m e (outcome.TooLarge n) r allowed same term = r
taken_reigned m e outcome.SessionLimit r allowed same term = r
taken_reigned m e (outcome.BackPressure n) r allowed same term = r
taken_reigned m e (outcome.LogFull p) r allowed same term = r
