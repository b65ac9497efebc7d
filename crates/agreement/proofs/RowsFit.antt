-- Each row keeps the second invariant.
use Rattle.std.proofs.Common.{◌≡◌, ℕ, ◌<◌, Bool, true, [], length, refl, sym, ap, subst, Some, None}
use Rattle.entry_log.specs.declared.name.LogName.{LogName}
use Rattle.entry_log.specs.Log.{Log, name_of, place}
use Rattle.election.specs.declared.member.State.{State}
use Rattle.election.specs.declared.member.State.TheVariants.{Init, Canvass, Nominate, CandidateBallot, FollowerBallot, LeaderInit, LeaderReady, FollowerLogReplication, FollowerReady, Closed}
use Rattle.election.specs.declared.member.Election.{Election}
use Rattle.election.specs.Rows.{Turn}
use Rattle.world.specs.World.{World, member, holds_at}
use Rattle.consensus_core.specs.Member.{Member}
use Rattle.consensus_core.specs.declared.rest.Rest.{Rest}
use Rattle.world.specs.Said.{Said, CanvassOf, RequestOf, VoteOf, AnnounceOf, AnswerOf, ReportOf, CommitOf, BatchOf}
use Rattle.world.proofs.LogRows.{Outcome, Nothing, outcome_of, receives, receives_row, does_duty, duty_at, client_at, are_own}
use Rattle.election.specs.Rows.{is_running as is_awake}
use Rattle.world.proofs.Kept.{Inv, MemberOk, Known}
use Rattle.world.proofs.Effects.{if-cases}
use Rattle.agreement.proofs.Second.{MemberFits, PacketFits, Fits}
use Rattle.agreement.proofs.FollowersFit.{Two as Keeps, same as same-keeps, named, duty-two, on_request-two, on_vote-two, on_new_term-two, on_canvass-two, on_report-two, on_commit-two, on_batch-two, sends_status-two}
use Rattle.agreement.proofs.LeadersFit.{client-two, in_leader_init-two, in_leader_ready-two}

module _ (n : ℕ) (w : World) (m : ℕ) (i : Inv n w) (l : m < length w.members) (up : (member w m).up ≡ true) (f : Fits n w) where
  abbrev x0 : Member
  x0 = member w m

  abbrev e : Election
  e = x0.values.election

  abbrev r0 : Rest
  r0 = x0.values.rest

  abbrev log : Log
  log = x0.durable.log

  -- the second invariant after the row, given the first
  abbrev pub Two : Outcome → Type 0
  Two = Keeps n w m i l up f

  abbrev TwoTurn : Turn → Type 0
  TwoTurn t = Two (outcome_of t r0 (name_of log))

  ok : MemberOk w n m x0
  ok = i.members m (subst (λ z. m < z) i.count l)

  known : Known w n m x0
  known = ok.known up

  mine : MemberFits w m x0
  mine = f.members m

  same : Two (record { election = e; rest = r0; change = Nothing; packets = [] })
  same = same-keeps n w m i l up f

  duty_at-two : (s : State) (due : Log) (now : ℕ) → e.state ≡ s → Two (duty_at s x0 due now)
  duty_at-two LeaderInit due now at = in_leader_init-two n w m i l up f now at
  duty_at-two LeaderReady due now at = if-cases Two (are_own e.term due) _ _ (λ h. in_leader_ready-two n w m i l up f due now at h) (λ h. same)
  duty_at-two FollowerReady due now at = sends_status-two n w m i l up f (ReportOf e.term (place log)) now (subst (λ z. PacketFits w z (ReportOf e.term (place log))) (sym known.id) (log, (mine.holds (ap holds_at at)).1, refl))
  duty_at-two FollowerLogReplication due now at = sends_status-two n w m i l up f (CanvassOf (name_of log) e.candidate) now (named n w m i l up f)
  duty_at-two Init due now at = duty-two n w m i l up f e.state (name_of log) now refl
  duty_at-two Canvass due now at = duty-two n w m i l up f e.state (name_of log) now refl
  duty_at-two Nominate due now at = duty-two n w m i l up f e.state (name_of log) now refl
  duty_at-two CandidateBallot due now at = duty-two n w m i l up f e.state (name_of log) now refl
  duty_at-two FollowerBallot due now at = duty-two n w m i l up f e.state (name_of log) now refl
  duty_at-two Closed due now at = duty-two n w m i l up f e.state (name_of log) now refl

  pub does_duty-two : (due : Log) (now : ℕ) → Two (does_duty x0 due now)
  does_duty-two due now = duty_at-two e.state due now refl

  receives_row-two : (from : ℕ) (p : Said) (now : ℕ) → PacketFits w from p → Two (receives_row x0 from p now)
  receives_row-two from (CanvassOf name c) now sent = on_canvass-two n w m i l up f e.state from name c now refl sent
  receives_row-two from (RequestOf c name) now sent = if-cases TwoTurn (is_awake e.state) _ _ (λ h. on_request-two n w m i l up f from c name now) (λ h. same)
  receives_row-two from (VoteOf c given own') now sent = on_vote-two n w m i l up f from c given
  receives_row-two from (AnnounceOf t) now sent = on_new_term-two n w m i l up f from t None now (λ a h. absurd (cc))
  receives_row-two from (AnswerOf t asked keep) now sent = on_new_term-two n w m i l up f from t (Some (asked, keep)) now (λ a h. subst (λ (z : LogName × LogName). PacketFits w from (AnswerOf t z.0 z.1)) (some-pair _ _ h) sent)
    where
      some-pair : (a b : LogName × LogName) → Some a ≡ Some b → a ≡ b
      some-pair a b e = cc
  receives_row-two from (ReportOf t p) now sent = on_report-two n w m i l up f e.state from t p now refl sent
  receives_row-two from (CommitOf t c) now sent = on_commit-two n w m i l up f e.state from t c now refl sent
  receives_row-two from (BatchOf t start entries) now sent = on_batch-two n w m i l up f e.state from t start entries now refl sent

  pub receives-two : (passes : Bool) (from : ℕ) (p : Said) (now : ℕ) → PacketFits w from p → Two (receives passes x0 from p now)
  receives-two passes from p now sent = if-cases Two passes _ _ (λ h. receives_row-two from p now sent) (λ h. same)

  pub client-row-two : (entries : Log) → Two (client_at e.state x0 entries)
  client-row-two entries = client-two n w m i l up f e.state entries refl
