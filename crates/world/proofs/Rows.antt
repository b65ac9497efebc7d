-- Each row keeps the invariant.
use Rattle.std.proofs.Common.{◌≡◌, inl, inr, ℕ, ◌+◌, ◌*◌, ◌<◌, ◌^◌, Bool, true, false, not, ◌&&◌, List, [], ◌∷◌, ◌++◌, length, set, replicate, refl, sym, ap, ◌∙◌, subst, arith, Some, None, Option, ℤ, pos, negsuc, ◌+ℤ◌, ◌≤ℤ◌, ◌<ℤ◌, if◌then◌else◌, fold, get_or-set_other}
use Rattle.std.specs.Prelude.{Contains, slice_index_or, nat_le, nat_lt, int_lt, int_le}
use Rattle.std.specs.List.{list_any}
use Rattle.std.specs.Prelude.{unwrap_or}
use Rattle.log_replication.specs.Replication.{kept, past, answer_term, answer_end}
use Rattle.std.specs.Int.{int_max}
use Rattle.std.proofs.lemmas.Int.{ints}
use Rattle.std.proofs.lemmas.Bool.{cases_eq}
use Rattle.std.proofs.lemmas.Bool.Decides.{nat_tests}
use Rattle.entry_log.specs.Log.{Log, name_of, better, last, place}
use Rattle.entry_log.specs.declared.name.LogName.{LogName}
use Rattle.election.specs.declared.member.State.{State}
use Rattle.election.specs.declared.member.State.TheVariants.{Init, Canvass, Nominate, CandidateBallot, FollowerBallot, LeaderInit, LeaderReady, FollowerLogReplication, FollowerReady, Closed}
use Rattle.election.specs.declared.member.Election.{Election}
use Rattle.election.specs.declared.member.Heard.{Heard}
use Rattle.election.specs.Rows.{Turn, duty, in_canvass, in_nominate, nominates, in_candidate_ballot, on_request, on_vote, enter_canvass, is_balloting, heard_count, heard_better, vote_count, later, is_for}
use Rattle.entry_log.specs.Quorum.{is_quorum}
use Rattle.world.specs.World.{World, member, is_elected}
use Rattle.consensus_core.specs.Member.{Sent}
use Rattle.world.specs.Said.{Said, CanvassOf, RequestOf, VoteOf, AnnounceOf, AnswerOf, ReportOf, CommitOf, BatchOf}
use Rattle.world.proofs.LogRows.{sent_of, Nothing, RaiseTo, Change, Append, CutTo, to_others, outcome_of, receives, receives_row, does_duty, duty_at, client_at, follows, canvass_to, cuts, on_answer, on_new_term, on_new_term_at, on_canvass_at, on_report_at, on_commit_at, on_batch_at, in_leader_init, in_leader_ready, sends_status, one_to, batches, commits, commit_after, are_own}
use Rattle.world.specs.World.{term_entry}
use Rattle.consensus_core.specs.declared.rest.Rest.{Rest}
use Rattle.consensus_core.specs.Rows.{same_name, is_in}
use Rattle.consensus_core.specs.Reign.{count_recent}
use Rattle.consensus_core.specs.Fit.{has_term}
use Rattle.world.specs.Safe.{Raised, candidate_of}
use Rattle.election.specs.Rows.{is_running as is_awake}
use Rattle.world.proofs.Kept.{Inv, MemberOk, Known, PacketOk, SentOk, sent-ok}
use Rattle.world.proofs.Quorum.{is_quorum-votes, one_set}
use Rattle.world.proofs.Effects.{Fine, IsNoRaise, quiet, wins, raise_none, raise_for, none_in, only_in, if-cases, to_others-all, one_to-all, append-all, batches-all, announcements-all, commits-all}

pub and_true : (a b : Bool) → (a && b) ≡ true → (a ≡ true) × (b ≡ true)
and_true true b e = (refl, e)
and_true false b e = cc

-- no candidate term heard lowers the greatest
pub fold-later : (most : ℤ) (heard : List (Option Heard)) → most ≤ℤ fold later most heard
fold-later most [] = omega (arith, ints)
fold-later most (None ∷ heard) = fold-later most heard
fold-later most (Some h ∷ heard) = let f = fold-later (int_max most h.candidate) heard in let g : most ≤ℤ int_max most h.candidate = int_max-left most h.candidate in omega (arith, ints, f, g)
  where
    int_max-left : (a b : ℤ) → a ≤ℤ int_max a b
    int_max-left a b = grind (arith, ints)

module _ (n : ℕ) (w : World) (m : ℕ) (i : Inv n w) (l : m < length w.members) (up : (member w m).up ≡ true) where
  ok : MemberOk w n m (member w m)
  ok = i.members m (subst (λ z. m < z) i.count l)

  known : Known w n m (member w m)
  known = ok.known up

  abbrev e : Election
  e = (member w m).values.election

  -- a turn that decides for nothing on the disk, with these packets
  abbrev FineTurn : Turn → Type 0
  FineTurn t = Fine n w m (outcome_of t (member w m).values.rest (name_of (member w m).durable.log))

  -- values in which the member votes no longer, nor leads or follows
  leaves : (e' : Election) (r : Rest) (ps : List Sent) → e'.id ≡ e.id → e'.members ≡ e.members → e'.candidate ≡ e.candidate → e'.voted ≡ e.voted
      → has_term e'.state ≡ false → is_balloting e'.state ≡ false → is_elected e'.state ≡ false → ((s : Sent) → Contains ps s → SentOk w s)
      → Fine n w m (record { election = e'; rest = r; change = Nothing; packets = ps })
  leaves e' r ps a b c d t bal el sent cut =
      quiet n w m e' r Nothing ps cut i l up tt
      (record { id = a; members = b; candidate = c; voted = d; term = λ h. absurd (cc); ballot = λ h. absurd (cc) })
      (λ h. absurd (cc)) sent

  -- values of a member that leads or follows in its candidate term, with any change of its log
  leads : (e' : Election) (r : Rest) (c : Change) (ps : List Sent) → e'.id ≡ e.id → e'.members ≡ e.members → e'.candidate ≡ e.candidate → e'.voted ≡ e.voted
      → e'.term ≡ e.candidate → is_balloting e'.state ≡ false → (is_elected e'.state ≡ true → is_elected e.state ≡ true) → IsNoRaise c → ((s : Sent) → Contains ps s → SentOk w s)
      → Fine n w m (record { election = e'; rest = r; change = c; packets = ps })
  leads e' r ch ps a b c d t bal el none sent cut =
      quiet n w m e' r ch ps cut i l up none
      (record { id = a; members = b; candidate = c; voted = d; term = λ h. t ∙ known.candidate; ballot = λ h. absurd (cc) })
      el sent

  -- values with another deadline and the like
  goes_on : (e' : Election) (r : Rest) (ps : List Sent) → e'.id ≡ e.id → e'.members ≡ e.members → e'.candidate ≡ e.candidate → e'.voted ≡ e.voted
      → e'.state ≡ e.state → e'.term ≡ e.term → e'.votes ≡ e.votes → ((s : Sent) → Contains ps s → SentOk w s)
      → Fine n w m (record { election = e'; rest = r; change = Nothing; packets = ps })
  goes_on e' r ps a b c d st t v sent cut =
      quiet n w m e' r Nothing ps cut i l up tt
      (record {
        id = a;
        members = b;
        candidate = c;
        voted = d;
        term = λ h. t ∙ ok.term (ap has_term (sym st) ∙ h);
        ballot = λ h. let h' : is_balloting e.state ≡ true = ap is_balloting (sym st) ∙ h in (h', (let o = ok.ballot h' in record { own = o.own; votes = λ k yes. o.votes k (ap (λ (vs : List Bool). slice_index_or vs k false) (sym v) ∙ yes) }));
      })
      (λ h. ap is_elected (sym st) ∙ h) sent

  no_packet : (s : Sent) → Contains [] s → SentOk w s
  no_packet s h = absurd (none_in s h)

  canvass : (r : Rest) (now : ℕ) → Fine n w m (record { election = enter_canvass e now; rest = r; change = Nothing; packets = [] })
  canvass r now = leaves (enter_canvass e now) r [] refl refl refl refl refl refl refl no_packet

  pub same : Fine n w m (record { election = e; rest = (member w m).values.rest; change = Nothing; packets = [] })
  same = goes_on e (member w m).values.rest [] refl refl refl refl refl refl refl no_packet

  in_canvass-fine : (own : LogName) (now : ℕ) → e.state ≡ Canvass → FineTurn (in_canvass e own now)
  in_canvass-fine own now at =
      if-cases FineTurn (nat_le e.deadline now) _ _
      (λ due. if-cases FineTurn (is_quorum e.members (1 + heard_count e.heard) && not (list_any (heard_better own) e.heard)) _ _
      (λ h. leaves (record e { state = Nominate }) (member w m).values.rest [] refl refl refl refl refl refl refl no_packet)
      (λ h. goes_on (record e { deadline = now + 300 + 100 * e.id }) (member w m).values.rest [] refl refl refl refl refl refl refl no_packet))
      (λ not_due. if-cases FineTurn (nat_le e.next now) _ _
      (λ h. goes_on (record e { next = now + 100 }) (member w m).values.rest (to_others e.members e.id (CanvassOf (name_of (member w m).durable.log) e.candidate)) refl refl refl refl refl refl refl
      (to_others-all (SentOk w) e.members e.id (CanvassOf (name_of (member w m).durable.log) e.candidate) (λ k. tt)))
      (λ h. same))

  log : Log
  log = (member w m).durable.log

  nominates-fine : (most : ℤ) (now : ℕ) → e.candidate ≤ℤ most → FineTurn (nominates e most now)
  nominates-fine most now high =
      if-cases FineTurn (int_le (pos (2 ^ 62)) most) _ _
      (λ h. canvass (member w m).values.rest now)
      (λ h. raise_for n w m (record e { candidate = most +ℤ pos 1; voted = Some e.id; votes = set (replicate 5 false) e.id true; deadline = now + 500; state = CandidateBallot }) (member w m).values.rest (most +ℤ pos 1) e.id
      (to_others e.members e.id (RequestOf (most +ℤ pos 1) (name_of (member w m).durable.log))) i l
      (let c = known.candidate in omega (arith, ints, high, c))
      (record {
        id = known.id;
        members = known.members;
        candidate = refl;
        voted = refl;
        term = λ h. absurd (cc);
        not_elected = refl;
        ballot = λ b. (ap Some known.id, λ k yes. one_set 5 e.id k yes ∙ known.id);
      })
      (inl known.id)
      (λ w' raised. to_others-all (SentOk w') e.members e.id (RequestOf (most +ℤ pos 1) (name_of (member w m).durable.log))
      (λ k. ((member w m).durable.log, subst (λ z. Raised w' z (most +ℤ pos 1) e.id (member w m).durable.log) (sym known.id) raised, refl))))

  in_nominate-fine : (own : LogName) (now : ℕ) → FineTurn (in_nominate e own now)
  in_nominate-fine own now = nominates-fine (fold later (int_max e.candidate own.term) e.heard) now
      (let f = fold-later (int_max e.candidate own.term) e.heard in let g : e.candidate ≤ℤ int_max e.candidate own.term = grind (arith, ints) in omega (arith, ints, f, g))

  in_candidate_ballot-fine : (now : ℕ) → is_balloting e.state ≡ true → is_elected e.state ≡ false → FineTurn (in_candidate_ballot e now)
  in_candidate_ballot-fine now bal el =
      let b = ok.ballot bal in
      if-cases FineTurn (is_quorum e.members (vote_count e.votes)) _ _
      (λ q cut. wins n w m (record e { term = e.candidate; leader = Some e.id; state = LeaderInit }) (member w m).values.rest cut i l up
      (record { id = refl; members = refl; candidate = refl; voted = refl; term = λ h. known.candidate; ballot = λ h. absurd (cc) })
      bal el refl refl
      ((λ k. slice_index_or e.votes k false), is_quorum-votes n e.votes (λ k yes. i.voters _ (b.votes k yes).1) (subst (λ z. is_quorum z (vote_count e.votes) ≡ true) known.members q), b.votes)
      known.candidate)
      (λ h. if-cases FineTurn (nat_le e.deadline now) _ _ (λ due. canvass (member w m).values.rest now) (λ not_due. same))

  duty-fine : (s : State) (own : LogName) (now : ℕ) → e.state ≡ s → FineTurn (duty s e own now)
  duty-fine Init own now at = canvass (member w m).values.rest now
  duty-fine Canvass own now at = in_canvass-fine own now at
  duty-fine Nominate own now at = in_nominate-fine own now
  duty-fine CandidateBallot own now at = in_candidate_ballot-fine now (ap is_balloting at) (ap is_elected at)
  duty-fine FollowerBallot own now at = if-cases FineTurn (nat_le e.deadline now) _ _ (λ due. canvass (member w m).values.rest now) (λ not_due. same)
  duty-fine LeaderInit own now at = same
  duty-fine LeaderReady own now at = same
  duty-fine FollowerLogReplication own now at = same
  duty-fine FollowerReady own now at = same
  duty-fine Closed own now at = same

  -- a vote that was not given needs no raise
  refusal : (w' : World) (to : ℕ) (c : ℤ) (own : LogName) (s : Sent) → Contains ((sent_of e.id to (VoteOf c false own)) ∷ []) s → SentOk w' s
  refusal w' to c own s h = subst (SentOk w') (only_in ((sent_of e.id to (VoteOf c false own))) s h) tt

  granted : (w' : World) (to : ℕ) (c : ℤ) (own : LogName) (log : Log) → Raised w' m c to log → (s : Sent) → Contains ((sent_of e.id to (VoteOf c true own)) ∷ []) s → SentOk w' s
  granted w' to c own log r s h = subst (SentOk w') (only_in ((sent_of e.id to (VoteOf c true own))) s h) (log, subst (λ z. Raised w' z c to log) (sym known.id) r)

  voted_for : (v : Option ℕ) (k : ℕ) → is_for v k ≡ true → v ≡ Some k
  voted_for None k h = absurd (cc)
  voted_for (Some j) k h = ap Some (grind (arith, nat_tests))

  on_request-fine : (from : ℕ) (c : ℤ) (named : LogName) (now : ℕ) → PacketOk w from m (RequestOf c named) → FineTurn (on_request e from c named (name_of (member w m).durable.log) now)
  on_request-fine from c named now asked =
      let own = name_of (member w m).durable.log in
      let log = (member w m).durable.log in
      if-cases FineTurn (int_lt e.candidate c) _ _
      (λ above.
      let higher : candidate_of w m <ℤ c = (let c = known.candidate in grind (arith, ints)) in
      if-cases FineTurn (better own.term own.place named.term named.place) _ _
      (λ b. raise_none n w m (enter_canvass (record e { candidate = c; voted = None }) now) (member w m).values.rest c ((sent_of e.id from (VoteOf c false own)) ∷ []) i l higher
      (record { id = known.id; members = known.members; candidate = refl; voted = refl; term = λ h. absurd (cc); not_elected = refl; ballot = λ h. absurd (cc) }) refl
      (refusal w from c own))
      (λ b. raise_for n w m (record e { candidate = c; voted = Some from; term = negsuc 0; leader = None; deadline = now + 500; state = FollowerBallot }) (member w m).values.rest c from ((sent_of e.id from (VoteOf c true own)) ∷ []) i l higher
      (record { id = known.id; members = known.members; candidate = refl; voted = refl; term = λ h. absurd (cc); not_elected = refl; ballot = λ h. absurd (cc) })
      (inr (asked.0, asked.1, subst (λ (z : LogName). better own.term own.place z.term z.place ≡ false) asked.2 b))
      (λ w' raised. granted w' from c own log raised)))
      (λ low. if-cases FineTurn (int_le e.candidate c && is_for e.voted from) _ _
      (λ same_vote.
      let both = and_true (int_le e.candidate c) (is_for e.voted from) same_vote in
      let r = ok.voted from (sym known.voted ∙ voted_for e.voted from both.1) in
      let same_term : candidate_of w m ≡ c = (let d = known.candidate in let f = both.0 in grind (arith, ints)) in
      goes_on e (member w m).values.rest ((sent_of e.id from (VoteOf c true own)) ∷ []) refl refl refl refl refl refl refl
      (granted w from c own r.0 (subst (λ z. Raised w m z from r.0) same_term r.1)))
      (λ other. goes_on e (member w m).values.rest ((sent_of e.id from (VoteOf c false own)) ∷ []) refl refl refl refl refl refl refl (refusal w from c own)))

  on_vote-fine : (from : ℕ) (c : ℤ) (yes : Bool) (own : LogName) → PacketOk w from m (VoteOf c yes own) → FineTurn (on_vote e from c yes)
  on_vote-fine from c false own sent = same
  on_vote-fine from c true own sent =
      if-cases FineTurn (is_balloting e.state && (int_le c e.candidate && int_le e.candidate c)) _ _
      (λ h cut.
      let p = and_true (is_balloting e.state) (int_le c e.candidate && int_le e.candidate c) h in
      let q = and_true (int_le c e.candidate) (int_le e.candidate c) p.1 in
      let same_term : c ≡ candidate_of w m = (let d = known.candidate in let f = q.0 in let g = q.1 in grind (arith, ints)) in
      let b = ok.ballot p.0 in
      quiet n w m (record e { votes = set e.votes from true }) (member w m).values.rest Nothing [] cut i l up tt
      (record {
        id = refl;
        members = refl;
        candidate = refl;
        voted = refl;
        term = ok.term;
        ballot = λ _. (
          p.0,
          record {
            own = b.own;
            votes = λ k voted. elim (cases_eq k from) [
              | inl is ↦ (sent.0, subst (λ z. Raised w z (candidate_of w m) m sent.0) (sym is) (subst (λ z. Raised w from z m sent.0) same_term sent.1))
              | inr ne ↦ b.votes k (sym (get_or-set_other e.votes from k true false ne) ∙ voted)
            ];
          },
        );
      })
      (λ h. h) no_packet)
      (λ h. same)

  -- a packet of which nothing is asked in the election
  plain : (to : ℕ) (p : Said) → ((from to : ℕ) → PacketOk w from to p) → (s : Sent) → Contains (one_to e to p) s → SentOk w s
  plain to p h = one_to-all (SentOk w) e to p (sent-ok w e.id to p (h e.id to))

  not_above : (a b : ℤ) → int_lt a b ≡ false → b ≤ℤ a
  not_above a b h = grind (arith, ints)

  equal : (t : ℤ) → int_lt t e.candidate ≡ false → int_lt e.candidate t ≡ false → t ≡ e.candidate
  equal t a b = let c = not_above t e.candidate a in let d = not_above e.candidate t b in omega (arith, ints, c, d)

  follows-fine : (from : ℕ) (t : ℤ) (now : ℕ) → int_lt t e.candidate ≡ false → Fine n w m (follows e (member w m).values.rest (member w m).durable.log from t now)
  follows-fine from t now low = at (int_lt e.candidate t) refl
    where
      at : (b : Bool) → int_lt e.candidate t ≡ b → Fine n w m (record {
        election = record e { candidate = t; voted = (if b then None else e.voted); term = t; leader = Some from; deadline = now + 1000; next = now + 100; state = FollowerLogReplication };
        rest = (member w m).values.rest;
        change = (if b then RaiseTo t None else Nothing);
        packets = canvass_to (record e { candidate = t; voted = (if b then None else e.voted); term = t; leader = Some from; deadline = now + 1000; next = now + 100; state = FollowerLogReplication }) from (member w m).durable.log;
      })
      at true above =
          raise_none n w m (record e { candidate = t; voted = None; term = t; leader = Some from; deadline = now + 1000; next = now + 100; state = FollowerLogReplication }) (member w m).values.rest t _ i l
          (let c = known.candidate in grind (arith, ints))
          (record { id = known.id; members = known.members; candidate = refl; voted = refl; term = λ h. refl; not_elected = refl; ballot = λ h. absurd (cc) }) refl
          (plain from (CanvassOf (name_of (member w m).durable.log) t) (λ a b. tt))
      at false above =
          leads (record e { candidate = t; voted = e.voted; term = t; leader = Some from; deadline = now + 1000; next = now + 100; state = FollowerLogReplication }) (member w m).values.rest Nothing _
          refl refl (equal t low above) refl (equal t low above) refl (λ h. absurd (cc)) tt (plain from (CanvassOf (name_of (member w m).durable.log) t) (λ a b. tt))

  in_here : (t : ℤ) → is_in e t ≡ true → e.term ≡ t
  in_here t h = let p = and_true (int_le e.term t) (int_le t e.term) h in let a = p.0 in let b = p.1 in grind (arith, ints)

  cuts-fine : (from : ℕ) (keep : LogName) (now : ℕ) → e.state ≡ FollowerLogReplication → Fine n w m (cuts e (member w m).values.rest (member w m).durable.log from keep now)
  cuts-fine from keep now at =
      let log = (member w m).durable.log in
      let left = kept keep.term keep.place log in
      let term : e.term ≡ e.candidate = ok.term (ap has_term at) ∙ sym known.candidate in
      if-cases (Fine n w m) (nat_lt (length left) (member w m).values.rest.commit) _ _
      (λ h. same)
      (λ h. if-cases (Fine n w m) (int_le (last left) keep.term && int_le keep.term (last left)) _ _
      (λ b. leads (record e { deadline = now + 1000; state = FollowerReady }) (member w m).values.rest (CutTo left) _ refl refl refl refl term refl (λ h. absurd (cc)) tt (plain from (ReportOf e.term (place left)) (λ a b. tt)))
      (λ b. leads (record e { deadline = now + 1000 }) (member w m).values.rest (CutTo left) _ refl refl refl refl term (ap is_balloting at) (λ h. h) tt (plain from (CanvassOf (name_of left) e.candidate) (λ a b. tt))))

  on_answer-fine : (from : ℕ) (asked keep : LogName) (now : ℕ) → e.state ≡ FollowerLogReplication → Fine n w m (on_answer e (member w m).values.rest (member w m).durable.log from asked keep now)
  on_answer-fine from asked keep now at =
      if-cases (Fine n w m) (same_name asked (name_of (member w m).durable.log)) _ _
      (λ h. cuts-fine from keep now at)
      (λ h. goes_on (record e { deadline = now + 1000 }) (member w m).values.rest _ refl refl refl refl refl refl refl (plain from (CanvassOf (name_of (member w m).durable.log) e.candidate) (λ a b. tt)))

  on_new_term_at-fine : (s : State) (from : ℕ) (t : ℤ) (answer : Option (LogName × LogName)) (now : ℕ) → e.state ≡ s → int_lt t e.candidate ≡ false → Fine n w m (on_new_term_at s e (member w m).values.rest (member w m).durable.log from t answer now)
  on_new_term_at-fine FollowerReady from t answer now at low =
      if-cases (Fine n w m) (is_in e t) _ _ (λ h. goes_on (record e { deadline = now + 1000 }) (member w m).values.rest [] refl refl refl refl refl refl refl no_packet) (λ h. follows-fine from t now low)
  on_new_term_at-fine FollowerLogReplication from t (Some a) now at low = if-cases (Fine n w m) (is_in e t) _ _ (λ h. on_answer-fine from a.0 a.1 now at) (λ h. follows-fine from t now low)
  on_new_term_at-fine FollowerLogReplication from t None now at low = follows-fine from t now low
  on_new_term_at-fine LeaderInit from t answer now at low = if-cases (Fine n w m) (is_in e t) _ _ (λ h. same) (λ h. follows-fine from t now low)
  on_new_term_at-fine LeaderReady from t answer now at low = if-cases (Fine n w m) (is_in e t) _ _ (λ h. same) (λ h. follows-fine from t now low)
  on_new_term_at-fine _ from t answer now at low = follows-fine from t now low

  on_new_term-fine : (from : ℕ) (t : ℤ) (answer : Option (LogName × LogName)) (now : ℕ) → Fine n w m (on_new_term e (member w m).values.rest (member w m).durable.log from t answer now)
  on_new_term-fine from t answer now =
      if-cases (Fine n w m) (int_lt t e.candidate) _ _ (λ h. same) (λ h. on_new_term_at-fine e.state from t answer now refl h)

  on_canvass-fine : (s : State) (from : ℕ) (named : LogName) (c : ℤ) (now : ℕ) → e.state ≡ s → Fine n w m (on_canvass_at s e (member w m).values.rest (member w m).durable.log from named c now)
  on_canvass-fine Canvass from named c now at = goes_on (record e { heard = set e.heard from (Some (record { term = named.term; place = named.place; candidate = c })) }) (member w m).values.rest [] refl refl refl refl refl refl refl no_packet
  on_canvass-fine LeaderReady from named c now at =
      if-cases (Fine n w m) (int_lt e.term c) _ _
      (λ h. canvass (member w m).values.rest now)
      (λ h. goes_on e (member w m).values.rest _ refl refl refl refl refl refl refl (plain from (AnswerOf e.term named (record { term = answer_term (member w m).durable.log named.term; place = answer_end (member w m).durable.log named.term })) (λ a b. tt)))
  on_canvass-fine _ from named c now at = same

  on_report-fine : (s : State) (from : ℕ) (t : ℤ) (p now : ℕ) → Fine n w m (on_report_at s e (member w m).values.rest from t p now)
  on_report-fine LeaderReady from t p now = if-cases (Fine n w m) (is_in e t) _ _ (λ h. goes_on e _ [] refl refl refl refl refl refl refl no_packet) (λ h. same)
  on_report-fine _ from t p now = same

  on_commit-fine : (s : State) (t : ℤ) (c now : ℕ) → Fine n w m (on_commit_at s e (member w m).values.rest (member w m).durable.log t c now)
  on_commit-fine FollowerReady t c now = if-cases (Fine n w m) (is_in e t) _ _ (λ h. goes_on (record e { deadline = now + 1000 }) _ [] refl refl refl refl refl refl refl no_packet) (λ h. same)
  on_commit-fine _ t c now = same

  on_batch-fine : (s : State) (from : ℕ) (t : ℤ) (start : ℕ) (entries : Log) (now : ℕ) → e.state ≡ s → Fine n w m (on_batch_at s e (member w m).values.rest (member w m).durable.log from t start entries now)
  on_batch-fine FollowerReady from t start entries now at =
      let log = (member w m).durable.log in
      let term : e.term ≡ e.candidate = ok.term (ap has_term at) ∙ sym known.candidate in
      if-cases (Fine n w m) (is_in e t) _ _
      (λ h. if-cases (Fine n w m) (nat_le start (place log)) _ _
      (λ b. leads (record e { deadline = now + 1000 }) (member w m).values.rest (Append (past start (place log) entries)) _ refl refl refl refl term (ap is_balloting at) (λ h. h) tt (plain from (ReportOf e.term (place (log ++ past start (place log) entries))) (λ a b. tt)))
      (λ b. goes_on (record e { deadline = now + 1000 }) (member w m).values.rest _ refl refl refl refl refl refl refl (plain from (ReportOf e.term (place log)) (λ a b. tt))))
      (λ h. same)
  on_batch-fine _ from t start entries now at = same

  receives_row-fine : (from : ℕ) (p : Said) (now : ℕ) → PacketOk w from m p → Fine n w m (receives_row (member w m) from p now)
  receives_row-fine from (CanvassOf named c) now sent = on_canvass-fine e.state from named c now refl
  receives_row-fine from (RequestOf c named) now sent = if-cases FineTurn (is_awake e.state) _ _ (λ h. on_request-fine from c named now sent) (λ h. same)
  receives_row-fine from (VoteOf c given own) now sent = on_vote-fine from c given own sent
  receives_row-fine from (AnnounceOf t) now sent = on_new_term-fine from t None now
  receives_row-fine from (AnswerOf t asked keep) now sent = on_new_term-fine from t (Some (asked, keep)) now
  receives_row-fine from (ReportOf t p) now sent = on_report-fine e.state from t p now
  receives_row-fine from (CommitOf t c) now sent = on_commit-fine e.state t c now
  receives_row-fine from (BatchOf t start entries) now sent = on_batch-fine e.state from t start entries now refl

  pub receives-fine : (passes : Bool) (from : ℕ) (p : Said) (now : ℕ) → PacketOk w from m p → Fine n w m (receives passes (member w m) from p now)
  receives-fine passes from p now sent = if-cases (Fine n w m) passes _ _ (λ h. receives_row-fine from p now sent) (λ h. same)

  in_leader_init-fine : (now : ℕ) → e.state ≡ LeaderInit → Fine n w m (in_leader_init e (member w m).values.rest (member w m).durable.log now)
  in_leader_init-fine now at =
      let log = (member w m).durable.log in
      let term : e.term ≡ e.candidate = ok.term (ap has_term at) ∙ sym known.candidate in
      if-cases (Fine n w m) (nat_lt 16777216 (place (log ++ term_entry e.term (place log) now e.id ∷ []))) _ _
      (λ h. canvass (member w m).values.rest now)
      (λ h. leads (record e { state = LeaderReady; next = now + 100 }) _ (Append (term_entry e.term (place log) now e.id ∷ [])) _ refl refl refl refl term refl (λ h. absurd (cc)) tt
      (to_others-all (SentOk w) e.members e.id (AnnounceOf e.term) (λ k. tt)))

  in_leader_ready-fine : (due : Log) (now : ℕ) → e.state ≡ LeaderReady → Fine n w m (in_leader_ready e (member w m).values.rest (member w m).durable.log due now)
  in_leader_ready-fine due now at =
      let r = (member w m).values.rest in
      let log = (member w m).durable.log in
      let term : e.term ≡ e.candidate = ok.term (ap has_term at) ∙ sym known.candidate in
      if-cases (Fine n w m) (is_quorum e.members (count_recent now e.members e r)) _ _
      (λ h. leads (record e { next = (if nat_le e.next now then now + 100 else e.next) }) (record r { commit = commit_after e r log }) (Append due) _ refl refl refl refl term (ap is_balloting at) (λ h. h) tt
      (append-all (SentOk w) (batches e.members e r.acked (log ++ due)) _ (batches-all (SentOk w) e.members e r.acked (log ++ due) (λ k p is. tt))
      (append-all (SentOk w) (commits e r (log ++ due) (commit_after e r log) now) _ (commits-all (SentOk w) e r (log ++ due) (commit_after e r log) now (λ k. tt))
      (if-cases (λ ps. (s : Sent) → Contains ps s → SentOk w s) (nat_le e.next now) _ _ (λ b. announcements-all (SentOk w) e.members e r.acked (λ k. tt)) (λ b. no_packet)))))
      (λ h. canvass r now)

  sends_status-fine : (p : Said) (now : ℕ) → ((from to : ℕ) → PacketOk w from to p) → Fine n w m (sends_status e (member w m).values.rest p now)
  sends_status-fine p now okp =
      if-cases (Fine n w m) (nat_le e.deadline now) _ _
      (λ h. canvass (member w m).values.rest now)
      (λ h. if-cases (Fine n w m) (nat_le e.next now) _ _ (λ b. goes_on (record e { next = now + 100 }) (member w m).values.rest _ refl refl refl refl refl refl refl (plain (unwrap_or e.leader 0) p okp)) (λ b. same))

  duty_at-fine : (s : State) (due : Log) (now : ℕ) → e.state ≡ s → Fine n w m (duty_at s (member w m) due now)
  duty_at-fine LeaderInit due now at = in_leader_init-fine now at
  duty_at-fine LeaderReady due now at = if-cases (Fine n w m) (are_own e.term due) _ _ (λ h. in_leader_ready-fine due now at) (λ h. same)
  duty_at-fine FollowerReady due now at = sends_status-fine (ReportOf e.term (place (member w m).durable.log)) now (λ a b. tt)
  duty_at-fine FollowerLogReplication due now at = sends_status-fine (CanvassOf (name_of (member w m).durable.log) e.candidate) now (λ a b. tt)
  duty_at-fine Init due now at = duty-fine e.state (name_of (member w m).durable.log) now refl
  duty_at-fine Canvass due now at = duty-fine e.state (name_of (member w m).durable.log) now refl
  duty_at-fine Nominate due now at = duty-fine e.state (name_of (member w m).durable.log) now refl
  duty_at-fine CandidateBallot due now at = duty-fine e.state (name_of (member w m).durable.log) now refl
  duty_at-fine FollowerBallot due now at = duty-fine e.state (name_of (member w m).durable.log) now refl
  duty_at-fine Closed due now at = duty-fine e.state (name_of (member w m).durable.log) now refl

  pub does_duty-fine : (due : Log) (now : ℕ) → Fine n w m (does_duty (member w m) due now)
  does_duty-fine due now = duty_at-fine e.state due now refl

  pub client-fine : (s : State) (entries : Log) → e.state ≡ s → Fine n w m (client_at s (member w m) entries)
  client-fine LeaderReady entries at =
      if-cases (Fine n w m) (are_own e.term entries) _ _
      (λ h. leads e (member w m).values.rest (Append entries) [] refl refl refl refl (ok.term (ap has_term at) ∙ sym known.candidate) (ap is_balloting at) (λ h. h) tt no_packet)
      (λ h. same)
  client-fine _ entries at = same
