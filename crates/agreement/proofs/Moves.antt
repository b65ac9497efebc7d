-- What each step leaves of each member: its settled entries, its commit while it runs, and its reign.
use Rattle.std.proofs.Common.{◌≡◌, ◌⊎◌, inl, inr, ℕ, ◌+◌, ◌*◌, ◌<◌, ◌≤◌, ◌^◌, Bool, true, false, not, ◌&&◌, List, [], ◌∷◌, ◌++◌, length, set, replicate, refl, sym, ap, ◌∙◌, subst, arith, ℤ, pos, negsuc, ◌+ℤ◌, ◌≤ℤ◌, Some, None, Option, max, length-set, if◌then◌else◌}
use Rattle.std.specs.Prelude.{Contains, slice_index_or, slice_get, nat_le, nat_lt, int_lt, int_le, fold}
use Rattle.std.specs.List.{list_any}
use Rattle.std.specs.Int.{int_max}
use Rattle.std.proofs.lemmas.Int.{ints}
use Rattle.std.proofs.lemmas.Bool.{cases_eq}
use Rattle.std.proofs.lemmas.List.Elements.{Contains-append_left}
use Rattle.entry_log.specs.declared.name.LogName.{LogName}
use Rattle.entry_log.specs.Durable.{put_in, invalidated}
use Rattle.entry_log.specs.Durable.{SnapshotEntry}
use Rattle.entry_log.specs.Log.{Log, name_of, better, last, place}
use Rattle.entry_log.specs.Durable.{Durable}
use Rattle.election.specs.declared.member.State.{State}
use Rattle.election.specs.declared.member.State.TheVariants.{Init, Canvass, Nominate, CandidateBallot, FollowerBallot, LeaderInit, LeaderReady, FollowerLogReplication, FollowerReady, Closed}
use Rattle.election.specs.declared.member.Election.{Election}
use Rattle.election.specs.Rows.{Turn, duty, in_canvass, nominates, in_candidate_ballot, on_request, on_vote, enter_canvass, is_balloting, heard_count, heard_better, vote_count, later, is_for}
use Rattle.entry_log.specs.Quorum.{is_quorum}
use Rattle.log_replication.specs.Replication.{kept, past}
use Rattle.log_replication.specs.Prefixes.{Leads, Leads-self, Leads-trans, Leads-append}
use Rattle.log_replication.specs.Cuts.{kept_from-front}
use Rattle.consensus_core.specs.Reign.{entry_of}
use Rattle.world.proofs.Same.{duty_is, packet_is, client_is, due_of, passes}
use Rattle.world.proofs.Snaps.{putting, putting-same}
use Rattle.world.specs.World.{comes, are_of, World, Raise, Reign, Holding, member, put, reigns_at, names, is_running, step, Step, Passes, Starts, Stops, Duty, Delivers, Client, Puts, Invalidates}
use Rattle.consensus_core.specs.Member.{Member, Sent, Cut, Whole, Before, After, stopped, starts, snapped}
use Rattle.consensus_core.specs.declared.rest.Rest.{Rest}
use Rattle.consensus_core.specs.Sendable.{sender_of}
use Rattle.world.specs.Said.{says, Said, CanvassOf, RequestOf, VoteOf, AnnounceOf, AnswerOf, ReportOf, CommitOf, BatchOf}
use Rattle.world.proofs.LogRows.{Outcome, Nothing, RaiseTo, Append, CutTo, acts, changed, outcome_of, receives, receives_row, does_duty, duty_at, client_at, follows, canvass_to, cuts, on_new_term, on_new_term_at, on_canvass_at, on_report_at, on_commit_at, on_batch_at, commit_after, in_leader_init, in_leader_ready, are_own, sends_status}
use Rattle.world.specs.World.{term_entry}
use Rattle.consensus_core.specs.Rows.{same_name, is_in}
use Rattle.consensus_core.specs.OverLog.{entries_to}
use Rattle.consensus_core.specs.Reign.{count_recent, reports}
use Rattle.log_replication.specs.Commits.{quorum_position}
use Rattle.consensus_core.specs.Fit.{has_term}
use Rattle.election.specs.Rows.{is_running as is_awake}
use Rattle.world.proofs.Kept.{Inv, MemberOk, Known, member-put_same, member-put_other}
use Rattle.world.proofs.Quorum.{is_quorum-votes}
use Rattle.world.proofs.Rows.{and_true, fold-later}
use Rattle.world.proofs.Effects.{if-cases, no_other_reign}
use Rattle.world.proofs.Snaps.{with_snaps, running-below, stopped-below}
use Rattle.world.proofs.Runs.{runs, at_place}
use Rattle.agreement.specs.View.{IsSettled, view_of}
use Rattle.agreement.proofs.Second.{PacketFits, Fits}
use Rattle.agreement.proofs.CutsKept.{settled-kept, same_name-is}

-- the term had no reign
abbrev pub NoReign : World → ℤ → Type 0
NoReign w t = (r : Reign) → Contains w.reigns r → r.term ≡ t → ⊥

pub record MemberMoves (w : World) (x y : Member) : Type 0 where
  pub candidate : x.durable.candidate ≤ℤ y.durable.candidate
  pub commit : x.up ≡ true → y.up ≡ true → x.values.rest.commit ≤ y.values.rest.commit
  pub logs : (xs : Log) → IsSettled (view_of w) x.durable.candidate xs → Leads xs x.durable.log → Leads xs y.durable.log
  pub reign : reigns_at y.values.election.state ≡ true → ((reigns_at x.values.election.state ≡ true) × (y.values.election.term ≡ x.values.election.term)) ⊎ NoReign w y.values.election.term
  pub starts : x.up ≡ false → y.up ≡ true → reigns_at y.values.election.state ≡ false
  -- a log that isn't shorter is longer by what was appended
  pub grows : y.up ≡ true → length x.durable.log ≤ length y.durable.log → Leads x.durable.log y.durable.log
  -- the commit stays, or nothing else does but that the log grows
  pub steady : x.up ≡ true → y.up ≡ true → (y.values.rest.commit ≡ x.values.rest.commit) ⊎ ((y.values.election.state ≡ x.values.election.state) × Leads x.durable.log y.durable.log)

pub record Moves (w v : World) : Type 0 where
  pub members : (j : ℕ) → MemberMoves w (member w j) (member v j)
  pub reigns : (r : Reign) → Contains w.reigns r → Contains v.reigns r
  pub holdings : (h : Holding) → Contains w.holdings h → Contains v.holdings h
  pub count : length v.members ≡ length w.members

pub stays-member : (w : World) (x : Member) → MemberMoves w x x
stays-member w x = record { candidate = omega (arith, ints); commit = λ a b. omega arith; logs = λ xs s p. p; reign = λ h. inl (h, refl); starts = λ a b. absurd (cc); grows = λ a h. Leads-self x.durable.log; steady = λ a b. inl refl }

pub moves-put : (w : World) (m : ℕ) (y : Member) (rs : List Raise) (ps : List Sent) (gs : List Reign) → m < length w.members → MemberMoves w (member w m) y → Moves w (put w m y rs ps gs)
moves-put w m y rs ps gs l o = record {
  members = λ j. elim (cases_eq j m) [
    | inl e ↦ subst (λ z. MemberMoves w (member w z) (member (put w m y rs ps gs) z)) (sym e) (subst (λ z. MemberMoves w (member w m) z) (sym (member-put_same w m y rs ps gs l)) o)
    | inr ne ↦ subst (λ z. MemberMoves w (member w j) z) (sym (member-put_other w m j y rs ps gs ne)) (stays-member w (member w j))
  ];
  reigns = λ r h. Contains-append_left w.reigns gs r h;
  holdings = λ h has. Contains-append_left w.holdings _ h has;
  count = length-set w.members m y;
}

pub moves-self : (w : World) → Moves w w
moves-self w = record { members = λ j. stays-member w (member w j); reigns = λ r h. h; holdings = λ h has. has; count = refl }

pub stop-moves : (w : World) (x : Member) (d : Durable) → x.durable.candidate ≤ℤ d.candidate → ((xs : Log) → IsSettled (view_of w) x.durable.candidate xs → Leads xs x.durable.log → Leads xs d.log) → MemberMoves w x (stopped d)
stop-moves w x d up logs = record { candidate = up; commit = λ a b. absurd (cc); logs = logs; reign = λ h. absurd (cc); starts = λ a b. absurd (cc); grows = λ a h. absurd (cc); steady = λ a b. absurd (cc) }

-- a prefix that isn't shorter is the whole
pub whole : (xs ys : Log) → Leads xs ys → length ys ≤ length xs → Leads ys xs
whole [] [] p h = tt
whole [] (y ∷ ys) p h = absurd (omega (arith, h))
whole (x ∷ xs) [] p h = tt
whole (x ∷ xs) (y ∷ ys) p h = (sym p.0, whole xs ys p.1 (omega (arith, h)))

-- what a row leaves
pub record RowMoves (w : World) (x : Member) (o : Outcome) : Type 0 where
  pub candidate : x.durable.candidate ≤ℤ (changed x.durable o.change).candidate
  pub commit : x.values.rest.commit ≤ o.rest.commit
  pub logs : (xs : Log) → IsSettled (view_of w) x.durable.candidate xs → Leads xs x.durable.log → Leads xs (changed x.durable o.change).log
  pub reign : reigns_at o.election.state ≡ true → ((reigns_at x.values.election.state ≡ true) × (o.election.term ≡ x.values.election.term)) ⊎ NoReign w o.election.term
  pub grows : length x.durable.log ≤ length (changed x.durable o.change).log → Leads x.durable.log (changed x.durable o.change).log
  pub steady : (o.rest.commit ≡ x.values.rest.commit) ⊎ ((o.election.state ≡ x.values.election.state) × Leads x.durable.log (changed x.durable o.change).log)

pub acts-moves : (w : World) (m : ℕ) (o : Outcome) (cut : Cut) → m < length w.members → (member w m).up ≡ true → RowMoves w (member w m) o → Moves w (acts w m (member w m) o cut)
unfolding acts
acts-moves w m o Whole l up r =
    moves-put w m (record { up = true; values = record { election = o.election; rest = o.rest }; durable = changed (member w m).durable o.change }) _ _ _ l
    (record { candidate = r.candidate; commit = λ a b. r.commit; logs = r.logs; reign = r.reign; starts = λ a b. absurd (cc); grows = λ a h. r.grows h; steady = λ a b. r.steady })
acts-moves w m o Before l up r = moves-put w m (stopped (member w m).durable) _ _ _ l (stop-moves w (member w m) (member w m).durable (omega (arith, ints)) (λ xs s p. p))
acts-moves w m o After l up r = moves-put w m (stopped (changed (member w m).durable o.change)) _ _ _ l (stop-moves w (member w m) (changed (member w m).durable o.change) r.candidate r.logs)

module _ (n : ℕ) (w : World) (m : ℕ) (i : Inv n w) (l : m < length w.members) (up : (member w m).up ≡ true) (f : Fits n w) where
  abbrev x0 : Member
  x0 = member w m

  abbrev e : Election
  e = x0.values.election

  abbrev r0 : Rest
  r0 = x0.values.rest

  abbrev log : Log
  log = x0.durable.log

  abbrev pub Moved : Outcome → Type 0
  Moved o = RowMoves w x0 o

  abbrev TurnMoved : Turn → Type 0
  TurnMoved t = Moved (outcome_of t r0 (name_of log))

  ok : MemberOk w n m x0
  ok = i.members m (subst (λ z. m < z) i.count l)

  known : Known w n m x0
  known = ok.known up

  -- nothing changes on the disk
  calm : (e' : Election) (r : Rest) (ps : List Sent) → r0.commit ≤ r.commit → (r.commit ≡ r0.commit) ⊎ (e'.state ≡ e.state) → (reigns_at e'.state ≡ true → (reigns_at e.state ≡ true) × (e'.term ≡ e.term)) → Moved (record { election = e'; rest = r; change = Nothing; packets = ps })
  calm e' r ps com' st reign = record { candidate = omega (arith, ints); commit = com'; logs = λ xs s p. p; reign = λ h. inl (reign h); grows = λ h. Leads-self log; steady = elim st [ inl c ↦ inl c | inr s ↦ inr (s, Leads-self log) ] }

  goes : (e' : Election) (r : Rest) (ps : List Sent) → r0.commit ≤ r.commit → e'.state ≡ e.state → e'.term ≡ e.term → Moved (record { election = e'; rest = r; change = Nothing; packets = ps })
  goes e' r ps com' st t = calm e' r ps com' (inr st) (λ h. (ap reigns_at (sym st) ∙ h, t))

  same : Moved (record { election = e; rest = r0; change = Nothing; packets = [] })
  same = goes e r0 [] (omega arith) refl refl

  leaves : (e' : Election) (ps : List Sent) → reigns_at e'.state ≡ false → Moved (record { election = e'; rest = r0; change = Nothing; packets = ps })
  leaves e' ps nope = calm e' r0 ps (omega arith) (inl refl) (λ h. absurd (cc))

  canvass : (now : ℕ) → Moved (record { election = enter_canvass e now; rest = r0; change = Nothing; packets = [] })
  canvass now = leaves (enter_canvass e now) [] refl

  lifts : (e' : Election) (c : ℤ) (v : Option ℕ) (ps : List Sent) → x0.durable.candidate ≤ℤ c → reigns_at e'.state ≡ false → Moved (record { election = e'; rest = r0; change = RaiseTo c v; packets = ps })
  lifts e' c v ps above nope = record { candidate = above; commit = omega arith; logs = λ xs s p. p; reign = λ h. absurd (cc); grows = λ h. Leads-self log; steady = inl refl }

  appends : (e' : Election) (r : Rest) (es : Log) (ps : List Sent) → r0.commit ≤ r.commit → (r.commit ≡ r0.commit) ⊎ (e'.state ≡ e.state) → (reigns_at e'.state ≡ true → (reigns_at e.state ≡ true) × (e'.term ≡ e.term)) → Moved (record { election = e'; rest = r; change = Append es; packets = ps })
  appends e' r es ps com' st reign = record { candidate = omega (arith, ints); commit = com'; logs = λ xs s p. Leads-trans xs log (log ++ es) p (Leads-append log es); reign = λ h. inl (reign h); grows = λ h. Leads-append log es; steady = elim st [ inl c ↦ inl c | inr s ↦ inr (s, Leads-append log es) ] }

  relogs : (e' : Election) (left : Log) (ps : List Sent) → ((xs : Log) → IsSettled (view_of w) x0.durable.candidate xs → Leads xs log → Leads xs left) → Leads left log → reigns_at e'.state ≡ false → Moved (record { election = e'; rest = r0; change = CutTo left; packets = ps })
  relogs e' left ps keeps front nope = record { candidate = omega (arith, ints); commit = omega arith; logs = keeps; reign = λ h. absurd (cc); grows = λ h. whole left log front h; steady = inl refl }

  in_canvass-moves : (own : LogName) (now : ℕ) → e.state ≡ Canvass → TurnMoved (in_canvass e own now)
  in_canvass-moves own now at =
      if-cases TurnMoved (nat_le e.deadline now) _ _
      (λ due. if-cases TurnMoved (is_quorum e.members (1 + heard_count e.heard) && not (list_any (heard_better own) e.heard)) _ _
      (λ h. leaves (record e { state = Nominate }) [] refl)
      (λ h. goes (record e { deadline = now + 300 + 100 * e.id }) r0 [] (omega arith) refl refl))
      (λ not_due. if-cases TurnMoved (nat_le e.next now) _ _
      (λ h. goes (record e { next = now + 100 }) r0 _ (omega arith) refl refl)
      (λ h. same))

  nominates-moves : (most : ℤ) (now : ℕ) → e.candidate ≤ℤ most → TurnMoved (nominates e most now)
  nominates-moves most now high =
      if-cases TurnMoved (int_le (pos (2 ^ 62)) most) _ _
      (λ h. canvass now)
      (λ h. lifts (record e { candidate = most +ℤ pos 1; voted = Some e.id; votes = set (replicate 5 false) e.id true; deadline = now + 500; state = CandidateBallot }) (most +ℤ pos 1) (Some e.id) _
      (let c = known.candidate in omega (arith, ints, high, c)) refl)

  in_candidate_ballot-moves : (now : ℕ) → e.state ≡ CandidateBallot → TurnMoved (in_candidate_ballot e now)
  in_candidate_ballot-moves now at =
      let b = ok.ballot (ap is_balloting at) in
      if-cases TurnMoved (is_quorum e.members (vote_count e.votes)) _ _
      (λ q. record {
        candidate = omega (arith, ints);
        commit = omega arith;
        logs = λ xs s p. p;
        reign = λ h. inr (λ r has same_term. no_other_reign n w m r i (ap is_balloting at)
            ((λ k. slice_index_or e.votes k false), is_quorum-votes n e.votes (λ k yes'. i.voters _ (b.votes k yes').1) (subst (λ z. is_quorum z (vote_count e.votes) ≡ true) known.members q), b.votes) has (same_term ∙ known.candidate));
        grows = λ h. Leads-self log;
        steady = inl refl;
      })
      (λ h. if-cases TurnMoved (nat_le e.deadline now) _ _ (λ due. canvass now) (λ not_due. same))

  duty-moves : (s : State) (own : LogName) (now : ℕ) → e.state ≡ s → TurnMoved (duty s e own now)
  duty-moves Init own now at = canvass now
  duty-moves Canvass own now at = in_canvass-moves own now at
  duty-moves Nominate own now at = nominates-moves (fold later (int_max e.candidate own.term) e.heard) now
      (let a = fold-later (int_max e.candidate own.term) e.heard in let b : e.candidate ≤ℤ int_max e.candidate own.term = grind (arith, ints) in omega (arith, ints, a, b))
  duty-moves CandidateBallot own now at = in_candidate_ballot-moves now at
  duty-moves FollowerBallot own now at = if-cases TurnMoved (nat_le e.deadline now) _ _ (λ due. canvass now) (λ not_due. same)
  duty-moves LeaderInit own now at = same
  duty-moves LeaderReady own now at = same
  duty-moves FollowerLogReplication own now at = same
  duty-moves FollowerReady own now at = same
  duty-moves Closed own now at = same

  on_request-moves : (from : ℕ) (c : ℤ) (name : LogName) (now : ℕ) → TurnMoved (on_request e from c name (name_of log) now)
  on_request-moves from c name now =
      let own = name_of log in
      if-cases TurnMoved (int_lt e.candidate c) _ _
      (λ above.
      let higher : x0.durable.candidate ≤ℤ c = (let c = known.candidate in grind (arith, ints)) in
      if-cases TurnMoved (better own.term own.place name.term name.place) _ _
      (λ b. lifts (enter_canvass (record e { candidate = c; voted = None }) now) c None _ higher refl)
      (λ b. lifts (record e { candidate = c; voted = Some from; term = negsuc 0; leader = None; deadline = now + 500; state = FollowerBallot }) c (Some from) _ higher refl))
      (λ low. if-cases TurnMoved (int_le e.candidate c && is_for e.voted from) _ _
      (λ h. goes e r0 _ (omega arith) refl refl)
      (λ h. goes e r0 _ (omega arith) refl refl))

  on_vote-moves : (from : ℕ) (c : ℤ) (given : Bool) → TurnMoved (on_vote e from c given)
  on_vote-moves from c given =
      if-cases TurnMoved (given && (is_balloting e.state && (int_le c e.candidate && int_le e.candidate c))) _ _
      (λ h. goes (record e { votes = set e.votes from true }) r0 [] (omega arith) refl refl) (λ h. same)

  follows-moves : (from : ℕ) (t : ℤ) (now : ℕ) → Moved (follows e r0 log from t now)
  follows-moves from t now = at (int_lt e.candidate t) refl
    where
      at : (b : Bool) → int_lt e.candidate t ≡ b → Moved (record {
        election = record e { candidate = t; voted = (if b then None else e.voted); term = t; leader = Some from; deadline = now + 1000; next = now + 100; state = FollowerLogReplication };
        rest = r0;
        change = (if b then RaiseTo t None else Nothing);
        packets = canvass_to (record e { candidate = t; voted = (if b then None else e.voted); term = t; leader = Some from; deadline = now + 1000; next = now + 100; state = FollowerLogReplication }) from log;
      })
      at true above = lifts (record e { candidate = t; voted = None; term = t; leader = Some from; deadline = now + 1000; next = now + 100; state = FollowerLogReplication }) t None _ (let c = known.candidate in grind (arith, ints)) refl
      at false above = leaves (record e { candidate = t; voted = e.voted; term = t; leader = Some from; deadline = now + 1000; next = now + 100; state = FollowerLogReplication }) _ refl

  cuts-moves : (from : ℕ) (t : ℤ) (asked keep : LogName) (now : ℕ) → e.state ≡ FollowerLogReplication → e.term ≡ t → asked ≡ name_of log → PacketFits w from (AnswerOf t asked keep) → Moved (cuts e r0 log from keep now)
  cuts-moves from t asked keep now at is_t is_asked p =
      let left = kept keep.term keep.place log in
      let cand : e.term ≡ x0.durable.candidate = ok.term (ap has_term at) in
      let keeps : (xs : Log) → IsSettled (view_of w) x0.durable.candidate xs → Leads xs log → Leads xs left =
      settled-kept n w m i l up f p.0 t asked keep is_asked (sym is_t ∙ cand) p.1 p.2 p.3 p.4 p.5 p.6 in
      if-cases Moved (nat_lt (length left) r0.commit) _ _
      (λ h. same)
      (λ enough. if-cases Moved (int_le (last left) keep.term && int_le keep.term (last left)) _ _
      (λ b. relogs (record e { deadline = now + 1000; state = FollowerReady }) left _ keeps (kept_from-front 0 keep.term keep.place log) refl)
      (λ b. relogs (record e { deadline = now + 1000 }) left _ keeps (kept_from-front 0 keep.term keep.place log) (ap reigns_at at)))

  on_new_term_at-moves : (s : State) (from : ℕ) (t : ℤ) (answer : Option (LogName × LogName)) (now : ℕ) → e.state ≡ s
      → ((a : LogName × LogName) → answer ≡ Some a → PacketFits w from (AnswerOf t a.0 a.1)) → Moved (on_new_term_at s e r0 log from t answer now)
  on_new_term_at-moves FollowerReady from t answer now at ok' =
      if-cases Moved (is_in e t) _ _ (λ h. goes (record e { deadline = now + 1000 }) r0 [] (omega arith) refl refl) (λ h. follows-moves from t now)
  on_new_term_at-moves FollowerLogReplication from t (Some a) now at ok' =
      if-cases Moved (is_in e t) _ _
      (λ h. if-cases Moved (same_name a.0 (name_of log)) _ _
      (λ b. cuts-moves from t a.0 a.1 now at (here t h) (same_name-is a.0 (name_of log) b) (ok' a refl))
      (λ b. goes (record e { deadline = now + 1000 }) r0 _ (omega arith) refl refl))
      (λ h. follows-moves from t now)
    where
      here : (t : ℤ) → is_in e t ≡ true → e.term ≡ t
      here t h = let p = and_true (int_le e.term t) (int_le t e.term) h in let a = p.0 in let b = p.1 in grind (arith, ints)
  on_new_term_at-moves FollowerLogReplication from t None now at ok' = follows-moves from t now
  on_new_term_at-moves LeaderInit from t answer now at ok' = if-cases Moved (is_in e t) _ _ (λ h. same) (λ h. follows-moves from t now)
  on_new_term_at-moves LeaderReady from t answer now at ok' = if-cases Moved (is_in e t) _ _ (λ h. same) (λ h. follows-moves from t now)
  on_new_term_at-moves _ from t answer now at ok' = follows-moves from t now

  on_new_term-moves : (from : ℕ) (t : ℤ) (answer : Option (LogName × LogName)) (now : ℕ) → ((a : LogName × LogName) → answer ≡ Some a → PacketFits w from (AnswerOf t a.0 a.1)) → Moved (on_new_term e r0 log from t answer now)
  on_new_term-moves from t answer now ok' = if-cases Moved (int_lt t e.candidate) _ _ (λ h. same) (λ h. on_new_term_at-moves e.state from t answer now refl ok')

  on_canvass-moves : (s : State) (from : ℕ) (name : LogName) (c : ℤ) (now : ℕ) → e.state ≡ s → Moved (on_canvass_at s e r0 log from name c now)
  on_canvass-moves Canvass from name c now at = goes (record e { heard = set e.heard from (Some (record { term = name.term; place = name.place; candidate = c })) }) r0 [] (omega arith) refl refl
  on_canvass-moves LeaderReady from name c now at = if-cases Moved (int_lt e.term c) _ _ (λ h. canvass now) (λ h. goes e r0 _ (omega arith) refl refl)
  on_canvass-moves _ from name c now at = same

  on_report-moves : (s : State) (from : ℕ) (t : ℤ) (p now : ℕ) → Moved (on_report_at s e r0 from t p now)
  on_report-moves LeaderReady from t p now = if-cases Moved (is_in e t) _ _ (λ h. goes e _ [] (omega arith) refl refl) (λ h. same)
  on_report-moves _ from t p now = same

  below-max : (a b : ℕ) → a ≤ max a b
  below-max a b = grind arith

  on_commit-moves : (s : State) (t : ℤ) (c now : ℕ) → Moved (on_commit_at s e r0 log t c now)
  on_commit-moves FollowerReady t c now = if-cases Moved (is_in e t) _ _ (λ h. goes (record e { deadline = now + 1000 }) (record r0 { commit = max r0.commit (entries_to c log) }) [] (below-max r0.commit (entries_to c log)) refl refl) (λ h. same)
  on_commit-moves _ t c now = same

  on_batch-moves : (s : State) (from : ℕ) (t : ℤ) (start : ℕ) (entries : Log) (now : ℕ) → e.state ≡ s → Moved (on_batch_at s e r0 log from t start entries now)
  on_batch-moves FollowerReady from t start entries now at =
      if-cases Moved (is_in e t) _ _
      (λ h. if-cases Moved (nat_le start (place log)) _ _
      (λ b. appends (record e { deadline = now + 1000 }) r0 (past start (place log) entries) _ (omega arith) (inl refl) (λ k. (k, refl)))
      (λ b. goes (record e { deadline = now + 1000 }) r0 _ (omega arith) refl refl))
      (λ h. same)
  on_batch-moves _ from t start entries now at = same

  sends_status-moves : (p : Said) (now : ℕ) → Moved (sends_status e r0 p now)
  sends_status-moves p now =
      if-cases Moved (nat_le e.deadline now) _ _
      (λ due. canvass now)
      (λ early. if-cases Moved (nat_le e.next now) _ _ (λ b. goes (record e { next = now + 100 }) r0 _ (omega arith) refl refl) (λ b. same))

  commit_after-up : r0.commit ≤ commit_after e r0 log
  commit_after-up = if-cases (λ z. r0.commit ≤ z) (nat_le r0.own_end (quorum_position (reports e.members e.id (place log) r0.acked))) _ _ (λ h. below-max r0.commit (entries_to (quorum_position (reports e.members e.id (place log) r0.acked)) log)) (λ h. omega arith)

  in_leader_init-moves : (now : ℕ) → e.state ≡ LeaderInit → Moved (in_leader_init e r0 log now)
  in_leader_init-moves now at =
      if-cases Moved (nat_lt 16777216 (place (log ++ term_entry e.term (place log) now e.id ∷ []))) _ _
      (λ h. canvass now)
      (λ h. appends (record e { state = LeaderReady; next = now + 100 }) _ (term_entry e.term (place log) now e.id ∷ []) _ (omega arith) (inl refl) (λ k. (ap reigns_at at, refl)))

  in_leader_ready-moves : (due : Log) (now : ℕ) → Moved (in_leader_ready e r0 log due now)
  in_leader_ready-moves due now =
      if-cases Moved (is_quorum e.members (count_recent now e.members e r0)) _ _
      (λ h. appends (record e { next = (if nat_le e.next now then now + 100 else e.next) }) (record r0 { commit = commit_after e r0 log }) due _ commit_after-up (inr refl) (λ k. (k, refl)))
      (λ h. canvass now)

  duty_at-moves : (s : State) (due : Log) (now : ℕ) → e.state ≡ s → Moved (duty_at s x0 due now)
  duty_at-moves LeaderInit due now at = in_leader_init-moves now at
  duty_at-moves LeaderReady due now at = if-cases Moved (are_own e.term due) _ _ (λ h. in_leader_ready-moves due now) (λ h. same)
  duty_at-moves FollowerReady due now at = sends_status-moves (ReportOf e.term (place log)) now
  duty_at-moves FollowerLogReplication due now at = sends_status-moves (CanvassOf (name_of log) e.candidate) now
  duty_at-moves Init due now at = duty-moves e.state (name_of log) now refl
  duty_at-moves Canvass due now at = duty-moves e.state (name_of log) now refl
  duty_at-moves Nominate due now at = duty-moves e.state (name_of log) now refl
  duty_at-moves CandidateBallot due now at = duty-moves e.state (name_of log) now refl
  duty_at-moves FollowerBallot due now at = duty-moves e.state (name_of log) now refl
  duty_at-moves Closed due now at = duty-moves e.state (name_of log) now refl

  pub does_duty-moves : (due : Log) (now : ℕ) → Moved (does_duty x0 due now)
  does_duty-moves due now = duty_at-moves e.state due now refl

  receives_row-moves : (from : ℕ) (p : Said) (now : ℕ) → PacketFits w from p → Moved (receives_row x0 from p now)
  receives_row-moves from (CanvassOf name c) now sent = on_canvass-moves e.state from name c now refl
  receives_row-moves from (RequestOf c name) now sent = if-cases TurnMoved (is_awake e.state) _ _ (λ h. on_request-moves from c name now) (λ h. same)
  receives_row-moves from (VoteOf c given own) now sent = on_vote-moves from c given
  receives_row-moves from (AnnounceOf t) now sent = on_new_term-moves from t None now (λ a h. absurd (cc))
  receives_row-moves from (AnswerOf t asked keep) now sent = on_new_term-moves from t (Some (asked, keep)) now (λ a h. subst (λ (z : LogName × LogName). PacketFits w from (AnswerOf t z.0 z.1)) (some-pair _ _ h) sent)
    where
      some-pair : (a b : LogName × LogName) → Some a ≡ Some b → a ≡ b
      some-pair a b e = cc
  receives_row-moves from (ReportOf t p) now sent = on_report-moves e.state from t p now
  receives_row-moves from (CommitOf t c) now sent = on_commit-moves e.state t c now
  receives_row-moves from (BatchOf t start entries) now sent = on_batch-moves e.state from t start entries now refl

  pub receives-moves : (passes : Bool) (from : ℕ) (p : Said) (now : ℕ) → PacketFits w from p → Moved (receives passes x0 from p now)
  receives-moves passes from p now sent = if-cases Moved passes _ _ (λ h. receives_row-moves from p now sent) (λ h. same)

  pub client-moves : (s : State) (entries : Log) → Moved (client_at s x0 entries)
  client-moves LeaderReady entries = if-cases Moved (are_own e.term entries) _ _ (λ h. appends e r0 entries [] (omega arith) (inl refl) (λ k. (k, refl))) (λ h. same)
  client-moves _ entries = same

comes-moves : (n : ℕ) (w : World) (s : Option Sent) (cut : Cut) → ((x : Sent) → s ≡ Some x → Contains w.sent x) → Inv n w → Fits n w → Moves w (comes w s cut)
comes-moves n w None cut has i f = moves-self w
comes-moves n w (Some s) cut has i f =
    if-cases (Moves w) (is_running w s.to) _ _
    (λ h.
    let r = runs w s.to h in
    let b = passes w s.to s.packet in
    subst (Moves w) (sym (packet_is w s.to s.packet w.now cut)) (acts-moves w s.to (receives b (member w s.to) (sender_of s.packet) (says s.packet) w.now) cut r.0 r.1 (receives-moves n w s.to i r.0 r.1 f b (sender_of s.packet) (says s.packet) w.now (f.sent s (has s refl)))))
    (λ h. moves-self w)

start-moves : (w : World) (m services : ℕ) → (member w m).up ≡ false → MemberMoves w (member w m) (starts m (length w.members) services (member w m).durable)
start-moves w m services down = record { candidate = omega (arith, ints); commit = λ a b. absurd (cc); logs = λ xs s p. p; reign = λ h. absurd (cc); starts = λ a b. refl; grows = λ a h. Leads-self (member w m).durable.log; steady = λ a b. absurd (cc) }

pub not-true : (b : Bool) → not b ≡ true → b ≡ false
not-true true h = cc
not-true false h = refl

putting-moves : (w : World) (m : ℕ) (all : List SnapshotEntry) (cut : Cut) → m < length w.members → Moves w (putting w m (member w m) all cut)
putting-moves w m all Whole l = moves-put w m (with_snaps (member w m) all) [] [] [] l (record { candidate = omega (arith, ints); commit = λ a b. omega arith; logs = λ xs s p. p; reign = λ h. inl (h, refl); starts = λ a b. absurd (cc); grows = λ a h. Leads-self (member w m).durable.log; steady = λ a b. inl refl })
putting-moves w m all Before l = moves-put w m (stopped (member w m).durable) [] [] [] l (stop-moves w (member w m) (member w m).durable (omega (arith, ints)) (λ xs s p. p))
putting-moves w m all After l = moves-put w m (stopped (snapped all (member w m).durable)) [] [] [] l (stop-moves w (member w m) (snapped all (member w m).durable) (omega (arith, ints)) (λ xs s p. p))

pub step-moves : (n : ℕ) (w : World) (s : Step) → Inv n w → Fits n w → Moves w (step w s)
step-moves n w (Passes now) i f = record { members = λ j. stays-member w (member w j); reigns = λ r h. h; holdings = λ h has. has; count = refl }
step-moves n w (Starts m services) i f =
    if-cases (Moves w) (nat_lt m (length w.members) && not (member w m).up) _ _
    (λ h. moves-put w m (starts m (length w.members) services (member w m).durable) [] [] [] (stopped-below w m h) (start-moves w m services (not-true (member w m).up (and_true (nat_lt m (length w.members)) (not (member w m).up) h).1)))
    (λ h. moves-self w)
step-moves n w (Stops m) i f =
    if-cases (Moves w) (is_running w m) _ _
    (λ h. moves-put w m (stopped (member w m).durable) [] [] [] (runs w m h).0 (stop-moves w (member w m) (member w m).durable (omega (arith, ints)) (λ xs s p. p)))
    (λ h. moves-self w)
step-moves n w (Duty m due cut) i f =
    if-cases (Moves w) (is_running w m && are_of (member w m).values.election.term due) _ _
    (λ h.
    let p = and_true (is_running w m) (are_of (member w m).values.election.term due) h in
    let r = runs w m p.0 in
    let es = due_of (member w m) due in
    subst (Moves w) (sym (duty_is w m due w.now p.1 cut)) (acts-moves w m (does_duty (member w m) es w.now) cut r.0 r.1 (does_duty-moves n w m i r.0 r.1 f es w.now)))
    (λ h. moves-self w)
step-moves n w (Delivers which cut) i f = comes-moves n w (slice_get w.sent which) cut (λ x e. at_place w.sent which x e) i f
step-moves n w (Client m event cut) i f =
    if-cases (Moves w) (is_running w m && are_of (member w m).values.election.term (event ∷ [])) _ _
    (λ h.
    let p = and_true (is_running w m) (are_of (member w m).values.election.term (event ∷ [])) h in
    let r = runs w m p.0 in
    let es : Log = entry_of event ∷ [] in
    subst (Moves w) (sym (client_is w m event p.1 cut)) (acts-moves w m (client_at (member w m).values.election.state (member w m) es) cut r.0 r.1 (client-moves n w m i r.0 r.1 f (member w m).values.election.state es)))
    (λ h. moves-self w)
step-moves n w (Puts m k s cut) i f =
    if-cases (Moves w) (is_running w m && names k s (member w m)) _ _
    (λ h. subst (Moves w) (sym (putting-same w m s cut)) (putting-moves w m (put_in s (member w m).durable.snapshots) cut (running-below w m (names k s (member w m)) h).0))
    (λ h. moves-self w)
step-moves n w (Invalidates m services) i f =
    if-cases (Moves w) (nat_lt m (length w.members) && not (member w m).up) _ _
    (λ h. moves-put w m (stopped (snapped (invalidated services (member w m).durable.snapshots) (member w m).durable)) [] [] [] (stopped-below w m h)
    (stop-moves w (member w m) (snapped (invalidated services (member w m).durable.snapshots) (member w m).durable) (omega (arith, ints)) (λ xs s p. p)))
    (λ h. moves-self w)
