-- The rows of an election and of a follower, and what a leader hears, keep the second invariant.
use Rattle.std.proofs.Common.{◌≡◌, ◌≢◌, inl, inr, ℕ, ◌+◌, ◌*◌, ◌<◌, ◌≤◌, ◌^◌, Bool, true, false, not, ◌&&◌, List, [], ◌∷◌, ◌++◌, length, take, set, replicate, refl, sym, ap, ◌∙◌, subst, arith, ℤ, pos, negsuc, ◌+ℤ◌, ◌≤ℤ◌, ◌<ℤ◌, Some, None, Option, max, get_or-set_other, get_or-set_same, length-set}
use Rattle.std.specs.Prelude.{Contains, slice_index_or, if◌then◌else◌, nat_le, nat_lt, int_lt, int_le, unwrap_or, fold}
use Rattle.std.specs.List.{list_any}
use Rattle.std.specs.Int.{int_max}
use Rattle.std.proofs.lemmas.Int.{ints}
use Rattle.std.proofs.lemmas.List.{append-nil, get_or_past}
use Rattle.std.proofs.lemmas.Bool.{cases_eq, cases_lt}
use Rattle.std.proofs.lemmas.Bool.Decides.{nat_tests}
use Rattle.std.proofs.lemmas.List.Elements.{Contains-append_right}
use Rattle.entry_log.specs.declared.name.LogName.{LogName}
use Rattle.entry_log.specs.Log.{Log, name_of, better, last, place, IsPrefixOf}
use Rattle.election.specs.declared.member.State.{State}
use Rattle.election.specs.declared.member.State.TheVariants.{Init, Canvass, Nominate, CandidateBallot, FollowerBallot, LeaderInit, LeaderReady, FollowerLogReplication, FollowerReady, Closed}
use Rattle.election.specs.declared.member.Election.{Election}
use Rattle.election.specs.Rows.{Turn, duty, in_canvass, nominates, in_candidate_ballot, on_request, on_vote, enter_canvass, is_balloting, heard_count, heard_better, vote_count, later, is_for}
use Rattle.entry_log.specs.Quorum.{is_quorum}
use Rattle.log_replication.specs.Replication.{kept, past, answer_term, answer_end, upto, IsAnchored}
use Rattle.entry_log.specs.Log.{IsWritten, Rises}
use Rattle.log_replication.specs.Prefixes.{Leads, leads, is_prefix, Leads-self, Leads-trans, Leads-append, Leads-by_place, IsWritten-front, last-up, place-up}
use Rattle.log_replication.specs.Cuts.{matched-kept, upto-front, upto-holds, Within-last, kept_from-front, piece-added}
use Rattle.world.specs.World.{World, member, put, reigns_at, holds_at, held_by, is_elected}
use Rattle.consensus_core.specs.Member.{Member, Sent, Cut}
use Rattle.consensus_core.specs.declared.rest.Rest.{Rest}
use Rattle.consensus_core.specs.Sendable.{sender_of}
use Rattle.world.specs.Said.{says, Said, CanvassOf, RequestOf, VoteOf, AnswerOf, ReportOf, CommitOf, BatchOf}
use Rattle.world.proofs.LogRows.{Outcome, Nothing, RaiseTo, Append, CutTo, acts, to_others, outcome_of, one_to, follows, canvass_to, cuts, on_new_term, on_new_term_at, on_canvass_at, on_report_at, on_commit_at, on_batch_at, sends_status}
use Rattle.consensus_core.specs.Rows.{same_name, is_in}
use Rattle.consensus_core.specs.OverLog.{entries_to}
use Rattle.consensus_core.specs.Fit.{has_term}
use Rattle.world.specs.Safe.{candidate_of}
use Rattle.world.proofs.Kept.{Inv, MemberOk, Known}
use Rattle.world.proofs.Quorum.{is_quorum-votes}
use Rattle.world.proofs.Rows.{and_true, fold-later}
use Rattle.world.proofs.Effects.{none_in, if-cases, to_others-all, one_to-all, no_other_reign}
use Rattle.agreement.specs.View.{Holds, IsOpen, IsSettled, view_of}
use Rattle.agreement.proofs.Opens.{prefix-trans, not-none}
use Rattle.agreement.proofs.Second.{sent-fits, reign_of, is_leader_ready, Leading, MemberFits, PacketFits, Fits, Widens, PacketFits-widens, held_by-holds}
use Rattle.agreement.proofs.Stills.{reign-stays, same-prefix}
use Rattle.agreement.proofs.Calm.{calm, lifted, relogs, ready-reigns}
use Rattle.agreement.proofs.Writes.{begins, from_anchor}
use Rattle.agreement.proofs.Commits.{entries_to-short, entries_to-place, take-leads, max-either}
use Rattle.agreement.proofs.Fronts.{settled-front, take-front, length-up}
use Rattle.agreement.proofs.CutsKept.{open-kept, settled-kept, same_name-is}

some-same : (a b : ℕ) → Some a ≡ Some b → a ≡ b
some-same a b e = cc

module _ (n : ℕ) (w : World) (m : ℕ) (i : Inv n w) (l : m < length w.members) (up : (member w m).up ≡ true) (f : Fits n w) where
  abbrev x0 : Member
  x0 = member w m

  abbrev e : Election
  e = x0.values.election

  abbrev r0 : Rest
  r0 = x0.values.rest

  abbrev log : Log
  log = x0.durable.log

  -- the second invariant after the row, given the first
  abbrev pub Two : Outcome → Type 0
  Two o = ((cut : Cut) → Inv n (acts w m x0 o cut)) → (cut : Cut) → Fits n (acts w m x0 o cut)

  abbrev pub TwoTurn : Turn → Type 0
  TwoTurn t = Two (outcome_of t r0 (name_of log))

  ok : MemberOk w n m x0
  ok = i.members m (subst (λ z. m < z) i.count l)

  known : Known w n m x0
  known = ok.known up

  mine : MemberFits w m x0
  mine = f.members m

  abbrev AllFit : List Sent → Type 0
  AllFit ps = (w' : World) → Widens w w' → (s : Sent) → Contains ps s → PacketFits w' (sender_of s.packet) (says s.packet)

  none : AllFit []
  none w' g s h = absurd (none_in s h)

  one : (to : ℕ) (p : Said) → PacketFits w e.id p → AllFit (one_to e to p)
  one to p h w' g = one_to-all (λ s. PacketFits w' (sender_of s.packet) (says s.packet)) e to p (sent-fits w' e.id to p (PacketFits-widens w w' e.id p g h))

  others-fit : (p : Said) → PacketFits w e.id p → AllFit (to_others e.members e.id p)
  others-fit p h w' g = to_others-all (λ s. PacketFits w' (sender_of s.packet) (says s.packet)) e.members e.id p (λ k. sent-fits w' e.id k p (PacketFits-widens w w' e.id p g h))

  -- a log's place is within the reign of its last term
  canvass-fits : (xs : Log) → IsAnchored (reign_of w) xs → place xs ≤ place (reign_of w (last xs))
  canvass-fits [] a = omega arith
  canvass-fits (x ∷ xs) a = place-up 0 (x ∷ xs) (reign_of w (last (x ∷ xs))) (f.grounded.written (last (x ∷ xs))) (leads (x ∷ xs) (reign_of w (last (x ∷ xs))) (a (x ∷ xs) ([], append-nil (x ∷ xs)) (λ z. cc)))

  pub leaves : (e' : Election) (ps : List Sent) → holds_at e'.state ≡ false → is_elected e'.state ≡ false → AllFit ps → Two (record { election = e'; rest = r0; change = Nothing; packets = ps })
  leaves e' ps a b sent = calm n w m i l up f e' r0 ps (λ h. absurd (cc)) (λ h. absurd (no_reigns e'.state a h)) (λ h. absurd (cc)) (λ h. absurd (no_reigns e'.state a (ready-reigns e'.state h))) mine.commit sent
    where
      no_reigns : (s : State) → holds_at s ≡ false → reigns_at s ≡ true → ⊥
      no_reigns LeaderInit h k = cc
      no_reigns LeaderReady h k = cc
      no_reigns _ h k = cc

  -- the same state, with other values of the rest
  goes : (e' : Election) (r : Rest) (ps : List Sent) → e'.state ≡ e.state → e'.term ≡ e.term → (is_leader_ready e.state ≡ true → Leading w (record { up = true; values = record { election = e'; rest = r }; durable = x0.durable }))
      → (r.commit ≤ length log) × IsSettled (view_of w) x0.durable.candidate (take r.commit log) → AllFit ps → Two (record { election = e'; rest = r; change = Nothing; packets = ps })
  goes e' r ps st t lead com' sent =
      calm n w m i l up f e' r ps (λ h. (ap holds_at (sym st) ∙ h, t)) (λ h. ap reigns_at (sym st) ∙ h) (λ h. ap is_elected (sym st) ∙ h) (λ h. lead (ap is_leader_ready (sym st) ∙ h)) com' sent

  still-leads : (e' : Election) → e'.term ≡ e.term → is_leader_ready e.state ≡ true → Leading w (record { up = true; values = record { election = e'; rest = r0 }; durable = x0.durable })
  still-leads e' t h =
      let z = mine.leading h in
      record { own = z.own; front = z.front; term = z.term ∙ sym t; some = z.some; own_end = z.own_end; acked = λ k p q. subst (λ u. (xs : Log) × Contains w.holdings (record { member = k; term = u; log = xs }) × (place xs ≡ p)) (sym t) (z.acked k p q) }

  goes_on : (e' : Election) (ps : List Sent) → e'.state ≡ e.state → e'.term ≡ e.term → AllFit ps → Two (record { election = e'; rest = r0; change = Nothing; packets = ps })
  goes_on e' ps st t sent = goes e' r0 ps st t (still-leads e' t) mine.commit sent

  pub same : Two (record { election = e; rest = r0; change = Nothing; packets = [] })
  same = goes_on e [] refl refl none

  pub canvass : (now : ℕ) → Two (record { election = enter_canvass e now; rest = r0; change = Nothing; packets = [] })
  canvass now = leaves (enter_canvass e now) [] refl refl none

  pub named : PacketFits w e.id (CanvassOf (name_of log) e.candidate)
  named = canvass-fits log (f.grounded.anchored m)

  in_canvass-two : (own' : LogName) (now : ℕ) → TwoTurn (in_canvass e own' now)
  in_canvass-two own' now =
      if-cases TwoTurn (nat_le e.deadline now) _ _
      (λ due. if-cases TwoTurn (is_quorum e.members (1 + heard_count e.heard) && not (list_any (heard_better own') e.heard)) _ _
      (λ h. leaves (record e { state = Nominate }) [] refl refl none)
      (λ h. goes_on (record e { deadline = now + 300 + 100 * e.id }) [] refl refl none))
      (λ not_due. if-cases TwoTurn (nat_le e.next now) _ _
      (λ h. goes_on (record e { next = now + 100 }) _ refl refl (others-fit (CanvassOf (name_of log) e.candidate) named))
      (λ h. same))

  nominates-two : (most : ℤ) (now : ℕ) → e.candidate ≤ℤ most → TwoTurn (nominates e most now)
  nominates-two most now high =
      if-cases TwoTurn (int_le (pos (2 ^ 62)) most) _ _
      (λ h. canvass now)
      (λ h. lifted n w m i l up f (record e { candidate = most +ℤ pos 1; voted = Some e.id; votes = set (replicate 5 false) e.id true; deadline = now + 500; state = CandidateBallot }) (most +ℤ pos 1) (Some e.id) _
      (let c = known.candidate in omega (arith, ints, high, c)) refl refl (others-fit (RequestOf (most +ℤ pos 1) (name_of log)) tt))

  in_candidate_ballot-two : (now : ℕ) → e.state ≡ CandidateBallot → TwoTurn (in_candidate_ballot e now)
  in_candidate_ballot-two now at =
      let b = ok.ballot (ap is_balloting at) in
      if-cases TwoTurn (is_quorum e.members (vote_count e.votes)) _ _
      (λ q. begins n w m i l up f (record e { term = e.candidate; leader = Some e.id; state = LeaderInit }) (ap reigns_at at) (ap is_elected at) refl refl known.candidate (f.grounded.raise_low _ b.own)
      (λ r has same_term. no_other_reign n w m r i (ap is_balloting at)
      ((λ k. slice_index_or e.votes k false), is_quorum-votes n e.votes (λ k yes'. i.voters _ (b.votes k yes').1) (subst (λ z. is_quorum z (vote_count e.votes) ≡ true) known.members q), b.votes) has same_term))
      (λ h. if-cases TwoTurn (nat_le e.deadline now) _ _ (λ due. canvass now) (λ not_due. same))

  pub duty-two : (s : State) (own' : LogName) (now : ℕ) → e.state ≡ s → TwoTurn (duty s e own' now)
  duty-two Init own' now at = canvass now
  duty-two Canvass own' now at = in_canvass-two own' now
  duty-two Nominate own' now at = nominates-two (fold later (int_max e.candidate own'.term) e.heard) now
      (let a = fold-later (int_max e.candidate own'.term) e.heard in let b : e.candidate ≤ℤ int_max e.candidate own'.term = grind (arith, ints) in omega (arith, ints, a, b))
  duty-two CandidateBallot own' now at = in_candidate_ballot-two now at
  duty-two FollowerBallot own' now at = if-cases TwoTurn (nat_le e.deadline now) _ _ (λ due. canvass now) (λ not_due. same)
  duty-two LeaderInit own' now at = same
  duty-two LeaderReady own' now at = same
  duty-two FollowerLogReplication own' now at = same
  duty-two FollowerReady own' now at = same
  duty-two Closed own' now at = same

  pub on_request-two : (from : ℕ) (c : ℤ) (name : LogName) (now : ℕ) → TwoTurn (on_request e from c name (name_of log) now)
  on_request-two from c name now =
      let own' = name_of log in
      if-cases TwoTurn (int_lt e.candidate c) _ _
      (λ above.
      let higher : candidate_of w m <ℤ c = (let c = known.candidate in grind (arith, ints)) in
      if-cases TwoTurn (better own'.term own'.place name.term name.place) _ _
      (λ b. lifted n w m i l up f (enter_canvass (record e { candidate = c; voted = None }) now) c None _ higher refl refl (one from (VoteOf c false own') tt))
      (λ b. lifted n w m i l up f (record e { candidate = c; voted = Some from; term = negsuc 0; leader = None; deadline = now + 500; state = FollowerBallot }) c (Some from) _ higher refl refl (one from (VoteOf c true own') tt)))
      (λ low. if-cases TwoTurn (int_le e.candidate c && is_for e.voted from) _ _
      (λ h. goes_on e _ refl refl (one from (VoteOf c true own') tt))
      (λ h. goes_on e _ refl refl (one from (VoteOf c false own') tt)))

  pub on_vote-two : (from : ℕ) (c : ℤ) (given : Bool) → TwoTurn (on_vote e from c given)
  on_vote-two from c given =
      if-cases TwoTurn (given && (is_balloting e.state && (int_le c e.candidate && int_le e.candidate c))) _ _
      (λ h. goes_on (record e { votes = set e.votes from true }) [] refl refl none) (λ h. same)

  pub in_here : (t : ℤ) → is_in e t ≡ true → e.term ≡ t
  in_here t h = let p = and_true (int_le e.term t) (int_le t e.term) h in let a = p.0 in let b = p.1 in grind (arith, ints)

  not_above : (a b : ℤ) → int_lt a b ≡ false → b ≤ℤ a
  not_above a b h = grind (arith, ints)

  follows-two : (from : ℕ) (t : ℤ) (now : ℕ) → int_lt t e.candidate ≡ false → Two (follows e r0 log from t now)
  follows-two from t now low = at (int_lt e.candidate t) refl
    where
      at : (b : Bool) → int_lt e.candidate t ≡ b → Two (record {
        election = record e { candidate = t; voted = (if b then None else e.voted); term = t; leader = Some from; deadline = now + 1000; next = now + 100; state = FollowerLogReplication };
        rest = r0;
        change = (if b then RaiseTo t None else Nothing);
        packets = canvass_to (record e { candidate = t; voted = (if b then None else e.voted); term = t; leader = Some from; deadline = now + 1000; next = now + 100; state = FollowerLogReplication }) from log;
      })
      at true above = lifted n w m i l up f (record e { candidate = t; voted = None; term = t; leader = Some from; deadline = now + 1000; next = now + 100; state = FollowerLogReplication }) t None _
          (let c = known.candidate in grind (arith, ints)) refl refl (one from (CanvassOf (name_of log) t) named)
      at false above = leaves (record e { candidate = t; voted = e.voted; term = t; leader = Some from; deadline = now + 1000; next = now + 100; state = FollowerLogReplication }) _ refl refl (one from (CanvassOf (name_of log) t) named)

  fl : IsWritten log × Rises log
  fl = from_anchor n w m i l up f log refl

  anchored-front : (xs ys : Log) → Leads xs ys → IsAnchored (reign_of w) ys → IsAnchored (reign_of w) xs
  anchored-front xs ys p a zs q some = a zs (prefix-trans zs xs ys q (is_prefix xs ys p)) some

  -- the new log and what the member then holds
  report-new : (x : Member) (ps : List Sent) (t : ℤ) → holds_at x.values.election.state ≡ true → x.values.election.term ≡ t → PacketFits (put w m x [] ps []) m (ReportOf t (place x.durable.log))
  report-new x ps t h is = (x.durable.log, subst (λ z. Contains (put w m x [] ps []).holdings (record { member = m; term = z; log = x.durable.log })) is (Contains-append_right w.holdings (held_by m x) _ (held_by-holds m x h)), refl)

  report-sent : (x : Member) (from : ℕ) (t : ℤ) → holds_at x.values.election.state ≡ true → x.values.election.term ≡ t → (s : Sent) → Contains (one_to e from (ReportOf t (place x.durable.log))) s → PacketFits (put w m x [] (one_to e from (ReportOf t (place x.durable.log))) []) (sender_of s.packet) (says s.packet)
  report-sent x from t h is =
      let ps = one_to e from (ReportOf t (place x.durable.log)) in
      let w' = put w m x [] ps [] in
      one_to-all (λ s. PacketFits w' (sender_of s.packet) (says s.packet)) e from (ReportOf t (place x.durable.log)) (subst (λ z. PacketFits w' z (ReportOf t (place x.durable.log))) (sym known.id) (report-new x ps t h is))

  canvass-sent : (x : Member) (from : ℕ) (c : ℤ) → reigns_at e.state ≡ false → IsAnchored (reign_of w) x.durable.log → (s : Sent) → Contains (one_to e from (CanvassOf (name_of x.durable.log) c)) s → PacketFits (put w m x [] (one_to e from (CanvassOf (name_of x.durable.log) c)) []) (sender_of s.packet) (says s.packet)
  canvass-sent x from c h anch =
      let ps = one_to e from (CanvassOf (name_of x.durable.log) c) in
      let w' = put w m x [] ps [] in
      one_to-all (λ s. PacketFits w' (sender_of s.packet) (says s.packet)) e from (CanvassOf (name_of x.durable.log) c)
      (subst (λ z. place x.durable.log ≤ place z) (sym (reign-stays n w m x [] ps f (λ k. absurd (cc)) (last x.durable.log))) (canvass-fits x.durable.log anch))

  cuts-two : (from : ℕ) (a : Log) (t : ℤ) (asked keep : LogName) (now : ℕ) → e.state ≡ FollowerLogReplication → e.term ≡ t → asked ≡ name_of log
      → IsPrefixOf a (reign_of w t) → last a ≡ t → a ≢ [] → keep.term ≡ answer_term a asked.term → keep.place ≡ answer_end a asked.term → (asked.term ≡ t → asked.place ≤ keep.place)
      → Two (cuts e r0 log from keep now)
  cuts-two from a t asked keep now at is_t is_asked front last_t some ut et ep =
      let g = f.grounded in
      let left = kept keep.term keep.place log in
      let cand : e.term ≡ x0.durable.candidate = ok.term (ap has_term at) in
      let lf : Leads left log = kept_from-front 0 keep.term keep.place log in
      let anch : IsAnchored (reign_of w) left = anchored-front left log lf (g.anchored m) in
      let low : last left ≤ℤ x0.durable.candidate = (let z = last-up (negsuc 0) left log fl.1 lf in let y = f.low m in omega (arith, ints, z, y)) in
      let keeps' : (u : ℤ) (xs : Log) → IsOpen (view_of w) u xs → Holds (view_of w) m u xs → IsPrefixOf xs left = λ u xs p h.
      is_prefix xs left (open-kept n w m i l up f a t asked keep is_asked (sym is_t ∙ cand) front last_t some ut et ep u xs p h) in
      let keeps_s : (xs : Log) → IsSettled (view_of w) x0.durable.candidate xs → Leads xs log → Leads xs left = settled-kept n w m i l up f a t asked keep is_asked (sym is_t ∙ cand) front last_t some ut et ep in
      if-cases Two (nat_lt (length left) r0.commit) _ _
      (λ h. same)
      (λ enough.
      let short : r0.commit ≤ length left = grind (arith, nat_tests, enough) in
      let com' : (r0.commit ≤ length left) × IsSettled (view_of w) x0.durable.candidate (take r0.commit left) = (short, subst (IsSettled (view_of w) x0.durable.candidate) (take-front r0.commit left log lf short) mine.commit.1) in
      if-cases Two (int_le (last left) keep.term && int_le keep.term (last left)) _ _
      (λ b.
      let matched : last left ≡ keep.term = (let p = and_true (int_le (last left) keep.term) (int_le keep.term (last left)) b in let x = p.0 in let y = p.1 in grind (arith, ints)) in
      let u = upto (last log) a in
      let asked_t : asked.term ≡ last log = ap (λ (z : LogName). z.term) is_asked in
      let fa = leads a (reign_of w t) front in
      let fu : Leads u a = upto-front (last log) a in
      let is_u : keep.term ≡ last u = ut ∙ ap (answer_term a) asked_t in
      let is_e : keep.place ≡ place u = et ∙ ap (answer_end a) asked_t in
      let at_reign : Leads u (reign_of w t) = Leads-trans u a (reign_of w t) fu fa in
      let eq : kept keep.term keep.place log ≡ kept (last u) (place u) log = (λ j. kept (is_u j) (is_e j) log) in
      let of_u : Leads (kept (last u) (place u) log) u = matched-kept (reign_of w) log u fl.0 (IsWritten-front u (reign_of w t) at_reign (g.written t)) g.written (g.anchored m) (anchored-front u (reign_of w t) at_reign (g.reign_anchored t))
      (ap last (sym eq) ∙ matched ∙ is_u) in
      let in_reign : Leads left (reign_of w t) = Leads-trans left u (reign_of w t) (subst (λ z. Leads z u) (sym eq) of_u) at_reign in
      relogs n w m i l up f (record e { deadline = now + 1000; state = FollowerReady }) r0 (CutTo left) _ left tt refl (ap reigns_at at) refl anch low keeps' keeps_s
      (λ h. (cand, subst (λ z. IsPrefixOf left (reign_of w z)) (sym is_t) (is_prefix left (reign_of w t) in_reign))) com'
      (report-sent (record { up = true; values = record { election = record e { deadline = now + 1000; state = FollowerReady }; rest = r0 }; durable = record x0.durable { log = left } }) from e.term refl refl))
      (λ b. relogs n w m i l up f (record e { deadline = now + 1000 }) r0 (CutTo left) _ left tt refl (ap reigns_at at) (ap reigns_at at) anch low keeps' keeps_s
      (λ h. absurd (let z = ap holds_at at in cc)) com'
      (canvass-sent (record { up = true; values = record { election = record e { deadline = now + 1000 }; rest = r0 }; durable = record x0.durable { log = left } }) from e.candidate (ap reigns_at at) anch)))

  on_new_term_at-two : (s : State) (from : ℕ) (t : ℤ) (answer : Option (LogName × LogName)) (now : ℕ) → e.state ≡ s → int_lt t e.candidate ≡ false
      → ((a : LogName × LogName) → answer ≡ Some a → PacketFits w from (AnswerOf t a.0 a.1)) → Two (on_new_term_at s e r0 log from t answer now)
  on_new_term_at-two FollowerReady from t answer now at low ok' =
      if-cases Two (is_in e t) _ _ (λ h. goes_on (record e { deadline = now + 1000 }) [] refl refl none) (λ h. follows-two from t now low)
  on_new_term_at-two FollowerLogReplication from t (Some a) now at low ok' =
      let p = ok' a refl in
      if-cases Two (is_in e t) _ _
      (λ h. if-cases Two (same_name a.0 (name_of log)) _ _
      (λ b. cuts-two from p.0 t a.0 a.1 now at (in_here t h) (same_name-is a.0 (name_of log) b) p.1 p.2 p.3 p.4 p.5 p.6)
      (λ b. goes_on (record e { deadline = now + 1000 }) _ refl refl (one from (CanvassOf (name_of log) e.candidate) named)))
      (λ h. follows-two from t now low)
  on_new_term_at-two FollowerLogReplication from t None now at low ok' = follows-two from t now low
  on_new_term_at-two LeaderInit from t answer now at low ok' = if-cases Two (is_in e t) _ _ (λ h. same) (λ h. follows-two from t now low)
  on_new_term_at-two LeaderReady from t answer now at low ok' = if-cases Two (is_in e t) _ _ (λ h. same) (λ h. follows-two from t now low)
  on_new_term_at-two _ from t answer now at low ok' = follows-two from t now low

  pub on_new_term-two : (from : ℕ) (t : ℤ) (answer : Option (LogName × LogName)) (now : ℕ) → ((a : LogName × LogName) → answer ≡ Some a → PacketFits w from (AnswerOf t a.0 a.1)) → Two (on_new_term e r0 log from t answer now)
  on_new_term-two from t answer now ok' = if-cases Two (int_lt t e.candidate) _ _ (λ h. same) (λ h. on_new_term_at-two e.state from t answer now refl h ok')

  -- P13: what a leader answers
  pub on_canvass-two : (s : State) (from : ℕ) (name : LogName) (c : ℤ) (now : ℕ) → e.state ≡ s → PacketFits w from (CanvassOf name c) → Two (on_canvass_at s e r0 log from name c now)
  on_canvass-two Canvass from name c now at sent = goes_on (record e { heard = set e.heard from (Some (record { term = name.term; place = name.place; candidate = c })) }) [] refl refl none
  on_canvass-two LeaderReady from name c now at sent =
      if-cases Two (int_lt e.term c) _ _
      (λ h. canvass now)
      (λ h.
      let lead = mine.leading (ap is_leader_ready at) in
      let reign = mine.reigns (ap reigns_at at) in
      let term : last log ≡ e.term = last-own lead.own log (leads lead.own log lead.front) lead.term (ok.term (ap has_term at)) refl in
      let some : log ≢ [] = not-none lead.own log lead.some lead.front in
      goes_on e _ refl refl (one from (AnswerOf e.term name (record { term = answer_term log name.term; place = answer_end log name.term }))
      (log, same-prefix log (reign_of w e.term) reign.0, term, some, refl, refl, λ asked_t. answers name e.term log asked_t (subst (λ z. name.place ≤ place z) (ap (reign_of w) asked_t ∙ reign.0) sent) term fl)))
    where
      last-own : (xs ys : Log) → Leads xs ys → last xs ≡ e.term → e.term ≡ x0.durable.candidate → ys ≡ log → last ys ≡ e.term
      last-own xs ys p t c is =
          let a = last-up (negsuc 0) xs ys (subst Rises (sym is) fl.1) p in
          let b : last ys ≤ℤ x0.durable.candidate = subst (λ z. last z ≤ℤ x0.durable.candidate) (sym is) (f.low m) in
          omega (arith, ints, a, b, t, c)

      answers : (name : LogName) (t : ℤ) (xs : Log) → name.term ≡ t → name.place ≤ place xs → last xs ≡ t → IsWritten xs × Rises xs → name.place ≤ answer_end xs name.term
      answers name t xs asked_t h lt wr =
          let u = upto name.term xs in
          let in_u : Leads xs u = upto-holds name.term xs xs (Leads-self xs) (Within-last (negsuc 0) name.term xs wr.1 (omega (arith, ints, asked_t, lt))) in
          let z = place-up 0 xs u (IsWritten-front u xs (upto-front name.term xs) wr.0) in_u in
          omega (arith, z, h)
  on_canvass-two _ from name c now at sent = same

  -- P14
  pub on_report-two : (s : State) (from : ℕ) (t : ℤ) (p now : ℕ) → e.state ≡ s → PacketFits w from (ReportOf t p) → Two (on_report_at s e r0 from t p now)
  on_report-two LeaderReady from t p now at sent =
      if-cases Two (is_in e t) _ _
      (λ h. goes e (record r0 { acked = set r0.acked from (Some (max p (unwrap_or (slice_index_or r0.acked from None) 0))); last_heard = set r0.last_heard from now }) [] refl refl
      (λ lr. let z = mine.leading lr in record {
        own = z.own;
        front = z.front;
        term = z.term;
        some = z.some;
        own_end = z.own_end;
        acked = λ k q is. acks k q is z.acked (subst (λ u. (xs : Log) × Contains w.holdings (record { member = from; term = u; log = xs }) × (place xs ≡ p)) (sym (in_here t h)) sent);
      }) mine.commit none)
      (λ h. same)
    where
      pick : (a : Option ℕ) → ((q : ℕ) → a ≡ Some q → (xs : Log) × Contains w.holdings (record { member = from; term = e.term; log = xs }) × (place xs ≡ q)) → (xs : Log) × Contains w.holdings (record { member = from; term = e.term; log = xs }) × (place xs ≡ p) → (xs : Log) × Contains w.holdings (record { member = from; term = e.term; log = xs }) × (place xs ≡ max p (unwrap_or a 0))
      pick None old new = (new.0, new.1, (let z = new.2 in omega (arith, z)))
      pick (Some q) old new = max-either (λ z. (xs : Log) × Contains w.holdings (record { member = from; term = e.term; log = xs }) × (place xs ≡ z)) p q new (old q refl)

      acks : (k q : ℕ) → slice_index_or (set r0.acked from (Some (max p (unwrap_or (slice_index_or r0.acked from None) 0)))) k None ≡ Some q
          → ((k q : ℕ) → slice_index_or r0.acked k None ≡ Some q → (xs : Log) × Contains w.holdings (record { member = k; term = e.term; log = xs }) × (place xs ≡ q))
          → (xs : Log) × Contains w.holdings (record { member = from; term = e.term; log = xs }) × (place xs ≡ p)
          → (xs : Log) × Contains w.holdings (record { member = k; term = e.term; log = xs }) × (place xs ≡ q)
      acks k q is old new = elim (cases_eq k from) [
        | inr ne ↦ old k q (sym (get_or-set_other r0.acked from k (Some (max p (unwrap_or (slice_index_or r0.acked from None) 0))) None ne) ∙ is)
        | inl same_k ↦ elim (cases_lt from (length r0.acked)) [
          | inl inside ↦
              let there : Some (max p (unwrap_or (slice_index_or r0.acked from None) 0)) ≡ Some q = sym (get_or-set_same r0.acked from (Some (max p (unwrap_or (slice_index_or r0.acked from None) 0))) None inside) ∙ subst (λ z. slice_index_or (set r0.acked from (Some (max p (unwrap_or (slice_index_or r0.acked from None) 0)))) z None ≡ Some q) same_k is in
              let num : max p (unwrap_or (slice_index_or r0.acked from None) 0) ≡ q = some-same _ _ there in
              subst (λ z. (xs : Log) × Contains w.holdings (record { member = z; term = e.term; log = xs }) × (place xs ≡ q)) (sym same_k)
              (subst (λ z. (xs : Log) × Contains w.holdings (record { member = from; term = e.term; log = xs }) × (place xs ≡ z)) num (pick (slice_index_or r0.acked from None) (old from) new))
          | inr outside ↦ absurd (let z = get_or_past (set r0.acked from (Some (max p (unwrap_or (slice_index_or r0.acked from None) 0)))) k None (let y = length-set r0.acked from (Some (max p (unwrap_or (slice_index_or r0.acked from None) 0))) in omega (arith, outside, same_k, y)) in cc)
        ]
      ]
  on_report-two _ from t p now at sent = same

  -- P17
  pub on_commit-two : (s : State) (from : ℕ) (t : ℤ) (c now : ℕ) → e.state ≡ s → PacketFits w from (CommitOf t c) → Two (on_commit_at s e r0 log t c now)
  on_commit-two FollowerReady from t c now at sent =
      if-cases Two (is_in e t) _ _
      (λ h.
      let is_t = in_here t h in
      let cand : t ≡ x0.durable.candidate = sym is_t ∙ ok.term (ap has_term at) in
      let ours : Leads log (reign_of w t) = subst (λ z. Leads log (reign_of w z)) is_t (leads log (reign_of w e.term) (mine.holds (ap holds_at at)).0) in
      let ys = take (entries_to c log) log in
      let front : Leads ys log = take-leads (entries_to c log) log in
      let low : place ys ≤ c = entries_to-place 0 c log (omega arith) in
      let in_x : Leads ys sent.0 = Leads-by_place 0 ys sent.0 (reign_of w t) (f.grounded.written t) (Leads-trans ys log (reign_of w t) front ours) (leads sent.0 (reign_of w t) sent.1) (let z = sent.2 in omega (arith, low, z)) in
      goes (record e { deadline = now + 1000 }) (record r0 { commit = max r0.commit (entries_to c log) }) [] refl refl (λ lr. absurd (let z = ap is_leader_ready at in cc))
      (max-either (λ z. (z ≤ length log) × IsSettled (view_of w) x0.durable.candidate (take z log)) r0.commit (entries_to c log) mine.commit
      (entries_to-short 0 c log, settled-front w x0.durable.candidate ys sent.0 in_x (subst (λ z. IsSettled (view_of w) z sent.0) cand sent.3))) none)
      (λ h. same)
  on_commit-two _ from t c now at sent = same

  -- P16
  pub on_batch-two : (s : State) (from : ℕ) (t : ℤ) (start : ℕ) (entries : Log) (now : ℕ) → e.state ≡ s → PacketFits w from (BatchOf t start entries) → Two (on_batch_at s e r0 log from t start entries now)
  on_batch-two FollowerReady from t start entries now at sent =
      if-cases Two (is_in e t) _ _
      (λ h.
      let g = f.grounded in
      let is_t = in_here t h in
      let cand : e.term ≡ x0.durable.candidate = ok.term (ap has_term at) in
      let ours : Leads log (reign_of w t) = subst (λ z. Leads log (reign_of w z)) is_t (leads log (reign_of w e.term) (mine.holds (ap holds_at at)).0) in
      let new = log ++ past start (place log) entries in
      if-cases Two (nat_le start (place log)) _ _
      (λ b.
      let begun : place sent.0 ≤ place log = (let z = sent.1 in grind (arith, nat_tests, z, b)) in
      let added : Leads new (reign_of w t) = subst (λ z. Leads (log ++ past z (place log) entries) (reign_of w t)) sent.1 (piece-added 0 sent.0 entries log (reign_of w t) (g.written t) (leads (sent.0 ++ entries) (reign_of w t) sent.2) ours begun) in
      let longer : Leads log new = Leads-append log (past start (place log) entries) in
      let low : last new ≤ℤ x0.durable.candidate = low_of new t added (sym is_t ∙ cand) in
      let x : Member = record { up = true; values = record { election = record e { deadline = now + 1000 }; rest = r0 }; durable = record x0.durable { log = new } } in
      relogs n w m i l up f (record e { deadline = now + 1000 }) r0 (Append (past start (place log) entries)) _ new tt refl (ap reigns_at at) (ap reigns_at at)
      (anchored-front new (reign_of w t) added (g.reign_anchored t)) low
      (λ u xs p h. prefix-trans xs log new (f.agreed.logs u xs m p h) (is_prefix log new longer))
      (λ xs st p. Leads-trans xs log new p longer)
      (λ hold. (cand, subst (λ z. IsPrefixOf new (reign_of w z)) (sym is_t) (is_prefix new (reign_of w t) added)))
      ((let a = length-up log new longer in let c = mine.commit.0 in omega (arith, a, c)), subst (IsSettled (view_of w) x0.durable.candidate) (sym (take-front r0.commit log new longer mine.commit.0)) mine.commit.1)
      (report-sent x from e.term (ap holds_at at) refl))
      (λ b. goes_on (record e { deadline = now + 1000 }) _ refl refl (one from (ReportOf e.term (place log)) (subst (λ z. PacketFits w z (ReportOf e.term (place log))) (sym known.id) (log, (mine.holds (ap holds_at at)).1, refl)))))
      (λ h. same)
    where
      low_of : (xs : Log) (t : ℤ) → Leads xs (reign_of w t) → t ≡ x0.durable.candidate → last xs ≤ℤ x0.durable.candidate
      low_of [] t p c = (let a = f.low m in let b = last-up (negsuc 0) [] log fl.1 tt in omega (arith, ints, a, b))
      low_of (y ∷ ys) t p c =
          let a = last-up (negsuc 0) (y ∷ ys) (reign_of w t) (f.grounded.rises t) p in
          let b = f.grounded.top t (not-none (y ∷ ys) (reign_of w t) (λ z. cc) (is_prefix (y ∷ ys) (reign_of w t) p)) in
          omega (arith, ints, a, b, c)
  on_batch-two _ from t start entries now at sent = same

  -- P18
  pub sends_status-two : (p : Said) (now : ℕ) → PacketFits w e.id p → Two (sends_status e r0 p now)
  sends_status-two p now h =
      if-cases Two (nat_le e.deadline now) _ _
      (λ due. canvass now)
      (λ early. if-cases Two (nat_le e.next now) _ _ (λ b. goes_on (record e { next = now + 100 }) _ refl refl (one (unwrap_or e.leader 0) p h)) (λ b. same))
