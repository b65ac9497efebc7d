-- How a member's commit moves in a row.
use Rattle.std.proofs.Common.{◌≡◌, ◌⊎◌, inl, inr, ℕ, ◌≤◌, Bool, true, false, ◌&&◌, ◌||◌, List, [], ◌∷◌, max, map, refl, ◌∙◌, sym, ap, arith, ℤ}
use Rattle.std.specs.Prelude.{not, nat_le, int_lt, unsigned_abs, take}
use Rattle.cl_base.specs.declared.entry.Entry.{Entry}
use Rattle.entry_log.specs.Log.{Log, same_term}
use Rattle.entry_log.specs.Shape.{Shape, end_of, ends_by, last_term_of}
use Rattle.entry_log.specs.declared.name.LogName.{LogName}
use Rattle.log_replication.specs.Commits.{quorum_position}
use Rattle.election.specs.Rows.{enter_canvass}
use Rattle.election.specs.declared.member.Election.{Election}
use Rattle.election.specs.declared.member.State.{State}
use Rattle.election.specs.declared.member.State.TheVariants.{Init, Canvass, Nominate, CandidateBallot, FollowerBallot, LeaderInit, LeaderReady, FollowerLogReplication, FollowerReady, Closed}
use Rattle.sbe_events.specs.declared.event.Event.{Event}
use Rattle.sbe_consensus.specs.declared.packet.Packet.{Packet}
use Rattle.sbe_consensus.specs.declared.packet.Packet.TheVariants as P
use Rattle.consensus_core.specs.declared.change.Change.{Change}
use Rattle.consensus_core.specs.declared.rest.Rest.{Rest}
use Rattle.consensus_core.specs.declared.row.Row.{Row}
use Rattle.consensus_core.specs.declared.plan.Plan.{Plan}
use Rattle.consensus_core.specs.declared.values.Values.{Values}
use Rattle.consensus_core.specs.Member.{is_ready}
use Rattle.consensus_core.specs.Rows.{only, kept_count, is_in, cuts, same_name, name_of_shape, on_answer, is_announcement, on_new_term_at, on_new_term, on_canvass_at, on_report_at, appends, on_batch_at, on_commit_at}
use Rattle.consensus_core.specs.Reign.{entry_of, term_event, begins_reign, admitted, end_limit, commit_after, reports, has_quorum, beats_next, reigns, sends_status, duty_at, does_duty}
use Rattle.consensus_core.specs.Sendable.{is_sendable, receives_row, receives}
use Rattle.consensus_core.proofs.Fitting.{choice}
use Rattle.consensus_agent.specs.Sound.{is_cut, ends_phase}

-- the commit stays, or it rises in a row that doesn't end the phase
abbrev pub Moves : Rest → Bool → Row → Type 0
Moves r was row = (row.values.rest.commit ≡ r.commit) ⊎ ((r.commit ≤ row.values.rest.commit) × (ends_phase was row.change row.values.election.state ≡ false))

not_both : (b : Bool) → (b && not b) ≡ false
not_both true = refl
not_both false = refl

neither : (a b : Bool) → a ≡ false → b ≡ false → (a || b) ≡ false
neither true b h k = absurd (cc)
neither false b h k = k

no_cut : (new : Log) → is_cut (appends new) ≡ false
no_cut [] = refl
no_cut (x ∷ xs) = refl

module _ (e : Election) (r : Rest) where
  abbrev Keeps : Row → Type 0
  Keeps x = x.values.rest.commit ≡ r.commit

  cuts_keep : (xs : Shape) (from : ℕ) (keep : LogName) (now : ℕ) → Keeps (cuts e r xs from keep now)
  cuts_keep xs from keep now = choice Keeps (same_term (last_term_of (take (kept_count keep.term keep.place xs) xs)) keep.term) _ _ (λ h. refl) (λ h. refl)

  answer_keeps : (xs : Shape) (from : ℕ) (asked keep : LogName) (now : ℕ) → Keeps (on_answer e r xs from asked keep now)
  answer_keeps xs from asked keep now = choice Keeps (same_name asked (name_of_shape xs)) _ _ (λ h. cuts_keep xs from keep now) (λ h. refl)

  new_term_at_keeps : (s : State) (xs : Shape) (from : ℕ) (t : ℤ) (asked keep : LogName) (now : ℕ) → Keeps (on_new_term_at s e r xs from t asked keep now)
  new_term_at_keeps FollowerReady xs from t asked keep now = refl
  new_term_at_keeps FollowerLogReplication xs from t asked keep now = choice Keeps (is_announcement asked) _ _ (λ h. refl) (λ h. answer_keeps xs from asked keep now)
  new_term_at_keeps LeaderInit xs from t asked keep now = refl
  new_term_at_keeps LeaderReady xs from t asked keep now = refl
  new_term_at_keeps _ xs from t asked keep now = refl

  new_term_keeps : (xs : Shape) (from : ℕ) (t : ℤ) (asked keep : LogName) (now : ℕ) → Keeps (on_new_term e r xs from t asked keep now)
  new_term_keeps xs from t asked keep now =
      choice Keeps (int_lt t e.candidate) _ _ (λ h. refl) (λ h. choice Keeps (is_in e t) _ _ (λ g. new_term_at_keeps e.state xs from t asked keep now) (λ g. refl))

  canvass_keeps : (s : State) (from : ℕ) (name : LogName) (c : ℤ) (now : ℕ) → Keeps (on_canvass_at s e r from name c now)
  canvass_keeps Canvass from name c now = refl
  canvass_keeps LeaderReady from name c now = choice Keeps (int_lt e.term c) _ _ (λ h. refl) (λ h. refl)
  canvass_keeps _ from name c now = refl

  report_keeps : (s : State) (from : ℕ) (t : ℤ) (p now : ℕ) → Keeps (on_report_at s e r from t p now)
  report_keeps LeaderReady from t p now = choice Keeps (is_in e t) _ _ (λ h. refl) (λ h. refl)
  report_keeps _ from t p now = refl

  batch_keeps : (s : State) (xs : Shape) (from : ℕ) (t : ℤ) (start : ℕ) (es : Log) (now : ℕ) → Keeps (on_batch_at s e r xs from t start es now)
  batch_keeps FollowerReady xs from t start es now = choice Keeps (is_in e t) _ _ (λ h. refl) (λ h. refl)
  batch_keeps _ xs from t start es now = refl

  status_keeps : (p : Plan) (now : ℕ) → Keeps (sends_status e r p now)
  status_keeps p now = choice Keeps (nat_le e.deadline now) _ _ (λ h. refl) (λ h. choice Keeps (nat_le e.next now) _ _ (λ g. refl) (λ g. refl))

  begins_keep : (xs : Shape) (x : Entry) (now : ℕ) → Keeps (begins_reign e r xs x now)
  begins_keep xs x now = choice Keeps _ _ _ (λ h. refl) (λ h. refl)

  abbrev M : Row → Type 0
  M x = Moves r (is_ready e.state) x

  commit_moves : (s : State) (xs : Shape) (t : ℤ) (c now : ℕ) → M (on_commit_at s e r xs t c now)
  commit_moves FollowerReady xs t c now = choice M (is_in e t) _ _ (λ h. inr (omega arith, not_both (is_ready e.state))) (λ h. inl refl)
  commit_moves _ xs t c now = inl refl

  commit_rises : (xs : Shape) → r.commit ≤ commit_after e r xs
  commit_rises xs =
      let q : ℕ = quorum_position (reports e.members e.id (end_of xs) r.acked) in
      choice (λ c. r.commit ≤ c) (nat_le r.own_end q) (max r.commit (ends_by q xs)) r.commit (λ h. omega arith) (λ h. omega arith)

  reigns_move : (xs : Shape) (due : Log) (now : ℕ) → M (reigns e r xs due now)
  reigns_move xs due now =
      let c : ℕ = commit_after e r xs in
      let new : Log = admitted (end_of xs) (end_limit xs c) due in
      choice M (has_quorum e r now) (beats_next e r c new now) (only (enter_canvass e now) r)
      (λ h. inr (commit_rises xs, neither (is_cut (appends new)) (is_ready e.state && not (is_ready e.state)) (no_cut new) (not_both (is_ready e.state))))
      (λ h. inl refl)

packet_moves : (v : Values) (xs : Shape) (p : Packet) (now : ℕ) → Moves v.rest (is_ready v.election.state) (receives_row v xs p now)
packet_moves v xs (P.Canvass log_term log_position candidate_term member) now = inl (canvass_keeps v.election v.rest v.election.state (unsigned_abs member) _ candidate_term now)
packet_moves v xs (P.RequestVote log_term log_position candidate_term candidate) now = inl refl
packet_moves v xs (P.Vote candidate_term log_term log_position candidate follower vote) now = inl refl
packet_moves v xs (P.NewTerm asked_term asked_position keep_term keep_position term leader) now = inl (new_term_keeps v.election v.rest xs (unsigned_abs leader) term _ _ now)
packet_moves v xs (P.Append term position member) now = inl (report_keeps v.election v.rest v.election.state (unsigned_abs member) term (unsigned_abs position) now)
packet_moves v xs (P.Commit term position leader) now = commit_moves v.election v.rest v.election.state xs term (unsigned_abs position) now
packet_moves v xs (P.LogBatch term start_position leader entries) now = inl (batch_keeps v.election v.rest v.election.state xs (unsigned_abs leader) term (unsigned_abs start_position) entries now)

-- of a packet's row
pub receives_moves : (v : Values) (xs : Shape) (p : Packet) (now : ℕ) → Moves v.rest (is_ready v.election.state) (receives v xs p now)
receives_moves v xs p now = choice (Moves v.rest (is_ready v.election.state)) (is_sendable v xs p) _ _ (λ h. packet_moves v xs p now) (λ h. inl refl)

duty_moves_at : (s : State) (v : Values) (xs : Shape) (due : List Event) (now : ℕ) → Moves v.rest (is_ready v.election.state) (duty_at s v xs due now)
duty_moves_at LeaderInit v xs due now = inl (begins_keep v.election v.rest xs (entry_of (term_event v.election.term (end_of xs) now v.election.id)) now)
duty_moves_at LeaderReady v xs due now = reigns_move v.election v.rest xs (map entry_of due) now
duty_moves_at FollowerReady v xs due now = inl (status_keeps v.election v.rest _ now)
duty_moves_at FollowerLogReplication v xs due now = inl (status_keeps v.election v.rest _ now)
duty_moves_at Init v xs due now = inl refl
duty_moves_at Canvass v xs due now = inl refl
duty_moves_at Nominate v xs due now = inl refl
duty_moves_at CandidateBallot v xs due now = inl refl
duty_moves_at FollowerBallot v xs due now = inl refl
duty_moves_at Closed v xs due now = inl refl

-- of a duty's
pub duty_moves : (v : Values) (xs : Shape) (due : List Event) (now : ℕ) → Moves v.rest (is_ready v.election.state) (does_duty v xs due now)
duty_moves v xs due now = duty_moves_at v.election.state v xs due now

-- so the commit never falls
pub rises_of : (r : Rest) (was : Bool) (x : Row) → Moves r was x → r.commit ≤ x.values.rest.commit
rises_of r was x (inl h) = omega (arith, h)
rises_of r was x (inr h) = h.0

either : (a b : Bool) → (a || b) ≡ true → a ≡ false → b ≡ true
either true b h k = absurd (cc)
either false b h k = h

-- and it stays in a row that ends the phase
still_of : (r : Rest) (was : Bool) (row : Row) (old new : Bool) → Moves r was row → new ≡ (old || ends_phase was row.change row.values.election.state) → new ≡ true → old ≡ false → row.values.rest.commit ≡ r.commit
still_of r was row old new (inl h) is over before = h
still_of r was row old new (inr h) is over before =
    absurd (let e : ends_phase was row.change row.values.election.state ≡ true = either old (ends_phase was row.change row.values.election.state) (sym is ∙ over) before in let f = h.1 in cc)

-- the same of the member's values after the row
pub row_rises : (v w : Values) (row : Row) → Moves v.rest (is_ready v.election.state) row → w ≡ row.values → v.rest.commit ≤ w.rest.commit
row_rises v w row moves is = let a = rises_of v.rest _ row moves in let b : w.rest.commit ≡ row.values.rest.commit = ap (λ (x : Values). x.rest.commit) is in omega (arith, a, b)

pub row_still : (v w : Values) (row : Row) (c : Change) (s : State) (was old new : Bool) → Moves v.rest (is_ready v.election.state) row → w ≡ row.values → c ≡ row.change → s ≡ row.values.election.state → was ≡ is_ready v.election.state
    → new ≡ (old || ends_phase was c s) → new ≡ true → old ≡ false → w.rest.commit ≡ v.rest.commit
row_still v w row c s was old new moves is cs ss ws over now before =
    let b : w.rest.commit ≡ row.values.rest.commit = ap (λ (x : Values). x.rest.commit) is in
    let ends : ends_phase was c s ≡ ends_phase (is_ready v.election.state) row.change row.values.election.state =
    ap (λ z. ends_phase z c s) ws ∙ ap (λ z. ends_phase (is_ready v.election.state) z s) cs ∙ ap (λ z. ends_phase (is_ready v.election.state) row.change z) ss in
    b ∙ still_of v.rest (is_ready v.election.state) row old new moves (over ∙ ap (λ z. old || z) ends) now before
