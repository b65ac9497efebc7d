-- What a row leaves of a reign: its log, the states in which its member reigns, and the terms that are raised.
use Rattle.std.proofs.Common.{◌≡◌, ◌⊎◌, inl, inr, ℕ, ◌+◌, ◌*◌, ◌^◌, Bool, true, false, not, ◌&&◌, List, [], ◌∷◌, ◌++◌, length, set, replicate, refl, sym, ap, ◌∙◌, arith, ℤ, pos, negsuc, ◌+ℤ◌, ◌≤ℤ◌, Some, None, Option, max, if◌then◌else◌}
use Rattle.std.specs.Prelude.{Contains, nat_le, nat_lt, int_lt, int_le, fold, ⊤}
use Rattle.std.specs.List.{list_any}
use Rattle.std.specs.Int.{int_max}
use Rattle.std.proofs.lemmas.Int.{ints}
use Rattle.cl_base.specs.declared.entry.Entry.{Entry}
use Rattle.entry_log.specs.declared.name.LogName.{LogName}
use Rattle.entry_log.specs.Log.{Log, name_of, better, last, place}
use Rattle.election.specs.declared.member.State.{State}
use Rattle.election.specs.declared.member.State.TheVariants.{Init, Canvass, Nominate, CandidateBallot, FollowerBallot, LeaderInit, LeaderReady, FollowerLogReplication, FollowerReady, Closed}
use Rattle.election.specs.declared.member.Election.{Election}
use Rattle.election.specs.Rows.{Turn, duty, in_canvass, nominates, in_candidate_ballot, on_request, on_vote, enter_canvass, is_balloting, heard_count, heard_better, vote_count, later, is_for}
use Rattle.election.specs.Rows.{is_running as is_awake}
use Rattle.entry_log.specs.Quorum.{is_quorum}
use Rattle.log_replication.specs.Replication.{kept, past}
use Rattle.log_replication.specs.Prefixes.{Leads, Leads-self, Leads-append}
use Rattle.world.specs.World.{World, Raise, reigns_at}
use Rattle.consensus_core.specs.Member.{Member, Sent}
use Rattle.consensus_core.specs.declared.rest.Rest.{Rest}
use Rattle.world.specs.Said.{Said, CanvassOf, RequestOf, VoteOf, AnnounceOf, AnswerOf, ReportOf, CommitOf, BatchOf}
use Rattle.world.proofs.LogRows.{Outcome, Change, Nothing, RaiseTo, Append, CutTo, changed, outcome_of, receives, receives_row, does_duty, duty_at, client_at, follows, canvass_to, cuts, on_new_term, on_new_term_at, on_canvass_at, on_report_at, on_commit_at, on_batch_at, commit_after, in_leader_init, in_leader_ready, are_own, sends_status}
use Rattle.world.specs.World.{term_entry}
use Rattle.consensus_core.specs.Rows.{same_name, is_in}
use Rattle.consensus_core.specs.OverLog.{entries_to}
use Rattle.consensus_core.specs.Reign.{count_recent}
use Rattle.world.proofs.Effects.{if-cases}

-- a term within the limit, or one that a raise has already
abbrev pub IsLow : World → ℤ → Type 0
IsLow w c = (c ≤ℤ pos (2 ^ 62)) ⊎ ((r : Raise) × Contains w.raises r × (r.term ≡ c))

abbrev pub LowChange : World → Change → Type 0
LowChange w Nothing = ⊤
LowChange w (RaiseTo c None) = ⊤
LowChange w (RaiseTo c (Some k)) = IsLow w c
LowChange w (Append es) = ⊤
LowChange w (CutTo left) = ⊤

-- a member's term's entry, at its log's end
abbrev pub opening : Member → ℕ → Entry
opening x now = term_entry x.values.election.term (place x.durable.log) now x.values.election.id

-- the log of a reigning member goes on to this one: as it was, with its term's entry, or with these
abbrev pub LogsOn : Member → ℕ → Log → Log → Type 0
LogsOn x now own log =
    (log ≡ x.durable.log)
    ⊎ (((x.values.election.state ≡ LeaderInit) × (nat_lt 16777216 (place (x.durable.log ++ opening x now ∷ [])) ≡ false) × (log ≡ x.durable.log ++ opening x now ∷ []))
    ⊎ ((x.values.election.state ≡ LeaderReady) × (log ≡ x.durable.log ++ own)))

pub record Reigning (x : Member) (now : ℕ) (own : Log) (e : Election) (log : Log) : Type 0 where
  pub on : reigns_at x.values.election.state ≡ true → LogsOn x now own log
  pub init : e.state ≡ LeaderInit → (log ≡ x.durable.log) × (((x.values.election.state ≡ LeaderInit) × (e.term ≡ x.values.election.term)) ⊎ (reigns_at x.values.election.state ≡ false))
  pub ready : e.state ≡ LeaderReady → (e.term ≡ x.values.election.term) × (((x.values.election.state ≡ LeaderReady) × Leads x.durable.log log) ⊎ ((x.values.election.state ≡ LeaderInit) × (log ≡ x.durable.log ++ opening x now ∷ [])))

pub record RowReigns (w : World) (x : Member) (now : ℕ) (own : Log) (o : Outcome) : Type 0 where
  pub reigning : Reigning x now own o.election (changed x.durable o.change).log
  pub low : LowChange w o.change

module _ (w : World) (x0 : Member) (own : Log) (now : ℕ) where
  abbrev e : Election
  e = x0.values.election

  abbrev r0 : Rest
  r0 = x0.values.rest

  abbrev log : Log
  log = x0.durable.log

  abbrev pub Fine : Outcome → Type 0
  Fine o = RowReigns w x0 now own o

  abbrev TurnFine : Turn → Type 0
  TurnFine t = Fine (outcome_of t r0 (name_of log))

  goes : (e' : Election) (r : Rest) (ps : List Sent) → e'.state ≡ e.state → e'.term ≡ e.term → Fine (record { election = e'; rest = r; change = Nothing; packets = ps })
  goes e' r ps st t = record { reigning = record { on = λ h. inl refl; init = λ h. (refl, inl (sym st ∙ h, t)); ready = λ h. (t, inl (sym st ∙ h, Leads-self log)) }; low = tt }

  same : Fine (record { election = e; rest = r0; change = Nothing; packets = [] })
  same = goes e r0 [] refl refl

  no_reign : (s : State) (A : Type 0) → reigns_at s ≡ false → (s ≡ LeaderInit) ⊎ (s ≡ LeaderReady) → A
  no_reign s A h (inl a) = absurd (let z = ap reigns_at a in cc)
  no_reign s A h (inr a) = absurd (let z = ap reigns_at a in cc)

  leaves : (e' : Election) (r : Rest) (ps : List Sent) → reigns_at e'.state ≡ false → Fine (record { election = e'; rest = r; change = Nothing; packets = ps })
  leaves e' r ps nope = record { reigning = record { on = λ h. inl refl; init = λ h. no_reign e'.state _ nope (inl h); ready = λ h. no_reign e'.state _ nope (inr h) }; low = tt }

  canvass : Fine (record { election = enter_canvass e now; rest = r0; change = Nothing; packets = [] })
  canvass = leaves (enter_canvass e now) r0 [] refl

  lifts : (e' : Election) (c : ℤ) (v : Option ℕ) (ps : List Sent) → reigns_at e'.state ≡ false → LowChange w (RaiseTo c v) → Fine (record { election = e'; rest = r0; change = RaiseTo c v; packets = ps })
  lifts e' c v ps nope low = record { reigning = record { on = λ h. inl refl; init = λ h. no_reign e'.state _ nope (inl h); ready = λ h. no_reign e'.state _ nope (inr h) }; low = low }

  -- a member that doesn't reign changes its log
  appends : (e' : Election) (r : Rest) (es : Log) (ps : List Sent) → reigns_at e.state ≡ false → reigns_at e'.state ≡ false → Fine (record { election = e'; rest = r; change = Append es; packets = ps })
  appends e' r es ps was nope = record { reigning = record { on = λ h. absurd (cc); init = λ h. no_reign e'.state _ nope (inl h); ready = λ h. no_reign e'.state _ nope (inr h) }; low = tt }

  relogs : (e' : Election) (left : Log) (ps : List Sent) → reigns_at e.state ≡ false → reigns_at e'.state ≡ false → Fine (record { election = e'; rest = r0; change = CutTo left; packets = ps })
  relogs e' left ps was nope = record { reigning = record { on = λ h. absurd (cc); init = λ h. no_reign e'.state _ nope (inl h); ready = λ h. no_reign e'.state _ nope (inr h) }; low = tt }

  -- a leader appends
  writes : (e' : Election) (r : Rest) (ps : List Sent) → e.state ≡ LeaderReady → e'.state ≡ e.state → e'.term ≡ e.term → Fine (record { election = e'; rest = r; change = Append own; packets = ps })
  writes e' r ps at st t = record {
    reigning = record { on = λ h. inr (inr (at, refl)); init = λ h. absurd (let z = sym at ∙ sym st ∙ h in cc); ready = λ h. (t, inl (at, Leads-append log own)) };
    low = tt;
  }

  in_canvass-fine : (name : LogName) → e.state ≡ Canvass → TurnFine (in_canvass e name now)
  in_canvass-fine name at =
      if-cases TurnFine (nat_le e.deadline now) _ _
      (λ due. if-cases TurnFine (is_quorum e.members (1 + heard_count e.heard) && not (list_any (heard_better name) e.heard)) _ _
      (λ h. leaves (record e { state = Nominate }) r0 [] refl)
      (λ h. goes (record e { deadline = now + 300 + 100 * e.id }) r0 [] refl refl))
      (λ not_due. if-cases TurnFine (nat_le e.next now) _ _
      (λ h. goes (record e { next = now + 100 }) r0 _ refl refl)
      (λ h. same))

  nominates-fine : (most : ℤ) → TurnFine (nominates e most now)
  nominates-fine most =
      if-cases TurnFine (int_le (pos (2 ^ 62)) most) _ _
      (λ h. canvass)
      (λ h. lifts (record e { candidate = most +ℤ pos 1; voted = Some e.id; votes = set (replicate 5 false) e.id true; deadline = now + 500; state = CandidateBallot }) (most +ℤ pos 1) (Some e.id) _ refl
      (inl (within most h)))
    where
      within : (most : ℤ) → int_le (pos (2 ^ 62)) most ≡ false → (most +ℤ pos 1) ≤ℤ pos (2 ^ 62)
      within most h = grind (arith, ints)

  in_candidate_ballot-fine : e.state ≡ CandidateBallot → TurnFine (in_candidate_ballot e now)
  in_candidate_ballot-fine at =
      if-cases TurnFine (is_quorum e.members (vote_count e.votes)) _ _
      (λ q. record { reigning = record { on = λ h. inl refl; init = λ h. (refl, inr (ap reigns_at at)); ready = λ h. absurd (cc) }; low = tt })
      (λ h. if-cases TurnFine (nat_le e.deadline now) _ _ (λ due. canvass) (λ not_due. same))

  duty-fine : (s : State) (name : LogName) → e.state ≡ s → TurnFine (duty s e name now)
  duty-fine Init name at = canvass
  duty-fine Canvass name at = in_canvass-fine name at
  duty-fine Nominate name at = nominates-fine (fold later (int_max e.candidate name.term) e.heard)
  duty-fine CandidateBallot name at = in_candidate_ballot-fine at
  duty-fine FollowerBallot name at = if-cases TurnFine (nat_le e.deadline now) _ _ (λ due. canvass) (λ not_due. same)
  duty-fine LeaderInit name at = same
  duty-fine LeaderReady name at = same
  duty-fine FollowerLogReplication name at = same
  duty-fine FollowerReady name at = same
  duty-fine Closed name at = same

  on_request-fine : (from : ℕ) (c : ℤ) (name : LogName) → IsLow w c → TurnFine (on_request e from c name (name_of log) now)
  on_request-fine from c name low =
      let mine = name_of log in
      if-cases TurnFine (int_lt e.candidate c) _ _
      (λ above.
      if-cases TurnFine (better mine.term mine.place name.term name.place) _ _
      (λ b. lifts (enter_canvass (record e { candidate = c; voted = None }) now) c None _ refl tt)
      (λ b. lifts (record e { candidate = c; voted = Some from; term = negsuc 0; leader = None; deadline = now + 500; state = FollowerBallot }) c (Some from) _ refl low))
      (λ below. if-cases TurnFine (int_le e.candidate c && is_for e.voted from) _ _
      (λ h. goes e r0 _ refl refl)
      (λ h. goes e r0 _ refl refl))

  on_vote-fine : (from : ℕ) (c : ℤ) (given : Bool) → TurnFine (on_vote e from c given)
  on_vote-fine from c given =
      if-cases TurnFine (given && (is_balloting e.state && (int_le c e.candidate && int_le e.candidate c))) _ _
      (λ h. goes (record e { votes = set e.votes from true }) r0 [] refl refl) (λ h. same)

  follows-fine : (from : ℕ) (t : ℤ) → Fine (follows e r0 log from t now)
  follows-fine from t = at (int_lt e.candidate t) refl
    where
      at : (b : Bool) → int_lt e.candidate t ≡ b → Fine (record {
        election = record e { candidate = t; voted = (if b then None else e.voted); term = t; leader = Some from; deadline = now + 1000; next = now + 100; state = FollowerLogReplication };
        rest = r0;
        change = (if b then RaiseTo t None else Nothing);
        packets = canvass_to (record e { candidate = t; voted = (if b then None else e.voted); term = t; leader = Some from; deadline = now + 1000; next = now + 100; state = FollowerLogReplication }) from log;
      })
      at true above = lifts (record e { candidate = t; voted = None; term = t; leader = Some from; deadline = now + 1000; next = now + 100; state = FollowerLogReplication }) t None _ refl tt
      at false above = leaves (record e { candidate = t; voted = e.voted; term = t; leader = Some from; deadline = now + 1000; next = now + 100; state = FollowerLogReplication }) r0 _ refl

  cuts-fine : (from : ℕ) (keep : LogName) → e.state ≡ FollowerLogReplication → Fine (cuts e r0 log from keep now)
  cuts-fine from keep at =
      let left = kept keep.term keep.place log in
      if-cases Fine (nat_lt (length left) r0.commit) _ _
      (λ h. same)
      (λ enough. if-cases Fine (int_le (last left) keep.term && int_le keep.term (last left)) _ _
      (λ b. relogs (record e { deadline = now + 1000; state = FollowerReady }) left _ (ap reigns_at at) refl)
      (λ b. relogs (record e { deadline = now + 1000 }) left _ (ap reigns_at at) (ap reigns_at at)))

  on_new_term_at-fine : (s : State) (from : ℕ) (t : ℤ) (answer : Option (LogName × LogName)) → e.state ≡ s → Fine (on_new_term_at s e r0 log from t answer now)
  on_new_term_at-fine FollowerReady from t answer at =
      if-cases Fine (is_in e t) _ _ (λ h. goes (record e { deadline = now + 1000 }) r0 [] refl refl) (λ h. follows-fine from t)
  on_new_term_at-fine FollowerLogReplication from t (Some a) at =
      if-cases Fine (is_in e t) _ _
      (λ h. if-cases Fine (same_name a.0 (name_of log)) _ _
      (λ b. cuts-fine from a.1 at)
      (λ b. goes (record e { deadline = now + 1000 }) r0 _ refl refl))
      (λ h. follows-fine from t)
  on_new_term_at-fine FollowerLogReplication from t None at = follows-fine from t
  on_new_term_at-fine LeaderInit from t answer at = if-cases Fine (is_in e t) _ _ (λ h. same) (λ h. follows-fine from t)
  on_new_term_at-fine LeaderReady from t answer at = if-cases Fine (is_in e t) _ _ (λ h. same) (λ h. follows-fine from t)
  on_new_term_at-fine _ from t answer at = follows-fine from t

  on_new_term-fine : (from : ℕ) (t : ℤ) (answer : Option (LogName × LogName)) → Fine (on_new_term e r0 log from t answer now)
  on_new_term-fine from t answer = if-cases Fine (int_lt t e.candidate) _ _ (λ h. same) (λ h. on_new_term_at-fine e.state from t answer refl)

  on_canvass-fine : (s : State) (from : ℕ) (name : LogName) (c : ℤ) → e.state ≡ s → Fine (on_canvass_at s e r0 log from name c now)
  on_canvass-fine Canvass from name c at = goes (record e { heard = set e.heard from (Some (record { term = name.term; place = name.place; candidate = c })) }) r0 [] refl refl
  on_canvass-fine LeaderReady from name c at = if-cases Fine (int_lt e.term c) _ _ (λ h. canvass) (λ h. goes e r0 _ refl refl)
  on_canvass-fine _ from name c at = same

  on_report-fine : (s : State) (from : ℕ) (t : ℤ) (p : ℕ) → Fine (on_report_at s e r0 from t p now)
  on_report-fine LeaderReady from t p = if-cases Fine (is_in e t) _ _ (λ h. goes e _ [] refl refl) (λ h. same)
  on_report-fine _ from t p = same

  on_commit-fine : (s : State) (t : ℤ) (c : ℕ) → Fine (on_commit_at s e r0 log t c now)
  on_commit-fine FollowerReady t c = if-cases Fine (is_in e t) _ _ (λ h. goes (record e { deadline = now + 1000 }) (record r0 { commit = max r0.commit (entries_to c log) }) [] refl refl) (λ h. same)
  on_commit-fine _ t c = same

  on_batch-fine : (s : State) (from : ℕ) (t : ℤ) (start : ℕ) (entries : Log) → e.state ≡ s → Fine (on_batch_at s e r0 log from t start entries now)
  on_batch-fine FollowerReady from t start entries at =
      if-cases Fine (is_in e t) _ _
      (λ h. if-cases Fine (nat_le start (place log)) _ _
      (λ b. appends (record e { deadline = now + 1000 }) r0 (past start (place log) entries) _ (ap reigns_at at) (ap reigns_at at))
      (λ b. goes (record e { deadline = now + 1000 }) r0 _ refl refl))
      (λ h. same)
  on_batch-fine _ from t start entries at = same

  sends_status-fine : (p : Said) → Fine (sends_status e r0 p now)
  sends_status-fine p =
      if-cases Fine (nat_le e.deadline now) _ _
      (λ due. canvass)
      (λ early. if-cases Fine (nat_le e.next now) _ _ (λ b. goes (record e { next = now + 100 }) r0 _ refl refl) (λ b. same))

  in_leader_init-fine : e.state ≡ LeaderInit → Fine (in_leader_init e r0 log now)
  in_leader_init-fine at =
      if-cases Fine (nat_lt 16777216 (place (log ++ opening x0 now ∷ []))) _ _
      (λ h. canvass)
      (λ h. record { reigning = record { on = λ k. inr (inl (at, h, refl)); init = λ k. absurd (cc); ready = λ k. (refl, inr (at, refl)) }; low = tt })

  in_leader_ready-fine : e.state ≡ LeaderReady → Fine (in_leader_ready e r0 log own now)
  in_leader_ready-fine at =
      if-cases Fine (is_quorum e.members (count_recent now e.members e r0)) _ _
      (λ h. writes (record e { next = (if nat_le e.next now then now + 100 else e.next) }) (record r0 { commit = commit_after e r0 log }) _ at refl refl)
      (λ h. canvass)

  duty_at-fine : (s : State) → e.state ≡ s → Fine (duty_at s x0 own now)
  duty_at-fine LeaderInit at = in_leader_init-fine at
  duty_at-fine LeaderReady at = if-cases Fine (are_own e.term own) _ _ (λ h. in_leader_ready-fine at) (λ h. same)
  duty_at-fine FollowerReady at = sends_status-fine (ReportOf e.term (place log))
  duty_at-fine FollowerLogReplication at = sends_status-fine (CanvassOf (name_of log) e.candidate)
  duty_at-fine Init at = duty-fine e.state (name_of log) refl
  duty_at-fine Canvass at = duty-fine e.state (name_of log) refl
  duty_at-fine Nominate at = duty-fine e.state (name_of log) refl
  duty_at-fine CandidateBallot at = duty-fine e.state (name_of log) refl
  duty_at-fine FollowerBallot at = duty-fine e.state (name_of log) refl
  duty_at-fine Closed at = duty-fine e.state (name_of log) refl

  pub does_duty-fine : Fine (does_duty x0 own now)
  does_duty-fine = duty_at-fine e.state refl

  abbrev pub RequestLow : Said → Type 0
  RequestLow (RequestOf c name) = IsLow w c
  RequestLow _ = ⊤

  receives_row-fine : (from : ℕ) (p : Said) → RequestLow p → Fine (receives_row x0 from p now)
  receives_row-fine from (CanvassOf name c) low = on_canvass-fine e.state from name c refl
  receives_row-fine from (RequestOf c name) low = if-cases TurnFine (is_awake e.state) _ _ (λ h. on_request-fine from c name low) (λ h. same)
  receives_row-fine from (VoteOf c given mine) low = on_vote-fine from c given
  receives_row-fine from (AnnounceOf t) low = on_new_term-fine from t None
  receives_row-fine from (AnswerOf t asked keep) low = on_new_term-fine from t (Some (asked, keep))
  receives_row-fine from (ReportOf t p) low = on_report-fine e.state from t p
  receives_row-fine from (CommitOf t c) low = on_commit-fine e.state t c
  receives_row-fine from (BatchOf t start entries) low = on_batch-fine e.state from t start entries refl

  pub receives-fine : (passes : Bool) (from : ℕ) (p : Said) → RequestLow p → Fine (receives passes x0 from p now)
  receives-fine passes from p low = if-cases Fine passes _ _ (λ h. receives_row-fine from p low) (λ h. same)

  pub client-fine : (s : State) → e.state ≡ s → Fine (client_at s x0 own)
  client-fine LeaderReady at = if-cases Fine (are_own e.term own) _ _ (λ h. writes e r0 [] at refl refl) (λ h. same)
  client-fine _ at = same
