-- A row cuts a log only to fewer entries than it has.
use Rattle.std.proofs.Common.{ℕ, ◌+◌, ◌<◌, List, [], ◌∷◌, None, map, length, arith, ℤ}
use Rattle.std.specs.Prelude.{⊤, nat_le, nat_lt, int_lt, unsigned_abs, take}
use Rattle.std.proofs.lemmas.Bool.Decides.{nat_tests}
use Rattle.cl_base.specs.declared.entry.Entry.{Entry}
use Rattle.entry_log.specs.Log.{Log, end_after, same_term}
use Rattle.entry_log.specs.Shape.{Shape, end_of, last_term_of}
use Rattle.entry_log.specs.declared.name.LogName.{LogName}
use Rattle.log_replication.specs.Replication.{past}
use Rattle.election.specs.Rows.{enter_canvass}
use Rattle.election.specs.declared.event.Decision.{Decision}
use Rattle.election.specs.declared.event.Decision.TheVariants as D
use Rattle.election.specs.declared.member.Election.{Election}
use Rattle.election.specs.declared.member.State.{State}
use Rattle.election.specs.declared.member.State.TheVariants.{Init, Canvass, Nominate, CandidateBallot, FollowerBallot, LeaderInit, LeaderReady, FollowerLogReplication, FollowerReady, Closed}
use Rattle.sbe_events.specs.declared.event.Event.{Event}
use Rattle.sbe_consensus.specs.declared.packet.Packet.{Packet}
use Rattle.sbe_consensus.specs.declared.packet.Packet.TheVariants as P
use Rattle.consensus_core.specs.declared.change.Change.{Change}
use Rattle.consensus_core.specs.declared.change.Change.TheVariants as changes
use Rattle.consensus_core.specs.declared.rest.Rest.{Rest}
use Rattle.consensus_core.specs.declared.row.Row.{Row}
use Rattle.consensus_core.specs.declared.plan.Plan.{Plan}
use Rattle.consensus_core.specs.declared.plan.Plan.TheVariants as plans
use Rattle.consensus_core.specs.declared.plan.Word.TheVariants as words
use Rattle.consensus_core.specs.declared.values.Values.{Values}
use Rattle.consensus_core.specs.Rows.{outcome, only, nothing, change_of, kept_count, cut_to, is_in, cuts, same_name, name_of_shape, follows, on_answer, is_announcement, on_new_term_at, on_new_term, on_canvass_at, on_report_at, appends, on_batch_at, on_commit_at}
use Rattle.consensus_core.specs.Reign.{reigning, entry_of, term_event, begins_reign, admitted, end_limit, commit_after, has_quorum, beats_next, reigns, sends_status, duty_at, does_duty}
use Rattle.consensus_core.specs.Sendable.{is_sendable, receives_row, receives}
use Rattle.consensus_core.proofs.Fitting.{choice}

-- a cut of a log of so many entries leaves fewer
abbrev pub IsShorter : ℕ → Change → Type 0
IsShorter many (changes.Cut n) = n < many
IsShorter many _ = ⊤

cut_shorter : (n : ℕ) (xs : Shape) → IsShorter (length xs) (cut_to n xs)
cut_shorter n xs = choice (IsShorter (length xs)) (nat_lt n (length xs)) (changes.Cut n) changes.Nothing (λ h. grind (arith, nat_tests, h)) (λ h. tt)

append_none : (many : ℕ) (new : Log) → IsShorter many (appends new)
append_none many [] = tt
append_none many (x ∷ xs) = tt

turn_none : (many : ℕ) (d : Decision) (m : ℕ) → IsShorter many (change_of d m)
turn_none many D.Nothing m = tt
turn_none many D.Canvass m = tt
turn_none many D.EnterCanvass m = tt
turn_none many D.Nominate m = tt
turn_none many D.CanvassAgain m = tt
turn_none many D.Lead m = tt
turn_none many D.CountVote m = tt
turn_none many (D.Request term) m = tt
turn_none many (D.Refuse to term) m = tt
turn_none many (D.Repeat to term) m = tt
turn_none many (D.RaiseAndRefuse to term) m = tt
turn_none many (D.Grant to term) m = tt

-- and so does the row
pub record IsShort (many : ℕ) (row : Row) : Type 0 where
  pub cut : IsShorter many row.change

module _ (e : Election) (r : Rest) (xs : Shape) where
  abbrev S : Row → Type 0
  S x = IsShort (length xs) x

  follows_none : (from : ℕ) (t : ℤ) (now : ℕ) → S (follows e r from t now)
  follows_none from t now = record { cut = choice (IsShorter (length xs)) (int_lt e.candidate t) (changes.Raise t None) changes.Nothing (λ h. tt) (λ h. tt) }

  cuts_shorter : (from : ℕ) (keep : LogName) (now : ℕ) → S (cuts e r xs from keep now)
  cuts_shorter from keep now =
      let n : ℕ = kept_count keep.term keep.place xs in
      choice S (same_term (last_term_of (take n xs)) keep.term) _ _ (λ h. record { cut = cut_shorter n xs }) (λ h. record { cut = cut_shorter n xs })

  answer_shorter : (from : ℕ) (asked keep : LogName) (now : ℕ) → S (on_answer e r xs from asked keep now)
  answer_shorter from asked keep now = choice S (same_name asked (name_of_shape xs)) _ _ (λ h. cuts_shorter from keep now) (λ h. record { cut = tt })

  new_term_at_shorter : (s : State) (from : ℕ) (t : ℤ) (asked keep : LogName) (now : ℕ) → S (on_new_term_at s e r xs from t asked keep now)
  new_term_at_shorter FollowerReady from t asked keep now = record { cut = tt }
  new_term_at_shorter FollowerLogReplication from t asked keep now = choice S (is_announcement asked) _ _ (λ h. follows_none from t now) (λ h. answer_shorter from asked keep now)
  new_term_at_shorter LeaderInit from t asked keep now = record { cut = tt }
  new_term_at_shorter LeaderReady from t asked keep now = record { cut = tt }
  new_term_at_shorter _ from t asked keep now = follows_none from t now

  new_term_shorter : (from : ℕ) (t : ℤ) (asked keep : LogName) (now : ℕ) → S (on_new_term e r xs from t asked keep now)
  new_term_shorter from t asked keep now =
      choice S (int_lt t e.candidate) _ _ (λ h. record { cut = tt }) (λ h. choice S (is_in e t) _ _ (λ g. new_term_at_shorter e.state from t asked keep now) (λ g. follows_none from t now))

  canvass_none : (s : State) (from : ℕ) (name : LogName) (c : ℤ) (now : ℕ) → S (on_canvass_at s e r from name c now)
  canvass_none Canvass from name c now = record { cut = tt }
  canvass_none LeaderReady from name c now = choice S (int_lt e.term c) _ _ (λ h. record { cut = tt }) (λ h. record { cut = tt })
  canvass_none _ from name c now = record { cut = tt }

  report_none : (s : State) (from : ℕ) (t : ℤ) (p now : ℕ) → S (on_report_at s e r from t p now)
  report_none LeaderReady from t p now = choice S (is_in e t) _ _ (λ h. record { cut = tt }) (λ h. record { cut = tt })
  report_none _ from t p now = record { cut = tt }

  batch_none : (s : State) (from : ℕ) (t : ℤ) (start : ℕ) (es : Log) (now : ℕ) → S (on_batch_at s e r xs from t start es now)
  batch_none FollowerReady from t start es now =
      choice S (is_in e t) _ _ (λ h. record { cut = choice (IsShorter (length xs)) (nat_le start (end_of xs)) (appends (past start (end_of xs) es)) changes.Nothing (λ g. append_none (length xs) (past start (end_of xs) es)) (λ g. tt) }) (λ h. record { cut = tt })
  batch_none _ from t start es now = record { cut = tt }

  commit_none : (s : State) (t : ℤ) (c now : ℕ) → S (on_commit_at s e r xs t c now)
  commit_none FollowerReady t c now = choice S (is_in e t) _ _ (λ h. record { cut = tt }) (λ h. record { cut = tt })
  commit_none _ t c now = record { cut = tt }

-- whatever the log's length: a duty cuts nothing
module _ (many : ℕ) (e : Election) (r : Rest) (xs : Shape) where
  abbrev U : Row → Type 0
  U x = IsShort many x

  status_none : (p : Plan) (now : ℕ) → U (sends_status e r p now)
  status_none p now = choice U (nat_le e.deadline now) _ _ (λ h. record { cut = tt }) (λ h. choice U (nat_le e.next now) _ _ (λ g. record { cut = tt }) (λ g. record { cut = tt }))

  begins_none : (x : Entry) (now : ℕ) → U (begins_reign e r xs x now)
  begins_none x now =
      choice U (nat_lt 16777216 (end_after (end_of xs) (length x.bytes))) (only (enter_canvass e now) r)
      (outcome (record e { state = LeaderReady; next = now + 100 }) (reigning r.commit (end_after (end_of xs) (length x.bytes)) now) (changes.Append (x ∷ [])) (plans.All words.Announcement)) (λ h. record { cut = tt }) (λ h. record { cut = tt })

  reigns_none : (due : Log) (now : ℕ) → U (reigns e r xs due now)
  reigns_none due now =
      let c : ℕ = commit_after e r xs in
      let new : Log = admitted (end_of xs) (end_limit xs c) due in
      choice U (has_quorum e r now) (beats_next e r c new now) (only (enter_canvass e now) r) (λ h. record { cut = append_none many new }) (λ h. record { cut = tt })

packet_row : (v : Values) (xs : Shape) (p : Packet) (now : ℕ) → IsShort (length xs) (receives_row v xs p now)
packet_row v xs (P.Canvass log_term log_position candidate_term member) now = canvass_none v.election v.rest xs v.election.state (unsigned_abs member) _ candidate_term now
packet_row v xs (P.RequestVote log_term log_position candidate_term candidate) now = record { cut = turn_none (length xs) _ _ }
packet_row v xs (P.Vote candidate_term log_term log_position candidate follower vote) now = record { cut = turn_none (length xs) _ _ }
packet_row v xs (P.NewTerm asked_term asked_position keep_term keep_position term leader) now = new_term_shorter v.election v.rest xs (unsigned_abs leader) term _ _ now
packet_row v xs (P.Append term position member) now = report_none v.election v.rest xs v.election.state (unsigned_abs member) term (unsigned_abs position) now
packet_row v xs (P.Commit term position leader) now = commit_none v.election v.rest xs v.election.state term (unsigned_abs position) now
packet_row v xs (P.LogBatch term start_position leader entries) now = batch_none v.election v.rest xs v.election.state (unsigned_abs leader) term (unsigned_abs start_position) entries now

-- of a packet's row
pub packet-shorter : (v : Values) (xs : Shape) (p : Packet) (now : ℕ) → IsShorter (length xs) (receives v xs p now).change
packet-shorter v xs p now = (choice (IsShort (length xs)) (is_sendable v xs p) (receives_row v xs p now) (nothing v.election v.rest) (λ h. packet_row v xs p now) (λ h. record { cut = tt })).cut

duty_row_at : (many : ℕ) (s : State) (v : Values) (xs : Shape) (due : List Event) (now : ℕ) → IsShort many (duty_at s v xs due now)
duty_row_at many LeaderInit v xs due now = begins_none many v.election v.rest xs (entry_of (term_event v.election.term (end_of xs) now v.election.id)) now
duty_row_at many LeaderReady v xs due now = reigns_none many v.election v.rest xs (map entry_of due) now
duty_row_at many FollowerReady v xs due now = status_none many v.election v.rest xs _ now
duty_row_at many FollowerLogReplication v xs due now = status_none many v.election v.rest xs _ now
duty_row_at many Init v xs due now = record { cut = turn_none many _ _ }
duty_row_at many Canvass v xs due now = record { cut = turn_none many _ _ }
duty_row_at many Nominate v xs due now = record { cut = turn_none many _ _ }
duty_row_at many CandidateBallot v xs due now = record { cut = turn_none many _ _ }
duty_row_at many FollowerBallot v xs due now = record { cut = turn_none many _ _ }
duty_row_at many Closed v xs due now = record { cut = turn_none many _ _ }

-- of a duty's, whatever the log's length
pub duty-shorter : (many : ℕ) (v : Values) (xs : Shape) (due : List Event) (now : ℕ) → IsShorter many (does_duty v xs due now).change
duty-shorter many v xs due now = (duty_row_at many v.election.state v xs due now).cut
