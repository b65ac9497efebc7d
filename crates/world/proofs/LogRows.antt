-- The rows of one member, written over its whole log: the form in which the proofs go through them. `Same` shows that the
-- core's rows, which read the log's shape alone, give the same worlds.
use Rattle.std.specs.Prelude.{ℕ, zero, suc, ℤ, pos, negsuc, Bool, true, false, ◌&&◌, not, List, [], ◌∷◌, ◌++◌, length, map, set, replicate, slice_index_or, nat_eq, nat_lt, nat_le, int_le, int_lt, max, take, unwrap_or, ◌||◌, is_none, if◌then◌else◌, Option, Some, None, ◌+◌, ◌<◌}
use Rattle.std.proofs.Common.{arith, length-append}
use Rattle.sbe_events.specs.declared.event.Event.{Event}
use Rattle.sbe_events.specs.Spelling.{spelling_of, fields_of, content_of, template_for}
use Rattle.sbe_events.specs.Templates.{number_of, tail_of}
use Rattle.wire_prims.specs.Strict.{message}
use Rattle.wire_prims.specs.StrictLaws.{length-message, tail_spelling}
use Rattle.entry_log.specs.Log.{Log, name_of, place, last}
use Rattle.entry_log.specs.Shape.{shape_of}
use Rattle.entry_log.specs.Durable.{Durable}
use Rattle.entry_log.specs.Quorum.{is_quorum}
use Rattle.entry_log.specs.declared.name.LogName.{LogName}
use Rattle.log_replication.specs.Commits.{quorum_position}
use Rattle.log_replication.specs.Replication.{kept, past, answer_term, answer_end}
use Rattle.election.specs.declared.member.State.{State}
use Rattle.election.specs.declared.member.State.TheVariants.{Canvass, LeaderInit, LeaderReady, FollowerLogReplication, FollowerReady}
use Rattle.election.specs.declared.member.Election.{Election}
use Rattle.election.specs.declared.event.ElectionEvent.TheVariants as E
use Rattle.election.specs.declared.event.Decision.{Decision}
use Rattle.election.specs.declared.event.Decision.TheVariants as D
use Rattle.election.specs.Rows.{Turn, row, enter_canvass}
use Rattle.sbe_consensus.specs.declared.packet.Packet.{Packet}
use Rattle.sbe_consensus.specs.declared.packet.Packet.TheVariants as P
use Rattle.consensus_core.specs.declared.rest.Rest.{Rest}
use Rattle.consensus_core.specs.Rows.{is_in, same_name}
use Rattle.consensus_core.specs.Reign.{term_event, count_recent, reports}
use Rattle.consensus_core.specs.Sends.{batch_count}
use Rattle.consensus_core.specs.OverLog.{entries_to}
use Rattle.consensus_core.specs.Member.{Member, Sent, Cut, Whole, Before, After, stopped}
use Rattle.world.specs.World.{term_bytes, term_entry, World, Raise, put, reigns_of}
use Rattle.world.specs.Said.{Said, CanvassOf, RequestOf, VoteOf, AnnounceOf, AnswerOf, ReportOf, CommitOf, BatchOf}

-- the packet of what is said
abbrev pub packet_in : ℕ → ℕ → Said → Packet
packet_in from to (CanvassOf named c) = P.Canvass named.term (pos named.place) c (pos from)
packet_in from to (RequestOf c named) = P.RequestVote named.term (pos named.place) c (pos from)
packet_in from to (VoteOf c granted own) = P.Vote c own.term (pos own.place) (pos to) (pos from) (pos (if granted then 1 else 0))
packet_in from to (AnnounceOf t) = P.NewTerm (negsuc 1) (pos 0) (negsuc 0) (pos 0) t (pos from)
packet_in from to (AnswerOf t asked keep) = P.NewTerm asked.term (pos asked.place) keep.term (pos keep.place) t (pos from)
packet_in from to (ReportOf t p) = P.Append t (pos p) (pos from)
packet_in from to (CommitOf t c) = P.Commit t (pos c) (pos from)
packet_in from to (BatchOf t start entries) = P.LogBatch t (pos start) (pos from) entries

abbrev pub sent_of : ℕ → ℕ → Said → Sent
sent_of from to p = record { to = to; packet = packet_in from to p }

-- a change of the disk
pub data Change : Type 0 where
  Nothing : Change
  RaiseTo : (term : ℤ) → (voted : Option ℕ) → Change
  Append : (entries : Log) → Change
  CutTo : (log : Log) → Change

-- an event has bytes
pub event-some : (v : Event) → 0 < length (spelling_of v)
event-some v =
    let fs = fields_of v in
    let a = length-message (number_of (template_for v)) fs in
    let b = length-append (message (number_of (template_for v)) fs) (tail_spelling (tail_of (template_for v)) (content_of v)) in
    omega (arith, a, b)

pub term_bytes-some : (t : ℤ) (at now leader : ℕ) → 0 < length (term_bytes t at now leader)
unfolding term_bytes
term_bytes-some t at now leader = event-some (term_event t at now leader)

-- the commit at a leader's turn
abbrev pub commit_after : Election → Rest → Log → ℕ
commit_after e r log =
    let q = quorum_position (reports e.members e.id (place log) r.acked) in
    if nat_le r.own_end q then max r.commit (entries_to q log) else r.commit

-- what a row of one member gives
pub record Outcome : Type 0 where
  pub election : Election
  pub rest : Rest
  pub change : Change
  pub packets : List Sent

-- the members below n but this one, rising
abbrev pub others : ℕ → ℕ → List ℕ
others zero m = []
others (suc n) m = if nat_eq n m then others n m else others n m ++ n ∷ []

abbrev pub to_others : ℕ → ℕ → Said → List Sent
to_others n m p = map (λ k. (sent_of m k p)) (others n m)

abbrev pub change_of : Decision → ℕ → Change
change_of D.Nothing m = Nothing
change_of D.Canvass m = Nothing
change_of D.EnterCanvass m = Nothing
change_of D.Nominate m = Nothing
change_of D.CanvassAgain m = Nothing
change_of D.Lead m = Nothing
change_of D.CountVote m = Nothing
change_of (D.Request term) m = RaiseTo term (Some m)
change_of (D.Refuse to term) m = Nothing
change_of (D.Repeat to term) m = Nothing
change_of (D.RaiseAndRefuse to term) m = RaiseTo term None
change_of (D.Grant to term) m = RaiseTo term (Some to)

abbrev pub packets_of : Decision → Election → LogName → List Sent
packets_of D.Nothing e own = []
packets_of D.EnterCanvass e own = []
packets_of D.Nominate e own = []
packets_of D.CanvassAgain e own = []
packets_of D.Lead e own = []
packets_of D.CountVote e own = []
packets_of D.Canvass e own = to_others e.members e.id (CanvassOf own e.candidate)
packets_of (D.Request term) e own = to_others e.members e.id (RequestOf term own)
packets_of (D.Refuse to term) e own = (sent_of e.id to (VoteOf term false own)) ∷ []
packets_of (D.Repeat to term) e own = (sent_of e.id to (VoteOf term true own)) ∷ []
packets_of (D.RaiseAndRefuse to term) e own = (sent_of e.id to (VoteOf term false own)) ∷ []
packets_of (D.Grant to term) e own = (sent_of e.id to (VoteOf term true own)) ∷ []

abbrev pub outcome_of : Turn → Rest → LogName → Outcome
outcome_of t rest own = record { election = t.election; rest = rest; change = change_of t.decision t.election.id; packets = packets_of t.decision t.election own }

-- what a member does with a packet
abbrev pub nothing : Election → Rest → Outcome
nothing e r = record { election = e; rest = r; change = Nothing; packets = [] }

-- the values alone change
abbrev pub only : Election → Rest → Outcome
only e r = record { election = e; rest = r; change = Nothing; packets = [] }

abbrev pub one_to : Election → ℕ → Said → List Sent
one_to e to p = (sent_of e.id to p) ∷ []

abbrev pub canvass_to : Election → ℕ → Log → List Sent
canvass_to e to log = one_to e to (CanvassOf (name_of log) e.candidate)

-- P10
abbrev pub in_leader_init : Election → Rest → Log → ℕ → Outcome
in_leader_init e r log now =
    if nat_lt 16777216 (place (log ++ term_entry e.term (place log) now e.id ∷ []))
    then only (enter_canvass e now) r
    else record {
      election = record e { state = LeaderReady; next = now + 100 };
      rest = record r { own_end = place (log ++ term_entry e.term (place log) now e.id ∷ []); acked = replicate 5 None; last_heard = replicate 5 now };
      change = Append (term_entry e.term (place log) now e.id ∷ []);
      packets = to_others e.members e.id (AnnounceOf e.term);
    }

-- P11's last case
abbrev pub follows : Election → Rest → Log → ℕ → ℤ → ℕ → Outcome
follows e r log from t now =
    let above = int_lt e.candidate t in
    let e' = record e { candidate = t; voted = (if above then None else e.voted); term = t; leader = Some from; deadline = now + 1000; next = now + 100; state = FollowerLogReplication } in
    record { election = e'; rest = r; change = (if above then RaiseTo t None else Nothing); packets = canvass_to e' from log }

-- P12
abbrev pub cuts : Election → Rest → Log → ℕ → LogName → ℕ → Outcome
cuts e r log from keep now =
    let left = kept keep.term keep.place log in
    let e' = record e { deadline = now + 1000 } in
    if nat_lt (length left) r.commit
    then nothing e r
    else if int_le (last left) keep.term && int_le keep.term (last left)
    then record { election = record e' { state = FollowerReady }; rest = r; change = CutTo left; packets = one_to e from (ReportOf e.term (place left)) }
    else record { election = e'; rest = r; change = CutTo left; packets = canvass_to e from left }

abbrev pub on_answer : Election → Rest → Log → ℕ → LogName → LogName → ℕ → Outcome
on_answer e r log from asked keep now =
    if same_name asked (name_of log)
    then cuts e r log from keep now
    else record { election = record e { deadline = now + 1000 }; rest = r; change = Nothing; packets = canvass_to e from log }

-- P11, of a term at least the candidate term in which the member doesn't reign
abbrev pub on_new_term_at : State → Election → Rest → Log → ℕ → ℤ → Option (LogName × LogName) → ℕ → Outcome
on_new_term_at FollowerReady e r log from t answer now = if is_in e t then only (record e { deadline = now + 1000 }) r else follows e r log from t now
on_new_term_at FollowerLogReplication e r log from t (Some a) now = if is_in e t then on_answer e r log from a.0 a.1 now else follows e r log from t now
on_new_term_at FollowerLogReplication e r log from t None now = follows e r log from t now
on_new_term_at LeaderInit e r log from t answer now = if is_in e t then nothing e r else follows e r log from t now
on_new_term_at LeaderReady e r log from t answer now = if is_in e t then nothing e r else follows e r log from t now
on_new_term_at _ e r log from t answer now = follows e r log from t now

abbrev pub on_new_term : Election → Rest → Log → ℕ → ℤ → Option (LogName × LogName) → ℕ → Outcome
on_new_term e r log from t answer now = if int_lt t e.candidate then nothing e r else on_new_term_at e.state e r log from t answer now

-- P13
abbrev pub on_canvass_at : State → Election → Rest → Log → ℕ → LogName → ℤ → ℕ → Outcome
on_canvass_at Canvass e r log from named c now = only (record e { heard = set e.heard from (Some (record { term = named.term; place = named.place; candidate = c })) }) r
on_canvass_at LeaderReady e r log from named c now =
    if int_lt e.term c
    then only (enter_canvass e now) r
    else record { election = e; rest = r; change = Nothing; packets = one_to e from (AnswerOf e.term named (record { term = answer_term log named.term; place = answer_end log named.term })) }
on_canvass_at _ e r log from named c now = nothing e r

-- P14
abbrev pub on_report_at : State → Election → Rest → ℕ → ℤ → ℕ → ℕ → Outcome
on_report_at LeaderReady e r from t p now =
    if is_in e t
    then only e (record r { acked = set r.acked from (Some (max p (unwrap_or (slice_index_or r.acked from None) 0))); last_heard = set r.last_heard from now })
    else nothing e r
on_report_at _ e r from t p now = nothing e r

-- P16
abbrev pub on_batch_at : State → Election → Rest → Log → ℕ → ℤ → ℕ → Log → ℕ → Outcome
on_batch_at FollowerReady e r log from t start entries now =
    if is_in e t
    then (if nat_le start (place log)
    then record { election = record e { deadline = now + 1000 }; rest = r; change = Append (past start (place log) entries); packets = one_to e from (ReportOf e.term (place (log ++ past start (place log) entries))) }
    else record { election = record e { deadline = now + 1000 }; rest = r; change = Nothing; packets = one_to e from (ReportOf e.term (place log)) })
    else nothing e r
on_batch_at _ e r log from t start entries now = nothing e r

-- P17
abbrev pub on_commit_at : State → Election → Rest → Log → ℤ → ℕ → ℕ → Outcome
on_commit_at FollowerReady e r log t c now =
    if is_in e t then only (record e { deadline = now + 1000 }) (record r { commit = max r.commit (entries_to c log) }) else nothing e r
on_commit_at _ e r log t c now = nothing e r

abbrev pub receives_row : Member → ℕ → Said → ℕ → Outcome
receives_row x from (CanvassOf named c) now = on_canvass_at x.values.election.state x.values.election x.values.rest x.durable.log from named c now
receives_row x from (RequestOf c named) now = outcome_of (row x.values.election (E.RequestVote from c named (name_of x.durable.log)) now) x.values.rest (name_of x.durable.log)
receives_row x from (VoteOf c granted own) now = outcome_of (row x.values.election (E.Vote from c granted) now) x.values.rest (name_of x.durable.log)
receives_row x from (AnnounceOf t) now = on_new_term x.values.election x.values.rest x.durable.log from t None now
receives_row x from (AnswerOf t asked keep) now = on_new_term x.values.election x.values.rest x.durable.log from t (Some (asked, keep)) now
receives_row x from (ReportOf t p) now = on_report_at x.values.election.state x.values.election x.values.rest from t p now
receives_row x from (CommitOf t c) now = on_commit_at x.values.election.state x.values.election x.values.rest x.durable.log t c now
receives_row x from (BatchOf t start entries) now = on_batch_at x.values.election.state x.values.election x.values.rest x.durable.log from t start entries now

-- a packet that doesn't pass the test is ignored
abbrev pub receives : Bool → Member → ℕ → Said → ℕ → Outcome
receives passes x from p now = if passes then receives_row x from p now else nothing x.values.election x.values.rest

abbrev pub batch_to : Election → Log → ℕ → Option ℕ → List Sent
batch_to e log k None = []
batch_to e log k (Some p) = if nat_lt p (place log) && not (nat_eq k e.id) then one_to e k (BatchOf e.term p (take (batch_count (entries_to p log) (shape_of log)) (past 0 p log))) else []

-- P15 (iv): to each member below n with a report below the place, the batch from there
abbrev pub batches : ℕ → Election → List (Option ℕ) → Log → List Sent
batches zero e acked log = []
batches (suc n) e acked log = batches n e acked log ++ batch_to e log n (slice_index_or acked n None)

-- the announcement to each member below n without a report
abbrev pub announcements : ℕ → Election → List (Option ℕ) → List Sent
announcements zero e acked = []
announcements (suc n) e acked = announcements n e acked ++ (if is_none (slice_index_or acked n None) && not (nat_eq n e.id) then one_to e n (AnnounceOf e.term) else [])

-- P15 (v)
abbrev pub commits : Election → Rest → Log → ℕ → ℕ → List Sent
commits e r log commit now =
    if nat_lt r.commit commit || nat_le e.next now then to_others e.members e.id (CommitOf e.term (place (take commit log))) else []

-- P15; due are the due entries that go into the batch
abbrev pub in_leader_ready : Election → Rest → Log → Log → ℕ → Outcome
in_leader_ready e r log due now =
    let commit = commit_after e r log in
    let after = log ++ due in
    let beat = nat_le e.next now in
    if is_quorum e.members (count_recent now e.members e r)
    then record {
      election = record e { next = (if beat then now + 100 else e.next) };
      rest = record r { commit = commit };
      change = Append due;
      packets = batches e.members e r.acked after ++ (commits e r after commit now ++ (if beat then announcements e.members e r.acked else []));
    }
    else only (enter_canvass e now) r

-- P18
abbrev pub sends_status : Election → Rest → Said → ℕ → Outcome
sends_status e r p now =
    if nat_le e.deadline now then only (enter_canvass e now) r
    else if nat_le e.next now then record { election = record e { next = now + 100 }; rest = r; change = Nothing; packets = one_to e (unwrap_or e.leader 0) p }
    else nothing e r

-- entries that a leader may append: of its term, with bytes
abbrev pub are_own : ℤ → Log → Bool
are_own t [] = true
are_own t (x ∷ xs) = (int_le x.term t && int_le t x.term) && (nat_lt 0 (length x.bytes) && are_own t xs)

abbrev pub duty_at : State → Member → Log → ℕ → Outcome
duty_at LeaderInit x due now = in_leader_init x.values.election x.values.rest x.durable.log now
duty_at LeaderReady x due now = if are_own x.values.election.term due then in_leader_ready x.values.election x.values.rest x.durable.log due now else nothing x.values.election x.values.rest
duty_at FollowerReady x due now = sends_status x.values.election x.values.rest (ReportOf x.values.election.term (place x.durable.log)) now
duty_at FollowerLogReplication x due now = sends_status x.values.election x.values.rest (CanvassOf (name_of x.durable.log) x.values.election.candidate) now
duty_at s x due now = outcome_of (row x.values.election (E.Duty (name_of x.durable.log)) now) x.values.rest (name_of x.durable.log)

abbrev pub does_duty : Member → Log → ℕ → Outcome
does_duty x due now = duty_at x.values.election.state x due now

abbrev pub changed : Durable → Change → Durable
changed d Nothing = d
changed d (RaiseTo term voted) = record d { candidate = term; voted = voted }
changed d (Append entries) = record d { log = d.log ++ entries }
changed d (CutTo log) = record d { log = log }

-- the raises for a vote in a change
abbrev pub raises_of : ℕ → Log → Change → List Raise
raises_of m log Nothing = []
raises_of m log (RaiseTo term None) = []
raises_of m log (Append entries) = []
raises_of m log (CutTo kept) = []
raises_of m log (RaiseTo term (Some k)) = record { voter = m; term = term; choice = k; log = log } ∷ []

-- a row of a running member, which a stop may cut
unfoldable pub acts : World → ℕ → Member → Outcome → Cut → World
acts w m x o Whole =
    put w m (record { up = true; values = record { election = o.election; rest = o.rest }; durable = changed x.durable o.change }) (raises_of m x.durable.log o.change) o.packets (reigns_of m x.values.election o.election x.durable.log)
acts w m x o Before = put w m (stopped x.durable) [] [] []
acts w m x o After = put w m (stopped (changed x.durable o.change)) (raises_of m x.durable.log o.change) [] []

-- P19: one event of the leader's term
abbrev pub client_at : State → Member → Log → Outcome
client_at LeaderReady x entries = if are_own x.values.election.term entries then record { election = x.values.election; rest = x.values.rest; change = Append entries; packets = [] } else nothing x.values.election x.values.rest
client_at _ x entries = nothing x.values.election x.values.rest
