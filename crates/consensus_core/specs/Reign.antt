-- A leader's duties and a follower's.
use Rattle.std.specs.Prelude.{ℕ, zero, suc, ℤ, pos, Bool, ◌&&◌, ◌||◌, List, [], ◌∷◌, ◌++◌, length, map, replicate, take, min, max, slice_index_or, nat_eq, nat_lt, nat_le, unwrap_or, if◌then◌else◌, Option, None, ◌+◌}
use Rattle.cl_base.specs.declared.entry.Entry.{Entry}
use Rattle.entry_log.specs.Log.{Log, end_after}
use Rattle.entry_log.specs.Quorum.{is_quorum}
use Rattle.entry_log.specs.Shape.{Shape, shape_of, end_of, end_from, ends_by}
use Rattle.entry_log.specs.Batches.{is_batch}
use Rattle.log_replication.specs.Commits.{quorum_position}
use Rattle.sbe_events.specs.Spelling.{spelling_of, term_of}
use Rattle.sbe_events.specs.declared.event.Event.{Event}
use Rattle.sbe_events.specs.declared.event.Event.TheVariants as events
use Rattle.election.specs.declared.member.State.{State}
use Rattle.election.specs.declared.member.State.TheVariants.{LeaderInit, LeaderReady, FollowerLogReplication, FollowerReady}
use Rattle.election.specs.declared.member.Election.{Election}
use Rattle.election.specs.declared.event.ElectionEvent.TheVariants as E
use Rattle.election.specs.Rows.{row, enter_canvass}
use Rattle.consensus_core.specs.declared.change.Change.TheVariants as changes
use Rattle.consensus_core.specs.declared.plan.Plan.{Plan}
use Rattle.consensus_core.specs.declared.plan.Plan.TheVariants as plans
use Rattle.consensus_core.specs.declared.plan.Word.TheVariants as words
use Rattle.consensus_core.specs.declared.rest.Rest.{Rest}
use Rattle.consensus_core.specs.declared.row.Row.{Row}
use Rattle.consensus_core.specs.declared.values.Values.{Values}
use Rattle.consensus_core.specs.Rows.{outcome, only, nothing, name_of_shape, row_of_turn, appends}

-- the greatest number up to n that passes, 0 where none does
abbrev pub greatest : (ℕ → Bool) → ℕ → ℕ
greatest test zero = 0
greatest test (suc n) = if test (suc n) then suc n else greatest test n

-- the entry of an event
abbrev pub entry_of : Event → Entry
entry_of v = record { term = term_of v; bytes = spelling_of v }

-- ---- P10

-- the event with which a member begins its reign in term t, where its log ends at p
abbrev pub term_event : ℤ → ℕ → ℕ → ℕ → Event
term_event t p now id = events.Term t (pos p) (pos now) (pos p) (pos id)

-- what a member knows that has begun to reign: nobody reported yet
abbrev pub reigning : ℕ → ℕ → ℕ → Rest
reigning commit end now = record { commit = commit; own_end = end; acked = replicate 5 None; last_heard = replicate 5 now }

-- P10, with the entry that it appends
abbrev pub begins_reign : Election → Rest → Shape → Entry → ℕ → Row
begins_reign e r xs x now =
    let end = end_after (end_of xs) (length x.bytes) in
    if nat_lt 16777216 end
    then only (enter_canvass e now) r
    else outcome (record e { state = LeaderReady; next = now + 100 }) (reigning r.commit end now) (changes.Append (x ∷ [])) (plans.All words.Announcement)

-- P10
abbrev pub in_leader_init : Election → Rest → Shape → ℕ → Row
in_leader_init e r xs now = begins_reign e r xs (entry_of (term_event e.term (end_of xs) now e.id)) now

-- ---- P15

abbrev pub is_recent : ℕ → ℕ → Election → Rest → Bool
is_recent now k e r = nat_eq k e.id || nat_lt now (slice_index_or r.last_heard k 0 + 1000)

-- how many of the members below n were heard of late, this one included
abbrev pub count_recent : ℕ → ℕ → Election → Rest → ℕ
count_recent now zero e r = 0
count_recent now (suc n) e r = count_recent now n e r + (if is_recent now n e r then 1 else 0)

-- what a member reported, this one its own place, 0 one without a report
abbrev pub one_report : ℕ → ℕ → ℕ → List (Option ℕ) → ℕ
one_report k id own acked = if nat_eq k id then own else unwrap_or (slice_index_or acked k None) 0

-- what each member below n reported
abbrev pub reports : ℕ → ℕ → ℕ → List (Option ℕ) → List ℕ
reports zero id own acked = []
reports (suc n) id own acked = reports n id own acked ++ one_report n id own acked ∷ []

-- P15 (ii): the commit in entries
abbrev pub commit_after : Election → Rest → Shape → ℕ
commit_after e r xs =
    let q = quorum_position (reports e.members e.id (end_of xs) r.acked) in
    if nat_le r.own_end q then max r.commit (ends_by q xs) else r.commit

-- where the log may end at most, with this commit: the window past the commit's place, and the log's end
abbrev pub end_limit : Shape → ℕ → ℕ
end_limit xs commit = min (end_of (take commit xs) + 32768) 16777216

-- these entries, behind a log that ends at p, end at most there and are one batch
abbrev pub is_admitted : ℕ → ℕ → Shape → Bool
is_admitted p limit ys = nat_le (end_from p ys) limit && is_batch p ys

-- P15 (iii): the longest prefix that the limits admit
abbrev pub admitted : ℕ → ℕ → Log → Log
admitted p limit due = take (greatest (λ k. is_admitted p limit (shape_of (take k due))) (length due)) due

-- the members that were heard of late are a quorum, this one included
abbrev pub has_quorum : Election → Rest → ℕ → Bool
has_quorum e r now = is_quorum e.members (count_recent now e.members e r)

-- P15 (v): when it speaks next, and what it says
abbrev pub beats_next : Election → Rest → ℕ → Log → ℕ → Row
beats_next e r commit new now =
    let beat = nat_le e.next now in
    outcome (record e { next = (if beat then now + 100 else e.next) }) (record r { commit = commit }) (appends new) (plans.Beat (nat_lt r.commit commit || beat) beat)

-- P15, with the due entries
abbrev pub reigns : Election → Rest → Shape → Log → ℕ → Row
reigns e r xs due now =
    let commit = commit_after e r xs in
    if has_quorum e r now
    then beats_next e r commit (admitted (end_of xs) (end_limit xs commit) due) now
    else only (enter_canvass e now) r

-- P15
abbrev pub in_leader_ready : Election → Rest → Shape → List Event → ℕ → Row
in_leader_ready e r xs due now = reigns e r xs (map entry_of due) now

-- ---- P18

abbrev pub sends_status : Election → Rest → Plan → ℕ → Row
sends_status e r p now =
    if nat_le e.deadline now then only (enter_canvass e now) r
    else if nat_le e.next now then outcome (record e { next = now + 100 }) r changes.Nothing p
    else nothing e r

-- ---- a duty runs the one row of the state in which it began

abbrev pub duty_at : State → Values → Shape → List Event → ℕ → Row
duty_at LeaderInit v xs due now = in_leader_init v.election v.rest xs now
duty_at LeaderReady v xs due now = in_leader_ready v.election v.rest xs due now
duty_at FollowerReady v xs due now = sends_status v.election v.rest (plans.One (unwrap_or v.election.leader 0) words.Report) now
duty_at FollowerLogReplication v xs due now = sends_status v.election v.rest (plans.One (unwrap_or v.election.leader 0) words.Canvass) now
duty_at s v xs due now = row_of_turn (row v.election (E.Duty (name_of_shape xs)) now) v.rest

abbrev pub does_duty : Values → Shape → List Event → ℕ → Row
does_duty v xs due now = duty_at v.election.state v xs due now
