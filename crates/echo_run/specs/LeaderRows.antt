-- The rows of a leader, for any number of members: how a reign begins (P10), a leader's duty (P15) and an appended entry
-- (P19). What they send to the others isn't told here.
use Rattle.std.specs.Prelude.{ℕ, suc, ◌+◌, ◌-◌, pos, Bool, nat_le, nat_lt, max, List, [], ◌∷◌, ◌++◌, map, fold, count_by, Option, None, unwrap_or, if◌then◌else◌}
use Rattle.entry_log.specs.Log.{end_after}
use Rattle.entry_log.specs.Quorum.{is_quorum}
use Rattle.entry_log.specs.declared.name.LogName.{LogName}
use Rattle.sbe_events.specs.declared.event.Event.{Event}
use Rattle.sbe_events.specs.declared.event.Event.TheVariants as event
use Rattle.election.specs.declared.member.State.{State}
use Rattle.election.specs.declared.member.State.TheVariants.{LeaderInit, LeaderReady}
use Rattle.election.specs.declared.member.Election.{Election}
use Rattle.election.specs.Rows.{enter_canvass, duty}
use Rattle.echo_run.specs.Module.{event_len, place_of, last_term}

-- a member: what the election reads, the log, how many entries are committed, where its own term begins to count, and of
-- each other member what it has said to hold, and when it was last heard
pub record Member : Type 0 where
  pub election : Election
  pub log : List Event
  pub commit : ℕ
  pub own_end : ℕ
  pub acked : List (Option ℕ)
  pub last_heard : List ℕ

abbrev pub name_of : List Event → LogName
name_of log = record { term = last_term log; place = place_of log }

-- how many entries end at most at a place, of a log that begins at p
abbrev pub entries_from : ℕ → ℕ → List Event → ℕ
entries_from p q [] = 0
entries_from p q (e ∷ es) = if nat_le (end_after p (event_len e)) q then suc (entries_from (end_after p (event_len e)) q es) else 0

abbrev pub entries_to : ℕ → List Event → ℕ
entries_to q log = entries_from 0 q log

-- the new term event of the term that a member is to lead
abbrev pub new_term : Member → ℕ → Event
new_term m now = event.Term m.election.term (pos (place_of m.log)) (pos now) (pos (place_of m.log)) (pos m.election.id)

-- P10: it appends the new term event of its term, and leads. Where there is no room it enters CANVASS.
abbrev pub begins_reign : Member → ℕ → Member
begins_reign m now =
    if nat_le (place_of (m.log ++ new_term m now ∷ [])) 16777216
    then record m {
      election = record m.election { state = LeaderReady; next = now + 100 };
      log = m.log ++ new_term m now ∷ [];
      own_end = place_of (m.log ++ new_term m now ∷ []);
      acked = map (λ a. None) m.acked;
      last_heard = map (λ h. now) m.last_heard;
    }
    else record m { election = enter_canvass m.election now }

-- this place is reached by a quorum of the reports
abbrev pub is_reached : ℕ → List ℕ → ℕ → Bool
is_reached members reports place = is_quorum members (count_by (λ r. nat_le place r) reports)

-- the greatest report that a quorum of them reach
abbrev pub quorum_position : ℕ → List ℕ → ℕ
quorum_position members reports = fold (λ best r. if is_reached members reports r then max best r else best) 0 reports

abbrev pub reports_of : Member → List ℕ
reports_of m = place_of m.log ∷ map (λ a. unwrap_or a 0) m.acked

-- the members heard in the last second, itself included
abbrev pub heard_count : Member → ℕ → ℕ
heard_count m now = suc (count_by (λ h. nat_lt (now - h) 1000) m.last_heard)

-- P15, the second step: only where a quorum holds an entry of the leader's own term its commit rises
abbrev pub commit_after : Member → ℕ
commit_after m = let q = quorum_position m.election.members (reports_of m) in if nat_le m.own_end q then max m.commit (entries_to q m.log) else m.commit

-- P15: a leader that no quorum hears leaves; else its commit rises and it appends what is due
abbrev pub leads : Member → List Event → ℕ → Member
leads m due now =
    if is_quorum m.election.members (heard_count m now)
    then record m { election = record m.election { next = if nat_le m.election.next now then now + 100 else m.election.next }; commit = commit_after m; log = m.log ++ due }
    else record m { election = enter_canvass m.election now }

-- P19: an entry that is accepted is appended
abbrev pub appends : Member → Event → Member
appends m e = record m { log = m.log ++ e ∷ [] }

-- the row of a state
abbrev pub duty_in : State → Member → List Event → ℕ → Member
duty_in LeaderInit m due now = begins_reign m now
duty_in LeaderReady m due now = leads m due now
duty_in s m due now = record m { election = (duty s m.election (name_of m.log) now).election }

-- a duty: the one row of the state in which it began
abbrev pub duty_of : Member → List Event → ℕ → Member
duty_of m due now = duty_in m.election.state m due now
