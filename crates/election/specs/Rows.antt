-- The rows P2 to P9 of the protocol, each a function of a member's values, its log's name and the moment in ms.
use Rattle.std.specs.Prelude.{ℕ, ℤ, pos, negsuc, ◌+ℤ◌, Bool, true, false, ◌&&◌, not, List, ◌+◌, ◌*◌, nat_le, nat_eq, int_lt, int_le, if◌then◌else◌, Option, Some, None, replicate, set, count_by, is_some, fold, ◌^◌}
use Rattle.std.specs.Int.{int_max}
use Rattle.std.specs.List.{list_any}
use Rattle.entry_log.specs.Log.{better, same_term}
use Rattle.entry_log.specs.Quorum.{is_quorum}
use Rattle.entry_log.specs.declared.name.LogName.{LogName}
use Rattle.election.specs.declared.member.State.{State}
use Rattle.election.specs.declared.member.State.TheVariants.{Init, Canvass, Nominate, CandidateBallot, FollowerBallot, LeaderInit, LeaderReady, FollowerLogReplication, FollowerReady, Closed}
use Rattle.election.specs.declared.member.Heard.{Heard}
use Rattle.election.specs.declared.member.Election.{Election}
use Rattle.election.specs.declared.event.ElectionEvent.{ElectionEvent}
use Rattle.election.specs.declared.event.ElectionEvent.TheVariants.{Duty, RequestVote, Vote}
use Rattle.election.specs.declared.event.Decision.{Decision}
use Rattle.election.specs.declared.event.Decision.TheVariants as D

-- a member that starts, with the candidate term and the member voted for that are on its disk
abbrev pub begins : ℕ → ℕ → ℤ → Option ℕ → Election
begins id members candidate voted =
    record { id = id; members = members; candidate = candidate; voted = voted; state = Init; term = negsuc 0; leader = None; deadline = 0; next = 0; heard = replicate 5 None; votes = replicate 5 false }

abbrev pub is_running : State → Bool
is_running Closed = false
is_running _ = true

-- how many members were heard
abbrev pub heard_count : List (Option Heard) → ℕ
heard_count heard = count_by is_some heard

abbrev pub vote_count : List Bool → ℕ
vote_count votes = count_by (λ v. v) votes

-- the log that this Canvass named is better than this one
abbrev pub heard_better : LogName → Option Heard → Bool
heard_better own None = false
heard_better own (Some h) = better h.term h.place own.term own.place

-- the later of a term and the candidate term heard
abbrev pub later : ℤ → Option Heard → ℤ
later most None = most
later most (Some h) = int_max most h.candidate

-- how a member enters CANVASS
abbrev pub enter_canvass : Election → ℕ → Election
enter_canvass m now =
    record m { state = Canvass; term = negsuc 0; leader = None; heard = replicate 5 None; deadline = now + 300 + 100 * m.id; next = now }

-- what a row makes of a member's values, and what it does
pub record Turn : Type 0 where
  pub election : Election
  pub decision : Decision

-- no row holds
abbrev pub stays : Election → Turn
stays m = record { election = m; decision = D.Nothing }

abbrev pub returns_to_canvass : Election → ℕ → Turn
returns_to_canvass m now = record { election = enter_canvass m now; decision = D.EnterCanvass }

-- P2: a member that has started enters CANVASS
abbrev pub in_init : Election → ℕ → Turn
in_init m now = returns_to_canvass m now

-- P3: at a canvass's end a member stands for election where a quorum is heard of, itself included, and no log is better
abbrev pub canvass_ends : Election → LogName → ℕ → Turn
canvass_ends m own now =
    if is_quorum m.members (1 + heard_count m.heard) && not (list_any (heard_better own) m.heard)
    then record { election = record m { state = Nominate }; decision = D.Nominate }
    else record { election = record m { deadline = now + 300 + 100 * m.id }; decision = D.CanvassAgain }

-- P3 at the deadline, and P4 before it: every 100 ms a Canvass to the others
abbrev pub in_canvass : Election → LogName → ℕ → Turn
in_canvass m own now =
    if nat_le m.deadline now
    then canvass_ends m own now
    else if nat_le m.next now
    then record { election = record m { next = now + 100 }; decision = D.Canvass }
    else stays m

-- P5, at the greatest of the candidate term, the last term and the candidate terms heard: it votes for itself in the next one
abbrev pub nominates : Election → ℤ → ℕ → Turn
nominates m most now =
    if int_le (pos (2 ^ 62)) most
    then returns_to_canvass m now
    else record {
      election = record m { candidate = most +ℤ pos 1; voted = Some m.id; votes = set (replicate 5 false) m.id true; deadline = now + 500; state = CandidateBallot };
      decision = D.Request (most +ℤ pos 1);
    }

-- P5
abbrev pub in_nominate : Election → LogName → ℕ → Turn
in_nominate m own now = nominates m (fold later (int_max m.candidate own.term) m.heard) now

-- P9: a ballot that brought no leader ends
abbrev pub in_follower_ballot : Election → ℕ → Turn
in_follower_ballot m now = if nat_le m.deadline now then returns_to_canvass m now else stays m

-- P8: a quorum of votes elects
abbrev pub in_candidate_ballot : Election → ℕ → Turn
in_candidate_ballot m now =
    if is_quorum m.members (vote_count m.votes)
    then record { election = record m { term = m.candidate; leader = Some m.id; state = LeaderInit }; decision = D.Lead }
    else if nat_le m.deadline now
    then returns_to_canvass m now
    else stays m

-- a duty runs the one row of the state in which it began
abbrev pub duty : State → Election → LogName → ℕ → Turn
duty Init m own now = in_init m now
duty Canvass m own now = in_canvass m own now
duty Nominate m own now = in_nominate m own now
duty CandidateBallot m own now = in_candidate_ballot m now
duty FollowerBallot m own now = in_follower_ballot m now
duty LeaderInit m own now = stays m
duty LeaderReady m own now = stays m
duty FollowerLogReplication m own now = stays m
duty FollowerReady m own now = stays m
duty Closed m own now = stays m

-- the vote was for this member
abbrev pub is_for : Option ℕ → ℕ → Bool
is_for None k = false
is_for (Some j) k = nat_eq j k

-- P6: a request above the candidate term raises it, and gets the vote where the own log is no better than the named one;
-- one of the candidate term gets the vote that was given, again, where it was for the sender
abbrev pub on_request : Election → ℕ → ℤ → LogName → LogName → ℕ → Turn
on_request m from c named own now =
    if int_lt m.candidate c
    then (if better own.term own.place named.term named.place
    then record { election = enter_canvass (record m { candidate = c; voted = None }) now; decision = D.RaiseAndRefuse from c }
    else record {
      election = record m { candidate = c; voted = Some from; term = negsuc 0; leader = None; deadline = now + 500; state = FollowerBallot };
      decision = D.Grant from c;
    })
    else (if int_le m.candidate c && is_for m.voted from
    then record { election = m; decision = D.Repeat from c }
    else record { election = m; decision = D.Refuse from c })

abbrev pub is_balloting : State → Bool
is_balloting CandidateBallot = true
is_balloting _ = false

-- P7: a vote of the candidate term counts
abbrev pub on_vote : Election → ℕ → ℤ → Bool → Turn
on_vote m from c granted =
    if granted && (is_balloting m.state && same_term c m.candidate)
    then record { election = record m { votes = set m.votes from true }; decision = D.CountVote }
    else stays m

-- one row
abbrev pub row : Election → ElectionEvent → ℕ → Turn
row m (Duty own) now = duty m.state m own now
row m (RequestVote from c named own) now = if is_running m.state then on_request m from c named own now else stays m
row m (Vote from c granted) now = on_vote m from c granted

-- the member that sent the packet of an event, 0 of a duty
abbrev pub sender_of : ElectionEvent → ℕ
sender_of (Duty own) = 0
sender_of (RequestVote from c named own) = from
sender_of (Vote from c granted) = from
