-- Which packets a member can have sent, and what a member does with a packet.
use Rattle.std.specs.Prelude.{ℕ, ℤ, pos, negsuc, unsigned_abs, Bool, true, false, ◌&&◌, ◌||◌, not, [], ◌∷◌, length, take, nat_eq, nat_lt, nat_le, int_le, if◌then◌else◌}
use Rattle.entry_log.specs.Log.{Log, same_term, end_after, place_from}
use Rattle.entry_log.specs.Shape.{Shape, shape_of, end_of, ends_by}
use Rattle.entry_log.specs.declared.name.LogName.{LogName}
use Rattle.log_replication.specs.Replication.{past}
use Rattle.entry_log.specs.Batches.{is_batch}
use Rattle.election.specs.declared.member.State.{State}
use Rattle.election.specs.declared.member.State.TheVariants.{FollowerLogReplication}
use Rattle.election.specs.declared.member.Election.{Election}
use Rattle.election.specs.declared.event.ElectionEvent.TheVariants as E
use Rattle.election.specs.Rows.{row}
use Rattle.sbe_consensus.specs.declared.packet.Packet.{Packet}
use Rattle.sbe_consensus.specs.declared.packet.Packet.TheVariants as P
use Rattle.consensus_core.specs.declared.rest.Rest.{Rest}
use Rattle.consensus_core.specs.declared.row.Row.{Row}
use Rattle.consensus_core.specs.declared.values.Values.{Values}
use Rattle.consensus_core.specs.Rows.{nothing, name_of_shape, row_of_turn, is_in, same_name, kept_count, on_new_term, on_canvass_at, on_report_at, on_batch_at, on_commit_at}

-- a packet's member, candidate, follower or leader, who sent it
abbrev pub sender_of : Packet → ℕ
sender_of (P.Canvass log_term log_position candidate_term member) = unsigned_abs member
sender_of (P.RequestVote log_term log_position candidate_term candidate) = unsigned_abs candidate
sender_of (P.Vote candidate_term log_term log_position candidate follower vote) = unsigned_abs follower
sender_of (P.NewTerm asked_term asked_position keep_term keep_position term leader) = unsigned_abs leader
sender_of (P.Append term position member) = unsigned_abs member
sender_of (P.Commit term position leader) = unsigned_abs leader
sender_of (P.LogBatch term start_position leader entries) = unsigned_abs leader

-- another member of the cluster
abbrev pub is_other : Election → ℕ → Bool
is_other e from = nat_lt from e.members && not (nat_eq from e.id)

-- an entry of the log ends there, or the log begins there
abbrev pub is_end : ℕ → Shape → Bool
is_end p xs = nat_eq (end_of (take (ends_by p xs) xs)) p

-- an entry of these, written from place p, ends there
abbrev pub is_end_from : ℕ → ℕ → Log → Bool
is_end_from p at [] = false
is_end_from p at (x ∷ xs) = nat_eq (end_after p (length x.bytes)) at || is_end_from (end_after p (length x.bytes)) at xs

-- terms don't fall from this one on, up to that one
abbrev pub are_rising : ℤ → ℤ → Log → Bool
are_rising low high [] = true
are_rising low high (x ∷ xs) = (int_le low x.term && int_le x.term high) && are_rising x.term high xs

-- a batch that a leader of the term can have sent to a member with a log of this last term and place
abbrev pub is_sendable_batch : ℤ → ℕ → Log → LogName → Bool
is_sendable_batch t start entries own =
    (nat_le (place_from start entries) 16777216 && is_batch start (shape_of entries))
    && ((are_rising (negsuc 0) t entries && are_rising own.term t (past start own.place entries))
    && (nat_le own.place start || (nat_le (place_from start entries) own.place || is_end_from start own.place entries)))

abbrev pub is_replicating : State → Bool
is_replicating FollowerLogReplication = true
is_replicating _ = false

-- an answer on which a member would cut entries that are committed
abbrev pub cuts_committed : Election → Rest → Shape → ℤ → LogName → LogName → Bool
cuts_committed e r xs t asked keep =
    (is_replicating e.state && is_in e t) && (same_name asked (name_of_shape xs) && nat_lt (kept_count keep.term keep.place xs) r.commit)

-- what is asked of a packet besides its sender
abbrev pub passes : Values → Shape → Packet → Bool
passes v xs (P.NewTerm asked_term asked_position keep_term keep_position term leader) =
    not (cuts_committed v.election v.rest xs term (record { term = asked_term; place = unsigned_abs asked_position }) (record { term = keep_term; place = unsigned_abs keep_position }))
passes v xs (P.Append term position member) = is_end (unsigned_abs position) xs
passes v xs (P.LogBatch term start_position leader entries) = is_sendable_batch term (unsigned_abs start_position) entries (name_of_shape xs)
passes v xs _ = true

-- THE TEST. A packet that doesn't pass is one that no member can have sent to a member with these values and this log.
abbrev pub is_sendable : Values → Shape → Packet → Bool
is_sendable v xs p = is_other v.election (sender_of p) && passes v xs p

-- what a member does with a leader's packet
abbrev pub from_leader : Values → Shape → Packet → ℕ → Row
from_leader v xs (P.NewTerm asked_term asked_position keep_term keep_position term leader) now =
    on_new_term v.election v.rest xs (unsigned_abs leader) term (record { term = asked_term; place = unsigned_abs asked_position }) (record { term = keep_term; place = unsigned_abs keep_position }) now
from_leader v xs (P.Commit term position leader) now =
    on_commit_at v.election.state v.election v.rest xs term (unsigned_abs position) now
from_leader v xs (P.LogBatch term start_position leader entries) now =
    on_batch_at v.election.state v.election v.rest xs (unsigned_abs leader) term (unsigned_abs start_position) entries now
from_leader v xs _ now = nothing v.election v.rest

-- what a member does with a packet of a ballot, or of a leader
abbrev pub from_ballot : Values → Shape → Packet → ℕ → Row
from_ballot v xs (P.RequestVote log_term log_position candidate_term candidate) now =
    row_of_turn (row v.election (E.RequestVote (unsigned_abs candidate) candidate_term (record { term = log_term; place = unsigned_abs log_position }) (name_of_shape xs)) now) v.rest
from_ballot v xs (P.Vote candidate_term log_term log_position candidate follower vote) now =
    row_of_turn (row v.election (E.Vote (unsigned_abs follower) candidate_term (same_term vote (pos 1))) now) v.rest
from_ballot v xs p now = from_leader v xs p now

-- what a member does with a packet
abbrev pub receives_row : Values → Shape → Packet → ℕ → Row
receives_row v xs (P.Canvass log_term log_position candidate_term member) now =
    on_canvass_at v.election.state v.election v.rest (unsigned_abs member) (record { term = log_term; place = unsigned_abs log_position }) candidate_term now
receives_row v xs (P.Append term position member) now =
    on_report_at v.election.state v.election v.rest (unsigned_abs member) term (unsigned_abs position) now
receives_row v xs p now = from_ballot v xs p now

-- what a member does with a packet: one that no member can have sent is ignored
abbrev pub receives : Values → Shape → Packet → ℕ → Row
receives v xs p now = if is_sendable v xs p then receives_row v xs p now else nothing v.election v.rest
