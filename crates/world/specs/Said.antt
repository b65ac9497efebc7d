-- What a packet says.
use Rattle.std.specs.Prelude.{ℕ, ℤ, pos, unsigned_abs, Bool, if◌then◌else◌}
use Rattle.entry_log.specs.Log.{Log, same_term}
use Rattle.entry_log.specs.declared.name.LogName.{LogName}
use Rattle.sbe_consensus.specs.declared.packet.Packet.{Packet}
use Rattle.sbe_consensus.specs.declared.packet.Packet.TheVariants as P
use Rattle.consensus_core.specs.Rows.{is_announcement}

pub data Said : Type 0 where
  CanvassOf : (named : LogName) → (candidate : ℤ) → Said
  RequestOf : (term : ℤ) → (named : LogName) → Said
  VoteOf : (term : ℤ) → (granted : Bool) → (own : LogName) → Said
  AnnounceOf : (term : ℤ) → Said  -- a NewTerm that nobody asked for
  AnswerOf : (term : ℤ) → (asked : LogName) → (keep : LogName) → Said  -- a NewTerm, to a Canvass
  ReportOf : (term : ℤ) → (place : ℕ) → Said  -- an Append
  CommitOf : (term : ℤ) → (place : ℕ) → Said
  BatchOf : (term : ℤ) → (start : ℕ) → (entries : Log) → Said

-- a log's name, as packets have it
abbrev pub named : ℤ → ℤ → LogName
named term position = record { term = term; place = unsigned_abs position }

-- what it says, besides its sender and its receiver
abbrev pub says : Packet → Said
says (P.Canvass log_term log_position candidate_term member) = CanvassOf (named log_term log_position) candidate_term
says (P.RequestVote log_term log_position candidate_term candidate) = RequestOf candidate_term (named log_term log_position)
says (P.Vote candidate_term log_term log_position candidate follower vote) = VoteOf candidate_term (same_term vote (pos 1)) (named log_term log_position)
says (P.NewTerm asked_term asked_position keep_term keep_position term leader) =
    if is_announcement (named asked_term asked_position) then AnnounceOf term else AnswerOf term (named asked_term asked_position) (named keep_term keep_position)
says (P.Append term position member) = ReportOf term (unsigned_abs position)
says (P.Commit term position leader) = CommitOf term (unsigned_abs position)
says (P.LogBatch term start_position leader entries) = BatchOf term (unsigned_abs start_position) entries
