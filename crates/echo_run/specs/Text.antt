-- The lines of a run's text, each ended by a line feed.
use Rattle.std.specs.Prelude.{ℕ, ℤ, zero, suc, pos, Bool, List, [], ◌∷◌, ◌++◌, filter, length, codes, Option, Some, None}
use Rattle.std.specs.List.{flat_map}
use Rattle.std.specs.Fmt.{decimal, signed_decimal}
use Rattle.entry_log.specs.Log.{same_term}
use Rattle.line_text.specs.Pieces.{hex_text, newline, count, value}
use Rattle.line_text.specs.Events.{event_text}
use Rattle.sbe_events.specs.Spelling.{term_of}
use Rattle.sbe_events.specs.declared.event.Event.{Event}
use Rattle.sbe_client.specs.Spelling.{egress_spelling_of}
use Rattle.echo_run.specs.declared.sent.Origin.{Origin}
use Rattle.echo_run.specs.declared.sent.Origin.TheVariants as origin
use Rattle.echo_run.specs.declared.sent.Sent.{Sent}
use Rattle.echo_run.specs.declared.sent.Outcome.{Outcome}
use Rattle.echo_run.specs.declared.sent.Outcome.TheVariants as outcome
use Rattle.echo_run.specs.declared.sent.OrderLine.{OrderLine}

-- ---- what became of orders

abbrev pub leader_text : Option ℕ → List ℕ
leader_text None = codes "-"
leader_text (Some id) = decimal id

abbrev pub outcome_text : Outcome → List ℕ
outcome_text (outcome.NotLeader leader) = codes "not leader " ++ leader_text leader
outcome_text (outcome.WrongTerm term) = value (codes "wrong term ") term
outcome_text (outcome.NoSession session) = value (codes "no session ") session
outcome_text (outcome.TooLarge bytes) = count (codes "too large ") bytes
outcome_text outcome.SessionLimit = codes "session limit"
outcome_text (outcome.BackPressure bytes) = count (codes "back pressure ") bytes
outcome_text (outcome.LogFull place) = count (codes "log full ") place
outcome_text (outcome.Accepted index) = count (codes "accepted ") index

abbrev pub order_line : OrderLine → List ℕ
order_line o = count (codes "order ") o.line ++ codes " " ++ outcome_text o.outcome ++ newline

-- ---- entries

-- a word, the entry's number, its term and its event
abbrev pub entry_line : List ℕ → ℕ → Event → List ℕ
entry_line word i e = word ++ codes " " ++ decimal i ++ codes " " ++ signed_decimal (term_of e) ++ codes " " ++ event_text e ++ newline

-- entries of which the first is number i
abbrev pub entry_lines : List ℕ → ℕ → List Event → List ℕ
entry_lines word i [] = []
entry_lines word i (e ∷ es) = entry_line word i e ++ entry_lines word (suc i) es

-- the printed log, with how many entries it has
abbrev pub log_text : List Event → List ℕ
log_text entries = count (codes "log ") (length entries) ++ newline ++ entry_lines (codes "entry") 0 entries

-- what the one run of the service took
abbrev pub inputs_text : List Event → List ℕ
inputs_text entries = count (codes "service 0 0 run 1 from 0 count ") (length entries) ++ newline ++ entry_lines (codes "in") 0 entries

-- ---- records

-- what owes a record
abbrev pub origin_text : Origin → List ℕ
origin_text (origin.Module entry number) = decimal entry ++ codes " module"
origin_text (origin.Service entry service number) = decimal entry ++ codes " service " ++ decimal service ++ codes " " ++ decimal number
origin_text origin.Direct = codes "- direct"

abbrev pub record_line : Sent → List ℕ
record_line s = codes "out " ++ origin_text s.origin ++ codes " " ++ hex_text (egress_spelling_of s.egress) ++ newline

abbrev pub is_on : ℕ → Sent → Bool
is_on k s = same_term s.stream (pos k)

-- the records of one stream
abbrev pub records_on : ℕ → List Sent → List Sent
records_on k sent = filter (is_on k) sent

-- a stream that has a record, how many it has, and each of them
abbrev pub stream_text : ℕ → List Sent → List ℕ
stream_text k [] = []
stream_text k (s ∷ records) = count (codes "stream ") k ++ count (codes " egress ") (length (s ∷ records)) ++ newline ++ flat_map record_line (s ∷ records)

-- the streams of n clients from number k on
unfoldable pub streams_from : ℕ → ℕ → List Sent → List ℕ
streams_from zero k sent = []
streams_from (suc n) k sent = stream_text k (records_on k sent) ++ streams_from n (suc k) sent

-- ---- the member

-- its candidate term, its entries, how many of them are in the printed log, and its commit
abbrev pub member_line : ℤ → ℕ → ℕ → ℕ → List ℕ
member_line candidate entries same commit =
    value (codes "member 0 up candidate ") candidate ++ count (codes " entries ") entries ++ count (codes " same ") same ++ count (codes " commit ") commit ++ codes " snapshots 0" ++ newline
