-- The text of a listing, each line ended by a line feed.
use Rattle.std.specs.Prelude.{ℕ, ◌%◌, ◌==◌, if◌then◌else◌, List, ◌++◌, length, codes, is_some}
use Rattle.std.specs.List.{flat_map}
use Rattle.std.specs.Fmt.{decimal, signed_decimal}
use Rattle.recording_log.specs.declared.entry.RecEntry.{RecEntry}
use Rattle.recording_log.specs.declared.entry.SnapshotAt.{SnapshotAt}
use Rattle.recording_log.specs.Valid.{is_valid}
use Rattle.entry_log.specs.Log.{Log, place}
use Rattle.log_segment.specs.Held.{new_term_of, new_terms}
use Rattle.member_disk.specs.Kept.{Kept}
use Rattle.line_text.specs.Pieces.{newline}
use Rattle.run_report.specs.Text.{set_line, set_lines}
use Rattle.cluster_tool.specs.Compared.{compared}
use Rattle.cluster_tool.specs.Sets.{sets_of}
use Rattle.cluster_tool.specs.declared.compare.Outcome.{Outcome}
use Rattle.cluster_tool.specs.declared.compare.Outcome.TheVariants as outcome
use Rattle.cluster_tool.specs.declared.compare.Comparison.{Comparison}
use Rattle.cluster_tool.specs.declared.line.Summary.{Summary}
use Rattle.cluster_tool.specs.declared.line.Line.{Line}
use Rattle.cluster_tool.specs.declared.line.Line.TheVariants as line

abbrev pub summary_front : Summary → List ℕ
summary_front s = codes "candidate " ++ signed_decimal s.candidate ++ newline ++ codes "entries " ++ decimal s.entries ++ newline ++ codes "place " ++ decimal s.place ++ newline

-- the candidate term, the log's entries, its place and its term events, and the number of valid sets
abbrev pub summary_text : Summary → List ℕ
summary_text s = summary_front s ++ (codes "terms " ++ decimal s.terms ++ newline ++ codes "snapshots " ++ decimal s.sets ++ newline)

-- a leadership term: its number, where it begins, and its stamp
abbrev pub term_front : RecEntry → List ℕ
term_front e = codes "term " ++ signed_decimal e.term ++ codes " base " ++ signed_decimal e.base ++ codes " ts " ++ signed_decimal e.stamp

abbrev pub snapshot_front : RecEntry → List ℕ
snapshot_front e = codes "snapshot " ++ signed_decimal e.recording ++ codes " term " ++ signed_decimal e.term ++ codes " base " ++ signed_decimal e.base

abbrev pub snapshot_back : RecEntry → List ℕ
snapshot_back e = codes " position " ++ signed_decimal e.position ++ codes " ts " ++ signed_decimal e.stamp ++ codes " service " ++ signed_decimal e.service

-- a snapshot: its recording, its term and where that begins, its position, its stamp, and its service
abbrev pub snapshot_text : RecEntry → List ℕ
snapshot_text e = snapshot_front e ++ snapshot_back e

-- the kind of an entry without its highest bit
abbrev pub kind_of : RecEntry → ℕ
kind_of e = e.kind % 2147483648

abbrev pub recorded_front : RecEntry → List ℕ
recorded_front e = if kind_of e == 0 then term_front e else (if kind_of e == 1 then snapshot_text e else codes "other")

-- an entry of a recording log, marked where it is invalid
unfoldable pub recorded_line : RecEntry → List ℕ
recorded_line e = recorded_front e ++ (if is_valid e then codes "\n" else codes " invalid\n")

-- what comes behind so many entries in common
abbrev pub outcome_text : ℕ → Outcome → List ℕ
outcome_text common outcome.Equal = codes "equal\n"
outcome_text common outcome.FirstLonger = codes "first longer\n"
outcome_text common outcome.SecondLonger = codes "second longer\n"
outcome_text common (outcome.Differ first second) = codes "differ at " ++ decimal common ++ codes " terms " ++ signed_decimal first ++ codes " " ++ signed_decimal second ++ newline

abbrev pub compared_text : Comparison → List ℕ
compared_text c = codes "common " ++ decimal c.common ++ newline ++ outcome_text c.common c.outcome

unfoldable pub line_text : Line → List ℕ
line_text (line.Summary s) = summary_text s
line_text (line.Set s) = set_line s.now
line_text (line.Recorded e) = recorded_line e.now
line_text (line.Compared c) = compared_text c
line_text line.Done = codes "done\n"

-- ---- the listings, as functions of what the files stand for

-- how many leadership terms begin by an event: one or none
abbrev pub begun : List ℕ → ℕ
begun event = if is_some (new_term_of 0 event) then 1 else 0

-- the summary of what is kept, with so many entries that begin a term and so many valid sets
abbrev pub summary_with : Kept → ℕ → ℕ → Summary
summary_with kept terms sets = record { candidate = kept.node.term; entries = length kept.log; place = place kept.log; terms = terms; sets = sets }

abbrev pub describe_with : Kept → ℕ → List SnapshotAt → List ℕ
describe_with kept terms sets = line_text (line.Summary (summary_with kept terms (length sets))) ++ set_lines sets ++ line_text line.Done

-- a member: what its files stand for, and its valid sets
abbrev pub describe_text : Kept → List ℕ
describe_text kept = describe_with kept (length (new_terms 0 kept.log)) (sets_of kept.services kept.entries)

abbrev pub recorded_lines : List RecEntry → List ℕ
recorded_lines entries = flat_map recorded_line entries

-- the entries of file 1
abbrev pub recording_text : List RecEntry → List ℕ
recording_text entries = recorded_lines entries ++ line_text line.Done

-- two logs
abbrev pub verify_text : Log → Log → List ℕ
verify_text first second = line_text (line.Compared (compared first second)) ++ line_text line.Done
