-- The text of a report: one line for each thing that is told, each ended by a line feed.
use Rattle.std.specs.Prelude.{ℕ, suc, ℤ, List, [], ◌∷◌, ◌++◌, length, codes, Option, Some, None}
use Rattle.std.specs.List.{flat_map}
use Rattle.std.specs.Fmt.{decimal, signed_decimal}
use Rattle.cl_base.specs.declared.entry.Entry.{Entry}
use Rattle.egress.specs.declared.sent.Sent.{Sent}
use Rattle.recording_log.specs.declared.entry.SnapshotAt.{SnapshotAt}
use Rattle.cluster_client.specs.declared.runs.Got.{Got}
use Rattle.line_text.specs.Pieces.{hex_text, newline, count}
use Rattle.line_text.specs.Events.{bytes_text}
use Rattle.run_report.specs.declared.line.EntryKind.{EntryKind}
use Rattle.run_report.specs.declared.line.EntryKind.TheVariants as kinds
use Rattle.run_report.specs.declared.line.RunAt.{RunAt}
use Rattle.run_report.specs.declared.line.MemberAt.{MemberAt}
use Rattle.run_report.specs.declared.line.BackupAt.{BackupAt}
use Rattle.run_report.specs.declared.line.Made.{Made}
use Rattle.run_report.specs.declared.line.Line.{Line}
use Rattle.run_report.specs.declared.line.Line.TheVariants as line

abbrev pub word_of : EntryKind → List ℕ
word_of kinds.Printed = codes "entry"
word_of kinds.Consumed = codes "in"
word_of kinds.Own = codes "own"

-- a word, the entry's number, its term and its event
unfoldable pub entry_line : EntryKind → ℕ → Entry → List ℕ
entry_line kind index e = word_of kind ++ codes " " ++ decimal index ++ codes " " ++ signed_decimal e.term ++ codes " " ++ bytes_text e.bytes ++ newline

-- entries with their numbers, from i on
abbrev pub entry_lines : EntryKind → ℕ → List Entry → List ℕ
entry_lines kind i [] = []
entry_lines kind i (e ∷ es) = entry_line kind i e ++ entry_lines kind (suc i) es

abbrev pub log_line : ℕ → List ℕ
log_line n = codes "log " ++ decimal n ++ newline

-- a run of a service: its member, its service, its number, where it began, and how much it consumed
abbrev pub run_line : RunAt → ℕ → List ℕ
run_line r n = codes "service " ++ decimal r.member ++ codes " " ++ decimal r.service ++ codes " run " ++ decimal r.run ++ codes " from " ++ decimal r.from ++ codes " count " ++ decimal n ++ newline

abbrev pub stream_line : ℤ → ℕ → List ℕ
stream_line stream n = codes "stream " ++ signed_decimal stream ++ codes " egress " ++ decimal n ++ newline

-- what owes a record: its entry, and the module or a service with the number of the record
abbrev pub origin_text : Option ℕ → Option ℕ → ℕ → List ℕ
origin_text None service number = codes "- direct"
origin_text (Some entry) None number = decimal entry ++ codes " module"
origin_text (Some entry) (Some service) number = decimal entry ++ codes " service " ++ decimal service ++ codes " " ++ decimal number

unfoldable pub record_line : Sent → List ℕ
record_line s = codes "out " ++ origin_text s.entry s.service s.number ++ codes " " ++ hex_text s.bytes ++ newline

-- a joined client, and how many messages it was handed
abbrev pub client_line : ℕ → ℕ → List ℕ
client_line client n = codes "client " ++ decimal client ++ codes " handed " ++ decimal n ++ newline

-- a message that a joined client was handed: the term in which it was sent, and what it says
unfoldable pub got_line : Got → List ℕ
got_line g = codes "got " ++ signed_decimal g.term ++ codes " " ++ hex_text g.payload ++ newline

abbrev pub state_text : Option ℕ → List ℕ
state_text None = codes "down"
state_text (Some commit) = codes "up"

abbrev pub commit_text : Option ℕ → List ℕ
commit_text None = codes "-"
commit_text (Some commit) = decimal commit

abbrev pub member_front : MemberAt → List ℕ
member_front m = codes "member " ++ decimal m.member ++ codes " " ++ state_text m.commit ++ codes " candidate " ++ signed_decimal m.candidate ++ codes " entries " ++ decimal m.entries ++ codes " same " ++ decimal m.same

abbrev pub member_back : Option ℕ → ℕ → List ℕ
member_back commit sets = codes " commit " ++ commit_text commit ++ count (codes " snapshots ") sets ++ newline

-- a member, and how many valid snapshot sets it has
abbrev pub member_line : MemberAt → ℕ → List ℕ
member_line m sets = member_front m ++ member_back m.commit sets

abbrev pub unread_line : ℕ → List ℕ
unread_line member = count (codes "member ") member ++ codes " down unread" ++ newline

abbrev pub damaged_line : ℕ → ℕ → ℕ → List ℕ
damaged_line member file place = count (codes "member ") member ++ count (codes " down damaged ") file ++ count (codes " ") place ++ newline

-- the backup, and how many valid snapshot sets it has
abbrev pub backup_line : BackupAt → ℕ → List ℕ
backup_line b sets = count (codes "backup entries ") b.entries ++ count (codes " same ") b.same ++ count (codes " snapshots ") sets ++ newline

abbrev pub backup_unread_line : List ℕ
backup_unread_line = codes "backup unread" ++ newline

abbrev pub backup_damaged_line : ℕ → ℕ → List ℕ
backup_damaged_line file place = count (codes "backup damaged ") file ++ count (codes " ") place ++ newline

unfoldable pub set_line : SnapshotAt → List ℕ
set_line s = codes "snapshot " ++ decimal s.position ++ codes " " ++ signed_decimal s.term ++ newline

abbrev pub made_front : Made → List ℕ
made_front m = codes "made " ++ decimal m.messages ++ newline ++ codes "entries " ++ decimal m.entries ++ newline ++ codes "place " ++ decimal m.place ++ newline ++ codes "terms " ++ decimal m.terms ++ newline

abbrev pub made_back : Made → List ℕ
made_back m = codes "refused " ++ decimal m.refused ++ newline ++ codes "egress " ++ decimal m.egress ++ newline ++ codes "inputs " ++ decimal m.inputs ++ newline

unfoldable pub line_text : Line → List ℕ
line_text (line.Log n) = log_line n
line_text (line.Entry kind index e) = entry_line kind index e.now
line_text (line.Run r n) = run_line r n
line_text (line.Stream stream n) = stream_line stream n
line_text (line.Record s) = record_line s.now
line_text (line.Client client n) = client_line client n
line_text (line.Got g) = got_line g.now
line_text (line.Member m sets) = member_line m sets
line_text (line.Unread member) = unread_line member
line_text (line.Damaged member file place) = damaged_line member file place
line_text (line.Backup b sets) = backup_line b sets
line_text line.BackupUnread = backup_unread_line
line_text (line.BackupDamaged file place) = backup_damaged_line file place
line_text (line.Set s) = set_line s.now
line_text (line.Made m) = made_front m ++ made_back m
line_text line.Done = codes "done" ++ newline

abbrev pub record_lines : List Sent → List ℕ
record_lines sent = flat_map record_line sent

abbrev pub got_lines : List Got → List ℕ
got_lines got = flat_map got_line got

abbrev pub set_lines : List SnapshotAt → List ℕ
set_lines sets = flat_map set_line sets

-- ---- the sections of a report

-- the printed log
abbrev pub log_text : List Entry → List ℕ
log_text entries = line_text (line.Log (length entries)) ++ entry_lines kinds.Printed 0 entries

-- a run of a service, and what it consumed
abbrev pub run_text : RunAt → List Entry → List ℕ
run_text r inputs = line_text (line.Run r (length inputs)) ++ entry_lines kinds.Consumed r.from inputs

-- a stream that has a record
abbrev pub stream_text : ℤ → List Sent → List ℕ
stream_text stream [] = []
stream_text stream (s ∷ sent) = line_text (line.Stream stream (length (s ∷ sent))) ++ record_lines (s ∷ sent)

-- a joined client, and what it was handed
abbrev pub client_text : ℕ → List Got → List ℕ
client_text client got = line_text (line.Client client (length got)) ++ got_lines got

-- a member, its own entries from where its log leaves the printed one, and its valid snapshot sets
abbrev pub member_text : MemberAt → List Entry → List SnapshotAt → List ℕ
member_text m own sets = line_text (line.Member m (length sets)) ++ entry_lines kinds.Own m.same own ++ set_lines sets

-- the backup, and its valid snapshot sets
abbrev pub backup_text : BackupAt → List SnapshotAt → List ℕ
backup_text b sets = line_text (line.Backup b (length sets)) ++ set_lines sets
