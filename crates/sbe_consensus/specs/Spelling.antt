-- The one spelling of each packet, and what is first wrong with bytes that spell none.
use Rattle.std.specs.Prelude.{◌≡◌, ◌⊎◌, ℕ, zero, suc, ◌+◌, ◌^◌, ◌<◌, ◌≤◌, ℤ, pos, negsuc, int_le, unsigned_abs, Bool, true, not, ◌&&◌, ◌||◌, nat_le, ◌==◌, List, [], ◌∷◌, ◌++◌, length, take, drop, Option, Some, None, Result, Ok, Err}
use Rattle.cl_base.specs.declared.entry.Entry.{Entry}
use Rattle.wire_prims.specs.Fields.{u16_at, u32_at, i32_at, i64_at}
use Rattle.wire_prims.specs.Header.{bad, header_of}
use Rattle.wire_prims.specs.Strict.{message, counted, ◌or_else◌, unless, rules_fault, strict_fault}
use Rattle.wire_prims.specs.StrictLaws.{Between}
use Rattle.wire_prims.specs.declared.fault.Bad.{Bad}
use Rattle.wire_prims.specs.declared.fault.BadCause.TheVariants as causes
use Rattle.wire_prims.specs.declared.header.Header.{Header}
use Rattle.wire_prims.specs.declared.strict.Field.{Field}
use Rattle.wire_prims.specs.declared.strict.Field.TheVariants.{I64, I32}
use Rattle.wire_prims.specs.declared.strict.Tail.TheVariants.{Nothing}
use Rattle.sbe_events.specs.Spelling as events
use Rattle.sbe_events.specs.declared.event.Event.{Event}
use Rattle.sbe_consensus.specs.Templates.{template_of, rules_of}
use Rattle.sbe_consensus.specs.declared.template.Template.{Template}
use Rattle.sbe_consensus.specs.declared.template.Template.TheVariants as templates
use Rattle.sbe_consensus.specs.declared.packet.Packet.{Packet}
use Rattle.sbe_consensus.specs.declared.packet.Packet.TheVariants.{Canvass, RequestVote, Vote, NewTerm, Append, Commit, LogBatch}

-- ---- which packets have a spelling

-- a term, or a position in bytes
abbrev pub IsNumber : ℤ → Type 0
IsNumber z = Between (pos 0) (pos (2 ^ 62)) z

-- the term of a log's last entry, -1 where it has none
abbrev pub IsLast : ℤ → Type 0
IsLast z = Between (negsuc 0) (pos (2 ^ 62)) z

abbrev pub IsMember : ℤ → Type 0
IsMember z = Between (pos 0) (pos 4) z

-- a new term that nobody asked for
abbrev pub IsUnasked : ℤ → ℤ → ℤ → ℤ → Type 0
IsUnasked asked_term asked_position keep_term keep_position = (asked_term ≡ negsuc 1) × (asked_position ≡ pos 0) × (keep_term ≡ negsuc 0) × (keep_position ≡ pos 0)

-- an answer to a canvass
abbrev pub IsAnswer : ℤ → ℤ → ℤ → ℤ → Type 0
IsAnswer asked_term asked_position keep_term keep_position = IsLast asked_term × IsNumber asked_position × IsLast keep_term × IsNumber keep_position

-- the entry's bytes spell an event, whose term is the entry's
pub record IsEntry (e : Entry) : Type 0 where
  pub event : (v : Event) × (events.event_of e.bytes ≡ Some v) × (e.term ≡ events.term_of v)
  pub short : length e.bytes < 2 ^ 32

abbrev pub AreEntries : List Entry → Type 0
AreEntries [] = Unit {0}
AreEntries (e ∷ es) = IsEntry e × AreEntries es

-- the fields of a packet are in their ranges
abbrev pub HasSpelling : Packet → Type 0
HasSpelling (Canvass log_term log_position candidate_term member) = IsLast log_term × IsNumber log_position × IsLast candidate_term × IsMember member
HasSpelling (RequestVote log_term log_position candidate_term candidate) = IsLast log_term × IsNumber log_position × IsNumber candidate_term × IsMember candidate
HasSpelling (Vote candidate_term log_term log_position candidate follower vote) = IsNumber candidate_term × IsLast log_term × IsNumber log_position × IsMember candidate × IsMember follower × Between (pos 0) (pos 1) vote
HasSpelling (Append term position member) = IsNumber term × IsNumber position × IsMember member
HasSpelling (Commit term position leader) = IsNumber term × IsNumber position × IsMember leader
HasSpelling (NewTerm asked_term asked_position keep_term keep_position term leader) = (IsUnasked asked_term asked_position keep_term keep_position ⊎ IsAnswer asked_term asked_position keep_term keep_position) × IsNumber term × IsMember leader
HasSpelling (LogBatch term start_position leader entries) = IsNumber term × IsNumber start_position × IsMember leader × (1 ≤ length entries) × (length entries ≤ 64) × AreEntries entries

-- ---- the spelling

abbrev pub template_number : Packet → ℕ
template_number (Canvass log_term log_position candidate_term member) = 50
template_number (RequestVote log_term log_position candidate_term candidate) = 51
template_number (Vote candidate_term log_term log_position candidate follower vote) = 52
template_number (Append term position member) = 54
template_number (Commit term position leader) = 55
template_number (NewTerm asked_term asked_position keep_term keep_position term leader) = 53
template_number (LogBatch term start_position leader entries) = 120

-- the numbers of the block, in rising place
abbrev pub fields_of : Packet → List Field
fields_of (Canvass log_term log_position candidate_term member) = I64 log_term ∷ I64 log_position ∷ I64 candidate_term ∷ I32 member ∷ []
fields_of (RequestVote log_term log_position candidate_term candidate) = I64 log_term ∷ I64 log_position ∷ I64 candidate_term ∷ I32 candidate ∷ []
fields_of (Vote candidate_term log_term log_position candidate follower vote) = I64 candidate_term ∷ I64 log_term ∷ I64 log_position ∷ I32 candidate ∷ I32 follower ∷ I32 vote ∷ []
fields_of (Append term position member) = I64 term ∷ I64 position ∷ I32 member ∷ []
fields_of (Commit term position leader) = I64 term ∷ I64 position ∷ I32 leader ∷ []
fields_of (NewTerm asked_term asked_position keep_term keep_position term leader) = I64 asked_term ∷ I64 asked_position ∷ I64 keep_term ∷ I64 keep_position ∷ I64 term ∷ I32 leader ∷ []
fields_of (LogBatch term start_position leader entries) = I64 term ∷ I64 start_position ∷ I32 leader ∷ I32 (pos (length entries)) ∷ []

-- the first number of the block
abbrev pub first_of : Packet → ℤ
first_of (Canvass log_term log_position candidate_term member) = log_term
first_of (RequestVote log_term log_position candidate_term candidate) = log_term
first_of (Vote candidate_term log_term log_position candidate follower vote) = candidate_term
first_of (Append term position member) = term
first_of (Commit term position leader) = term
first_of (NewTerm asked_term asked_position keep_term keep_position term leader) = asked_term
first_of (LogBatch term start_position leader entries) = term

-- the second number of the block
abbrev pub second_of : Packet → ℤ
second_of (Canvass log_term log_position candidate_term member) = log_position
second_of (RequestVote log_term log_position candidate_term candidate) = log_position
second_of (Vote candidate_term log_term log_position candidate follower vote) = log_term
second_of (Append term position member) = position
second_of (Commit term position leader) = position
second_of (NewTerm asked_term asked_position keep_term keep_position term leader) = asked_position
second_of (LogBatch term start_position leader entries) = start_position

-- the first member that a packet names
abbrev pub member_of : Packet → ℤ
member_of (Canvass log_term log_position candidate_term member) = member
member_of (RequestVote log_term log_position candidate_term candidate) = candidate
member_of (Vote candidate_term log_term log_position candidate follower vote) = candidate
member_of (Append term position member) = member
member_of (Commit term position leader) = leader
member_of (NewTerm asked_term asked_position keep_term keep_position term leader) = leader
member_of (LogBatch term start_position leader entries) = leader

-- entries, each event with its length before it
abbrev pub entries_bytes : List Entry → List ℕ
entries_bytes [] = []
entries_bytes (e ∷ es) = counted e.bytes ++ entries_bytes es

abbrev pub content_of : Packet → List ℕ
content_of (Canvass log_term log_position candidate_term member) = []
content_of (RequestVote log_term log_position candidate_term candidate) = []
content_of (Vote candidate_term log_term log_position candidate follower vote) = []
content_of (Append term position member) = []
content_of (Commit term position leader) = []
content_of (NewTerm asked_term asked_position keep_term keep_position term leader) = []
content_of (LogBatch term start_position leader entries) = entries_bytes entries

-- the header and the block, and behind those of a batch its entries
abbrev pub spelling_of : Packet → List ℕ
spelling_of p = message (template_number p) (fields_of p) ++ content_of p

-- ---- the entries of a batch

-- where the part that begins here ends: a length and that many bytes
abbrev pub part_end : ℕ → List ℕ → ℕ
part_end at bytes = at + 4 + u32_at at bytes

abbrev pub part_at : ℕ → List ℕ → List ℕ
part_at at bytes = take (u32_at at bytes) (drop (at + 4) bytes)

-- so many parts are all there, from this place on
abbrev pub parts_there : ℕ → ℕ → List ℕ → Bool
parts_there zero at bytes = true
parts_there (suc n) at bytes = (nat_le (at + 4) (length bytes) && nat_le (part_end at bytes) (length bytes)) && parts_there n (part_end at bytes) bytes

abbrev pub parts_end : ℕ → ℕ → List ℕ → ℕ
parts_end zero at bytes = at
parts_end (suc n) at bytes = parts_end n (part_end at bytes) bytes

-- a fault, its place counted from so many bytes before
abbrev pub shifted : ℕ → Option Bad → Option Bad
shifted by None = None
shifted by (Some b) = Some (bad (by + b.place) b.cause)

-- the first fault of the events
abbrev pub events_fault : ℕ → ℕ → List ℕ → Option Bad
events_fault zero at bytes = None
events_fault (suc n) at bytes = shifted (at + 4) (events.first_fault (part_at at bytes)) or_else events_fault n (part_end at bytes) bytes

-- the entries, each with its event's term
abbrev pub entries_at : ℕ → ℕ → List ℕ → List Entry
entries_at zero at bytes = []
entries_at (suc n) at bytes = record { term = i64_at 8 (part_at at bytes); bytes = part_at at bytes } ∷ entries_at n (part_end at bytes) bytes

-- how many entries a batch names
abbrev pub count_of : List ℕ → ℕ
count_of bytes = unsigned_abs (i32_at 28 bytes)

-- the count is in its range
abbrev pub counts : List ℕ → Bool
counts bytes = int_le (pos 1) (i32_at 28 bytes) && int_le (i32_at 28 bytes) (pos 64)

-- the block is there, but not all the entries that it names
abbrev pub lacks_entries : List ℕ → Bool
lacks_entries bytes = ((u16_at 0 bytes == 24) && nat_le 32 (length bytes)) && (counts bytes && not (parts_there (count_of bytes) 32 bytes))

-- ---- the first fault

-- of a batch: the length of the block, the block, the entries where the count is in its range, the version, the numbers in rising place, the events, and a byte too many
unfoldable pub batch_fault : List ℕ → Option Bad
batch_fault bytes =
    unless (u16_at 0 bytes == 24) (bad 0 causes.Block) or_else
    unless (nat_le 32 (length bytes)) (bad (length bytes) causes.Short) or_else
    unless (not (counts bytes) || parts_there (count_of bytes) 32 bytes) (bad (length bytes) causes.Short) or_else
    unless (u16_at 6 bytes == 0) (bad 6 causes.Value) or_else
    rules_fault (rules_of templates.LogBatch) 8 bytes or_else
    events_fault (count_of bytes) 32 bytes or_else
    unless (nat_le (length bytes) (parts_end (count_of bytes) 32 bytes)) (bad (parts_end (count_of bytes) 32 bytes) causes.Trailing)

abbrev pub body_fault : Template → List ℕ → Option Bad
body_fault templates.LogBatch bytes = batch_fault bytes
body_fault templates.Canvass bytes = strict_fault (rules_of templates.Canvass) Nothing bytes
body_fault templates.RequestVote bytes = strict_fault (rules_of templates.RequestVote) Nothing bytes
body_fault templates.Vote bytes = strict_fault (rules_of templates.Vote) Nothing bytes
body_fault templates.Answer bytes = strict_fault (rules_of templates.Answer) Nothing bytes
body_fault templates.Announcement bytes = strict_fault (rules_of templates.Announcement) Nothing bytes
body_fault templates.Append bytes = strict_fault (rules_of templates.Append) Nothing bytes
body_fault templates.Commit bytes = strict_fault (rules_of templates.Commit) Nothing bytes

abbrev pub template_fault : Option Template → List ℕ → Option Bad
template_fault None bytes = Some (bad 2 causes.Template)
template_fault (Some t) bytes = body_fault t bytes

abbrev pub header_fault : Result Header Bad → List ℕ → Option Bad
header_fault (Err b) bytes = Some b
header_fault (Ok h) bytes = template_fault (template_of bytes) bytes

-- what is first wrong with the bytes: the header, the template, and then what its rules say
unfoldable pub first_fault : List ℕ → Option Bad
first_fault bytes = header_fault (header_of bytes) bytes

-- ---- the reading

-- what stands in the bytes, which have no fault
abbrev pub value_of : Template → List ℕ → Packet
value_of templates.Canvass bytes = Canvass (i64_at 8 bytes) (i64_at 16 bytes) (i64_at 24 bytes) (i32_at 32 bytes)
value_of templates.RequestVote bytes = RequestVote (i64_at 8 bytes) (i64_at 16 bytes) (i64_at 24 bytes) (i32_at 32 bytes)
value_of templates.Vote bytes = Vote (i64_at 8 bytes) (i64_at 16 bytes) (i64_at 24 bytes) (i32_at 32 bytes) (i32_at 36 bytes) (i32_at 40 bytes)
value_of templates.Answer bytes = NewTerm (i64_at 8 bytes) (i64_at 16 bytes) (i64_at 24 bytes) (i64_at 32 bytes) (i64_at 40 bytes) (i32_at 48 bytes)
value_of templates.Announcement bytes = NewTerm (i64_at 8 bytes) (i64_at 16 bytes) (i64_at 24 bytes) (i64_at 32 bytes) (i64_at 40 bytes) (i32_at 48 bytes)
value_of templates.Append bytes = Append (i64_at 8 bytes) (i64_at 16 bytes) (i32_at 24 bytes)
value_of templates.Commit bytes = Commit (i64_at 8 bytes) (i64_at 16 bytes) (i32_at 24 bytes)
value_of templates.LogBatch bytes = LogBatch (i64_at 8 bytes) (i64_at 16 bytes) (i32_at 24 bytes) (entries_at (count_of bytes) 32 bytes)

abbrev pub packet_from : Option Bad → Option Template → List ℕ → Option Packet
packet_from (Some b) t bytes = None
packet_from None None bytes = None
packet_from None (Some t) bytes = Some (value_of t bytes)

-- the packet that the bytes spell, None where they spell none
unfoldable pub packet_of : List ℕ → Option Packet
packet_of bytes = packet_from (first_fault bytes) (template_of bytes) bytes
