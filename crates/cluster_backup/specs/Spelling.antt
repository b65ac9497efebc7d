-- The one spelling of each packet, and what is first wrong with bytes that spell none.
use Rattle.std.specs.Prelude.{◌≡◌, ℕ, zero, suc, ◌+◌, ◌^◌, ◌<◌, ◌≤◌, ℤ, pos, negsuc, int_le, unsigned_abs, Bool, not, ◌&&◌, ◌||◌, nat_le, ◌==◌, List, [], ◌∷◌, ◌++◌, length, Option, Some, None, Result, Ok, Err, FitsSigned}
use Rattle.std.specs.Int.{w32, w64}
use Rattle.wire_prims.specs.Fields.{u16_at, i32_at, i64_at}
use Rattle.wire_prims.specs.Header.{bad, header_of}
use Rattle.wire_prims.specs.Strict.{message, ◌or_else◌, unless, rules_fault, strict_fault}
use Rattle.wire_prims.specs.declared.fault.Bad.{Bad}
use Rattle.wire_prims.specs.declared.fault.BadCause.TheVariants as causes
use Rattle.wire_prims.specs.declared.fault.DecodeFault.{DecodeFault}
use Rattle.wire_prims.specs.declared.fault.DecodeFault.TheVariants as faults
use Rattle.wire_prims.specs.declared.header.Header.{Header}
use Rattle.wire_prims.specs.declared.strict.Field.{Field}
use Rattle.wire_prims.specs.declared.strict.Field.TheVariants.{I64, I32}
use Rattle.wire_prims.specs.declared.strict.Tail.TheVariants.{Nothing}
use Rattle.sbe_events.specs.Spelling as events
use Rattle.sbe_local.specs.Pieces.{first_fault_piece}
use Rattle.sbe_consensus.specs.Spelling.{IsNumber, IsLast, part_end, part_at, parts_there, parts_end, shifted}
use Rattle.snapshot_store.specs.Snapshots.{spelled}
use Rattle.cluster_backup.specs.Templates.{template_of, query_rules, rules_in, block, least, most}
use Rattle.cluster_backup.specs.declared.part.Part.{Part}
use Rattle.cluster_backup.specs.declared.part.Part.TheVariants as part
use Rattle.cluster_backup.specs.declared.template.Template.{Template}
use Rattle.cluster_backup.specs.declared.template.Template.TheVariants as templates
use Rattle.cluster_backup.specs.declared.packet.BackupPacket.{BackupPacket}
use Rattle.cluster_backup.specs.declared.packet.BackupPacket.TheVariants.{Query, Log, Snapshot}

-- ---- which packets have a spelling

-- what is first wrong with bytes that spell no such part
abbrev pub part_fault : Part → List ℕ → Option Bad
part_fault part.Event bytes = events.first_fault bytes
part_fault part.Piece bytes = first_fault_piece bytes

-- an event or a piece in its strict form, of fewer than 2^32 bytes
abbrev pub IsPart : Part → List ℕ → Type 0
IsPart k bytes = (part_fault k bytes ≡ None) × (length bytes < 2 ^ 32)

abbrev pub AreParts : Part → List (List ℕ) → Type 0
AreParts k [] = Unit {0}
AreParts k (b ∷ bs) = IsPart k b × AreParts k bs

-- the fields of a packet are in their ranges
abbrev pub HasSpelling : BackupPacket → Type 0
HasSpelling (Query entries position) = IsNumber entries × IsLast position
HasSpelling (Log start events) = IsNumber start × (1 ≤ length events) × (length events ≤ 64) × AreParts part.Event events
HasSpelling (Snapshot recording term position stamp service pieces) =
    FitsSigned w64 recording × IsNumber term × IsNumber position × IsNumber stamp × FitsSigned w32 service × (length pieces < 2 ^ 31) × AreParts part.Piece pieces

-- ---- the spelling

abbrev pub template_number : BackupPacket → ℕ
template_number (Query entries position) = 56
template_number (Log start events) = 57
template_number (Snapshot recording term position stamp service pieces) = 58

-- the numbers of the block, in rising place
abbrev pub fields_of : BackupPacket → List Field
fields_of (Query entries position) = I64 entries ∷ I64 position ∷ []
fields_of (Log start events) = I64 start ∷ I32 (pos (length events)) ∷ []
fields_of (Snapshot recording term position stamp service pieces) = I64 recording ∷ I64 term ∷ I64 position ∷ I64 stamp ∷ I32 service ∷ I32 (pos (length pieces)) ∷ []

-- the parts behind the block, each with its length before it
abbrev pub content_of : BackupPacket → List ℕ
content_of (Query entries position) = []
content_of (Log start events) = spelled events
content_of (Snapshot recording term position stamp service pieces) = spelled pieces

-- the header, the block and the parts
abbrev pub spelling_of : BackupPacket → List ℕ
spelling_of p = message (template_number p) (fields_of p) ++ content_of p

-- ---- the parts in bytes

-- the first fault of so many parts from a place on, its place counted from the first byte
abbrev pub parts_fault : Part → ℕ → ℕ → List ℕ → Option Bad
parts_fault k zero at bytes = None
parts_fault k (suc n) at bytes = shifted (at + 4) (part_fault k (part_at at bytes)) or_else parts_fault k n (part_end at bytes) bytes

-- so many parts, from a place on
abbrev pub parts_at : ℕ → ℕ → List ℕ → List (List ℕ)
parts_at zero at bytes = []
parts_at (suc n) at bytes = part_at at bytes ∷ parts_at n (part_end at bytes) bytes

-- the count, which is the last number of the block
abbrev pub count_in : Part → List ℕ → ℤ
count_in k bytes = i32_at (4 + block k) bytes

abbrev pub count_of : Part → List ℕ → ℕ
count_of k bytes = unsigned_abs (count_in k bytes)

-- the count is in its range
abbrev pub counts : Part → List ℕ → Bool
counts k bytes = int_le (least k) (count_in k bytes) && int_le (count_in k bytes) (most k)

-- where the parts begin
abbrev pub front : Part → ℕ
front k = 8 + block k

-- the parts that the count names are all there
abbrev pub has_parts : Part → List ℕ → Bool
has_parts k bytes = parts_there (count_of k bytes) (front k) bytes

abbrev pub end_of : Part → List ℕ → ℕ
end_of k bytes = parts_end (count_of k bytes) (front k) bytes

-- the block is there, but not all the parts that it names
abbrev pub lacks_parts : Part → List ℕ → Bool
lacks_parts k bytes = ((u16_at 0 bytes == block k) && nat_le (front k) (length bytes)) && (counts k bytes && not (has_parts k bytes))

-- ---- the first fault

-- of a packet with parts: the length of the block, the block, the parts where the count is in its range, the version, the numbers in rising place, the parts, and a byte too many
unfoldable pub counted_fault : Part → List ℕ → Option Bad
counted_fault k bytes =
    unless (u16_at 0 bytes == block k) (bad 0 causes.Block) or_else
    unless (nat_le (front k) (length bytes)) (bad (length bytes) causes.Short) or_else
    unless (not (counts k bytes) || has_parts k bytes) (bad (length bytes) causes.Short) or_else
    unless (u16_at 6 bytes == 0) (bad 6 causes.Value) or_else
    rules_fault (rules_in k) 8 bytes or_else
    parts_fault k (count_of k bytes) (front k) bytes or_else
    unless (nat_le (length bytes) (end_of k bytes)) (bad (end_of k bytes) causes.Trailing)

abbrev pub body_fault : Template → List ℕ → Option Bad
body_fault templates.Query bytes = strict_fault query_rules Nothing bytes
body_fault templates.Log bytes = counted_fault part.Event bytes
body_fault templates.Snapshot bytes = counted_fault part.Piece bytes

abbrev pub template_fault : Option Template → List ℕ → Option Bad
template_fault None bytes = Some (bad 2 causes.Template)
template_fault (Some t) bytes = body_fault t bytes

abbrev pub header_fault : Result Header Bad → List ℕ → Option Bad
header_fault (Err b) bytes = Some b
header_fault (Ok h) bytes = template_fault (template_of bytes) bytes

-- what is first wrong with the bytes: the header, the template, and then what its rules say
unfoldable pub first_fault : List ℕ → Option Bad
first_fault bytes = header_fault (header_of bytes) bytes

-- a check found this fault, or no memory
abbrev pub IsFault : Option Bad → DecodeFault → Type 0
IsFault fault (faults.Bad b) = fault ≡ Some b
IsFault fault faults.NoMemory = Unit {0}

-- ---- the reading

-- what stands in the bytes, which have no fault
abbrev pub value_of : Template → List ℕ → BackupPacket
value_of templates.Query bytes = Query (i64_at 8 bytes) (i64_at 16 bytes)
value_of templates.Log bytes = Log (i64_at 8 bytes) (parts_at (count_of part.Event bytes) 20 bytes)
value_of templates.Snapshot bytes = Snapshot (i64_at 8 bytes) (i64_at 16 bytes) (i64_at 24 bytes) (i64_at 32 bytes) (i32_at 40 bytes) (parts_at (count_of part.Piece bytes) 48 bytes)

abbrev pub packet_from : Option Bad → Option Template → List ℕ → Option BackupPacket
packet_from (Some b) t bytes = None
packet_from None None bytes = None
packet_from None (Some t) bytes = Some (value_of t bytes)

-- the packet that the bytes spell, None where they spell none
unfoldable pub packet_of : List ℕ → Option BackupPacket
packet_of bytes = packet_from (first_fault bytes) (template_of bytes) bytes
