-- The one spelling of each piece of a snapshot, and what is first wrong with bytes that spell none.
use Rattle.std.specs.Prelude.{ℕ, ℤ, pos, negsuc, ◌+◌, ◌-◌, ◌≤◌, ◌^◌, Bool, true, false, ◌&&◌, ◌==◌, nat_le, unsigned_abs, if◌then◌else◌, List, [], ◌∷◌, length, take, drop, Option, Some, FitsSigned}
use Rattle.std.specs.Int.{w32, w64}
use Rattle.std.specs.Ordering.{int_eq}
use Rattle.wire_prims.specs.Fields.{u32_at, i32_at, i64_at}
use Rattle.wire_prims.specs.Header.{bad}
use Rattle.wire_prims.specs.Strict.{strict_fault}
use Rattle.wire_prims.specs.StrictLaws.{Between}
use Rattle.wire_prims.specs.declared.fault.Bad.{Bad}
use Rattle.wire_prims.specs.declared.fault.BadCause.TheVariants as causes
use Rattle.wire_prims.specs.declared.strict.Field.TheVariants.{I64, I32}
use Rattle.wire_prims.specs.declared.strict.Rule.{Rule}
use Rattle.wire_prims.specs.declared.strict.Rule.TheVariants.{Wide, Narrow, AnyWide, AnyNarrow}
use Rattle.wire_prims.specs.declared.strict.Tail.TheVariants.{Nothing, Counted}
use Rattle.sbe_local.specs.Messages.{spelled, IsNumber, number, IsSession, IsMessageNumber, first_fault_by}
use Rattle.sbe_local.specs.declared.piece.Mark.{Mark}
use Rattle.sbe_local.specs.declared.piece.Mark.TheVariants.{Begin, End}
use Rattle.sbe_local.specs.declared.piece.Piece.{Piece}
use Rattle.sbe_local.specs.declared.piece.Piece.TheVariants.{Marker, Session, Timer, Module, Pending, ServiceState, Counter}

-- how many messages of a service: 0 to 2^47
abbrev pub IsMessageCount : ℤ → Type 0
IsMessageCount z = Between (pos 0) (pos (2 ^ 47)) z

-- the fields of a piece are in their ranges
abbrev pub HasPieceSpelling : Piece → Type 0
HasPieceSpelling (Marker service position term mark) = Between (negsuc 0) (pos 2) service × IsNumber position × IsNumber term
HasPieceSpelling (Session id corr stamp stream closing channel) = IsSession id × FitsSigned w64 corr × IsNumber stamp × FitsSigned w32 stream × (length channel ≤ 1024)
HasPieceSpelling (Timer corr deadline) = FitsSigned w64 corr × IsNumber deadline
HasPieceSpelling (Module next_session actions entries leader) = Between (pos 1) (pos (2 ^ 62)) next_session × IsNumber actions × IsNumber entries × Between (negsuc 0) (pos 4) leader
HasPieceSpelling (Pending n service payload) = IsMessageNumber n × (service ≤ 2) × (length payload ≤ 16384)
HasPieceSpelling (ServiceState bytes) = length bytes ≤ 2 ^ 32 - 1
HasPieceSpelling (Counter offered appended service) = IsMessageCount offered × IsMessageCount appended × (service ≤ 2)

-- the number of a mark
abbrev pub mark_number : Mark → ℤ
mark_number Begin = pos 0
mark_number End = pos 2

abbrev pub flag_number : Bool → ℤ
flag_number false = pos 0
flag_number true = pos 1

unfoldable pub piece_spelling_of : Piece → List ℕ
piece_spelling_of (Marker service position term mark) = spelled 100 (I64 service ∷ I64 position ∷ I64 term ∷ I32 (pos 0) ∷ I32 (mark_number mark) ∷ []) Nothing []
piece_spelling_of (Session id corr stamp stream closing channel) = spelled 110 (I64 id ∷ I64 corr ∷ I64 stamp ∷ I32 stream ∷ I32 (flag_number closing) ∷ []) (Counted 1024) channel
piece_spelling_of (Timer corr deadline) = spelled 111 (I64 corr ∷ I64 deadline ∷ []) Nothing []
piece_spelling_of (Module next_session actions entries leader) = spelled 112 (I64 next_session ∷ I64 actions ∷ I64 entries ∷ I32 leader ∷ []) Nothing []
piece_spelling_of (Pending n service payload) = spelled 113 (I64 n ∷ I32 (pos service) ∷ []) (Counted 16384) payload
piece_spelling_of (ServiceState bytes) = spelled 114 [] (Counted (2 ^ 32 - 1)) bytes
piece_spelling_of (Counter offered appended service) = spelled 115 (I64 offered ∷ I64 appended ∷ I32 (pos service) ∷ []) Nothing []

-- ---- the rules of each piece's numbers

-- a marker's mark is 0 or 2: it is asked to be 2 where it is, and 0 where it isn't
abbrev pub mark_of : List ℕ → ℤ
mark_of bytes = if nat_le 40 (length bytes) && int_eq (i32_at 36 bytes) (pos 2) then pos 2 else pos 0

abbrev pub marker_rules : ℤ → List Rule
marker_rules mark = Wide (negsuc 0) (pos 2) ∷ number ∷ number ∷ Narrow (pos 0) (pos 0) ∷ Narrow mark mark ∷ []

abbrev pub session_rules : List Rule
session_rules = Wide (pos 1) (pos (2 ^ 63 - 1)) ∷ AnyWide ∷ number ∷ AnyNarrow ∷ Narrow (pos 0) (pos 1) ∷ []

abbrev pub timer_rules : List Rule
timer_rules = AnyWide ∷ number ∷ []

abbrev pub module_rules : List Rule
module_rules = Wide (pos 1) (pos (2 ^ 62)) ∷ number ∷ number ∷ Narrow (negsuc 0) (pos 4) ∷ []

abbrev pub pending_rules : List Rule
pending_rules = Wide (pos 1) (pos (2 ^ 47)) ∷ Narrow (pos 0) (pos 2) ∷ []

abbrev pub state_rules : List Rule
state_rules = []

abbrev pub counter_rules : List Rule
counter_rules = Wide (pos 0) (pos (2 ^ 47)) ∷ Wide (pos 0) (pos (2 ^ 47)) ∷ Narrow (pos 0) (pos 2) ∷ []

-- ---- the first fault

-- past the schema, by the template
abbrev pub piece_fault : ℕ → List ℕ → Option Bad
piece_fault n bytes =
    if n == 100 then strict_fault (marker_rules (mark_of bytes)) Nothing bytes else
    (if n == 110 then strict_fault session_rules (Counted 1024) bytes else
    (if n == 111 then strict_fault timer_rules Nothing bytes else
    (if n == 112 then strict_fault module_rules Nothing bytes else
    (if n == 113 then strict_fault pending_rules (Counted 16384) bytes else
    (if n == 114 then strict_fault state_rules (Counted (2 ^ 32 - 1)) bytes else
    (if n == 115 then strict_fault counter_rules Nothing bytes else
    Some (bad 2 causes.Template)))))))

unfoldable pub first_fault_piece : List ℕ → Option Bad
first_fault_piece bytes = first_fault_by piece_fault bytes

-- the bytes at a place that have their number before them
abbrev pub counted_in : ℕ → List ℕ → List ℕ
counted_in at bytes = take (u32_at at bytes) (drop (at + 4) bytes)

-- what stands in bytes without a fault, by the template
abbrev pub piece_value : ℕ → List ℕ → Piece
piece_value n bytes =
    if n == 100 then Marker (i64_at 8 bytes) (i64_at 16 bytes) (i64_at 24 bytes) (if int_eq (i32_at 36 bytes) (pos 2) then End else Begin) else
    (if n == 110 then Session (i64_at 8 bytes) (i64_at 16 bytes) (i64_at 24 bytes) (i32_at 32 bytes) (int_eq (i32_at 36 bytes) (pos 1)) (counted_in 40 bytes) else
    (if n == 111 then Timer (i64_at 8 bytes) (i64_at 16 bytes) else
    (if n == 112 then Module (i64_at 8 bytes) (i64_at 16 bytes) (i64_at 24 bytes) (i32_at 32 bytes) else
    (if n == 113 then Pending (i64_at 8 bytes) (unsigned_abs (i32_at 16 bytes)) (counted_in 20 bytes) else
    (if n == 114 then ServiceState (counted_in 8 bytes) else
    Counter (i64_at 8 bytes) (i64_at 16 bytes) (unsigned_abs (i32_at 24 bytes)))))))
