-- Strict messages: what such a message is made of, and the first fault of bytes that aren't one.
use Rattle.std.specs.Prelude.{ℕ, ◌+◌, ◌-◌, ◌*◌, ◌/◌, ◌%◌, ◌^◌, ℤ, pos, negsuc, ◌+ℤ◌, ◌-ℤ◌, Bool, true, false, ◌&&◌, ◌||◌, ◌==◌, nat_le, int_le, if◌then◌else◌, List, [], ◌∷◌, ◌++◌, length, Option, Some, None}
use Rattle.std.specs.Ordering.{int_eq}
use Rattle.wire_prims.specs.Fields.{u16_at, u32_at, i32_at, i64_at, le16, le32, signed32, signed64}
use Rattle.wire_prims.specs.Header.{bad}
use Rattle.wire_prims.specs.declared.fault.Bad.{Bad}
use Rattle.wire_prims.specs.declared.fault.BadCause.TheVariants.{Short, Block, Value, Trailing}
use Rattle.wire_prims.specs.declared.strict.Field.{Field}
use Rattle.wire_prims.specs.declared.strict.Field.TheVariants.{I64, I32}
use Rattle.wire_prims.specs.declared.strict.Rule.{Rule}
use Rattle.wire_prims.specs.declared.strict.Rule.TheVariants.{Wide, Narrow, AnyWide, AnyNarrow, Repeat, Sender, Service}
use Rattle.wire_prims.specs.declared.strict.Tail.{Tail}
use Rattle.wire_prims.specs.declared.strict.Tail.TheVariants.{Nothing, Rest, Counted}

-- ---- what a message is made of

abbrev pub field_bytes : Field → List ℕ
field_bytes (I64 z) = signed64 z
field_bytes (I32 z) = signed32 z

abbrev pub field_size : Field → ℕ
field_size (I64 z) = 8
field_size (I32 z) = 4

-- a block: its numbers, one after the other
abbrev pub block_bytes : List Field → List ℕ
block_bytes [] = []
block_bytes (f ∷ fs) = field_bytes f ++ block_bytes fs

abbrev pub block_size : List Field → ℕ
block_size [] = 0
block_size (f ∷ fs) = field_size f + block_size fs

-- a message's header and block: the block's length, the template, schema 111 and version 0, each in two bytes, and the block
unfoldable pub message : ℕ → List Field → List ℕ
message template fields = le16 (block_size fields) ++ (le16 template ++ (le16 111 ++ (le16 0 ++ block_bytes fields)))

-- bytes with their number before them, in four bytes
abbrev pub counted : List ℕ → List ℕ
counted bytes = le32 (length bytes) ++ bytes

-- the session under which a service's message of this number stands in the log
abbrev pub service_session : ℕ → ℤ → ℤ
service_session service number = negsuc 0 -ℤ (pos (service * 2 ^ 48) +ℤ number)

-- the service and the number that a session names, where it is a service message's
abbrev pub service_of : ℤ → ℕ
service_of (pos n) = 0
service_of (negsuc n) = n / 2 ^ 48

abbrev pub number_of : ℤ → ℤ
number_of (pos n) = pos 0
number_of (negsuc n) = pos (n % 2 ^ 48)

-- a service 0 to 2 and a number 1 to 2^47
abbrev pub is_service_session : ℤ → Bool
is_service_session (pos n) = false
is_service_session (negsuc n) = nat_le (n / 2 ^ 48) 2 && (nat_le 1 (n % 2 ^ 48) && nat_le (n % 2 ^ 48) (2 ^ 47))

-- ---- the first fault

infixl 10 ◌or_else◌
-- the first of two faults
abbrev pub ◌or_else◌ : Option Bad → Option Bad → Option Bad
None or_else other = other
(Some b) or_else other = Some b

-- a fault, unless the test passes
abbrev pub unless : Bool → Bad → Option Bad
unless true b = None
unless false b = Some b

abbrev pub rule_size : Rule → ℕ
rule_size (Wide low high) = 8
rule_size (Narrow low high) = 4
rule_size AnyWide = 8
rule_size AnyNarrow = 4
rule_size (Repeat back) = 8
rule_size Sender = 8
rule_size Service = 8

abbrev pub rules_size : List Rule → ℕ
rules_size [] = 0
rules_size (r ∷ rs) = rule_size r + rules_size rs

-- the number at this place has a value that the rule allows
abbrev pub passes : Rule → ℕ → List ℕ → Bool
passes (Wide low high) at bytes = int_le low (i64_at at bytes) && int_le (i64_at at bytes) high
passes (Narrow low high) at bytes = int_le low (i32_at at bytes) && int_le (i32_at at bytes) high
passes AnyWide at bytes = true
passes AnyNarrow at bytes = true
passes (Repeat back) at bytes = int_eq (i64_at at bytes) (i64_at (at - back) bytes)
passes Sender at bytes = int_le (pos 1) (i64_at at bytes) || is_service_session (i64_at at bytes)
passes Service at bytes = is_service_session (i64_at at bytes)

-- the first number, from this place on, whose value its rule doesn't allow
abbrev pub rules_fault : List Rule → ℕ → List ℕ → Option Bad
rules_fault [] at bytes = None
rules_fault (r ∷ rs) at bytes = if passes r at bytes then rules_fault rs (at + rule_size r) bytes else Some (bad at Value)

-- what follows the block, which ends at this place, is all there
abbrev pub tail_there : Tail → ℕ → List ℕ → Bool
tail_there Nothing at bytes = true
tail_there (Rest limit) at bytes = true
tail_there (Counted limit) at bytes = nat_le (at + 4) (length bytes) && nat_le (at + 4 + u32_at at bytes) (length bytes)

-- too many bytes follow the block
abbrev pub tail_fault : Tail → ℕ → List ℕ → Option Bad
tail_fault Nothing at bytes = unless (nat_le (length bytes) at) (bad at Trailing)
tail_fault (Rest limit) at bytes = unless (nat_le (length bytes - at) limit) (bad at Value)
tail_fault (Counted limit) at bytes = unless (nat_le (u32_at at bytes) limit) (bad at Value) or_else unless (nat_le (length bytes) (at + 4 + u32_at at bytes)) (bad (at + 4 + u32_at at bytes) Trailing)

-- the first fault past schema and template: the length of the block, the block and what follows it must be there, the version, the numbers in rising place, and what follows the block
unfoldable pub strict_fault : List Rule → Tail → List ℕ → Option Bad
strict_fault rules tail bytes =
    unless (u16_at 0 bytes == rules_size rules) (bad 0 Block) or_else
    unless (nat_le (8 + rules_size rules) (length bytes)) (bad (length bytes) Short) or_else
    unless (tail_there tail (8 + rules_size rules) bytes) (bad (length bytes) Short) or_else
    unless (u16_at 6 bytes == 0) (bad 6 Value) or_else
    rules_fault rules 8 bytes or_else
    tail_fault tail (8 + rules_size rules) bytes
