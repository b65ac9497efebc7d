-- What commands and pieces have in common.
use Rattle.std.specs.Prelude.{◌≡◌, ℕ, ◌-◌, ◌^◌, ℤ, pos, ◌==◌, nat_lt, if◌then◌else◌, List, ◌++◌, length, Option, Some, None, Result, Ok, Err}
use Rattle.wire_prims.specs.Fields.{u16_at}
use Rattle.wire_prims.specs.Header.{bad}
use Rattle.wire_prims.specs.Strict.{message}
use Rattle.wire_prims.specs.StrictLaws.{Between, tail_spelling}
use Rattle.wire_prims.specs.declared.fault.Bad.{Bad}
use Rattle.wire_prims.specs.declared.fault.BadCause.TheVariants as causes
use Rattle.wire_prims.specs.declared.fault.DecodeFault.{DecodeFault}
use Rattle.wire_prims.specs.declared.fault.DecodeFault.TheVariants as faults
use Rattle.wire_prims.specs.declared.strict.Field.{Field}
use Rattle.wire_prims.specs.declared.strict.Rule.{Rule}
use Rattle.wire_prims.specs.declared.strict.Rule.TheVariants.{Wide}
use Rattle.wire_prims.specs.declared.strict.Tail.{Tail}

-- a message: its template and the numbers of its block, and what follows the block
abbrev pub spelled : ℕ → List Field → Tail → List ℕ → List ℕ
spelled template fields tail content = message template fields ++ tail_spelling tail content

-- a term, a position, a time or a count: 0 to 2^62
abbrev pub IsNumber : ℤ → Type 0
IsNumber z = Between (pos 0) (pos (2 ^ 62)) z

abbrev pub number : Rule
number = Wide (pos 0) (pos (2 ^ 62))

-- a session: at least 1
abbrev pub IsSession : ℤ → Type 0
IsSession z = Between (pos 1) (pos (2 ^ 63 - 1)) z

-- the number of a service's message: 1 to 2^47
abbrev pub IsMessageNumber : ℤ → Type 0
IsMessageNumber z = Between (pos 1) (pos (2 ^ 47)) z

-- the first fault of bytes: a header must be there, its schema must be 111, and then what its template asks for
abbrev pub first_fault_by : (ℕ → List ℕ → Option Bad) → List ℕ → Option Bad
first_fault_by past bytes = if nat_lt (length bytes) 8 then Some (bad (length bytes) causes.Short) else (if u16_at 4 bytes == 111 then past (u16_at 2 bytes) bytes else Some (bad 4 causes.Schema))

-- the answer of a decoder: the value where there is no fault, the fault where there is one, and out of memory only where there is none
abbrev pub Decodes : {V : Type 0} → Result V DecodeFault → Option Bad → V → Type 0
Decodes (Ok v) fault value = (v ≡ value) × (fault ≡ None)
Decodes (Err (faults.Bad b)) fault value = fault ≡ Some b
Decodes (Err faults.NoMemory) fault value = fault ≡ None
