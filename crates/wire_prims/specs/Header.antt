-- The eight bytes before each message.
use Rattle.std.specs.Prelude.{ℕ, ◌+◌, ◌*◌, ◌/◌, List, length, Result, Ok, Err, nat_lt, ◌==◌, if◌then◌else◌}
use Rattle.wire_prims.specs.Fields.{u16_at}
use Rattle.wire_prims.specs.declared.fault.Bad.{Bad}
use Rattle.wire_prims.specs.declared.fault.BadCause.{BadCause}
use Rattle.wire_prims.specs.declared.fault.BadCause.TheVariants.{Short, Schema}
use Rattle.wire_prims.specs.declared.header.Header.{Header}

abbrev pub bad : ℕ → BadCause → Bad
bad place cause = record { place = place; cause = cause }

-- the four numbers of a header
abbrev pub numbers_of : List ℕ → Header
numbers_of bytes = record { block = u16_at 0 bytes; template = u16_at 2 bytes; schema = u16_at 4 bytes; version = u16_at 6 bytes }

-- the header of bytes, or what is wrong with it: fewer than 8 bytes, or another schema
abbrev pub header_of : List ℕ → Result Header Bad
header_of bytes = if nat_lt (length bytes) 8 then Err (bad (length bytes) Short) else (if u16_at 4 bytes == 111 then Ok (numbers_of bytes) else Err (bad 4 Schema))

-- the least multiple of 32 that is at least this
abbrev pub aligned_to : ℕ → ℕ
aligned_to n = (n + 31) / 32 * 32
