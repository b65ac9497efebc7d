-- What a reader of bytes answers.
use Rattle.std.specs.Prelude.{◌≡◌, Result, Ok, Err}
use Rattle.wire_prims.specs.declared.fault.Bad.{Bad}
use Rattle.wire_prims.specs.declared.fault.DecodeFault.{DecodeFault}
use Rattle.wire_prims.specs.declared.fault.DecodeFault.TheVariants as faults

-- The answer is what the bytes say: the value, or their first fault. Want of memory alone may come in its place.
abbrev pub Reads : {T : Type 0} → Result T Bad → Result T DecodeFault → Type 0
Reads said (Ok v) = said ≡ Ok v
Reads said (Err (faults.Bad b)) = said ≡ Err b
Reads said (Err faults.NoMemory) = Unit {0}
