-- The bytes of an event, counted.
use Rattle.std.proofs.Common.{◌≡◌, ℕ, ◌+◌, ◌≤◌, List, [], ◌++◌, length, arith, length-append}
use Rattle.wire_prims.specs.Fields.{le32, length-le32}
use Rattle.wire_prims.specs.Strict.{message, block_size, counted}
use Rattle.wire_prims.specs.StrictLaws.{length-message}
use Rattle.wire_prims.specs.declared.strict.Field.{Field}
use Rattle.sbe_events.specs.Spelling.{HasSpelling, fields_of}
use Rattle.sbe_events.specs.declared.event.Event.{Event}
use Rattle.sbe_events.specs.declared.event.Event.TheVariants as event
use Rattle.echo_run.specs.Module.{event_len}

parts_length : (template : ℕ) (fields : List Field) (rest : List ℕ) → length (message template fields ++ rest) ≡ 8 + block_size fields + length rest
parts_length template fields rest = let a = length-append (message template fields) rest in let b = length-message template fields in omega (arith, a, b)

counted_length : (bytes : List ℕ) → length (counted bytes) ≡ 4 + length bytes
counted_length bytes = let a = length-append (le32 (length bytes)) bytes in let b = length-le32 (length bytes) in omega (arith, a, b)

-- the bytes of an event, counted: a header of 8, its block, and what follows that
abbrev pub counted_len : Event → ℕ
counted_len (event.Term term position stamp base leader) = 48
counted_len (event.Opened term corr session stamp stream channel) = 48 + length channel
counted_len (event.Message term session stamp payload) = 32 + length payload
counted_len (event.ServiceMessage term service number stamp payload) = 32 + length payload
counted_len (event.Timer term corr stamp) = 32
counted_len (event.Closed term session stamp reason) = 36
counted_len (event.Snapshot term position stamp) = 36

pub len_counted : (e : Event) → event_len e ≡ counted_len e
unfolding event_len
len_counted (event.Term term position stamp base leader) = parts_length 24 (fields_of (event.Term term position stamp base leader)) []
len_counted (event.Opened term corr session stamp stream channel) =
    let a = parts_length 21 (fields_of (event.Opened term corr session stamp stream channel)) (counted channel) in
    let b = counted_length channel in
    omega (arith, a, b)
len_counted (event.Message term session stamp payload) = parts_length 1 (fields_of (event.Message term session stamp payload)) payload
len_counted (event.ServiceMessage term service number stamp payload) = parts_length 1 (fields_of (event.ServiceMessage term service number stamp payload)) payload
len_counted (event.Timer term corr stamp) = parts_length 20 (fields_of (event.Timer term corr stamp)) []
len_counted (event.Closed term session stamp reason) = parts_length 22 (fields_of (event.Closed term session stamp reason)) []
len_counted (event.Snapshot term position stamp) = parts_length 23 (fields_of (event.Snapshot term position stamp)) []

counted_short : (e : Event) → HasSpelling e → counted_len e ≤ 32768
counted_short (event.Term term position stamp base leader) s = omega arith
counted_short (event.Opened term corr session stamp stream channel) s = let short = s.5 in omega arith
counted_short (event.Message term session stamp payload) s = let short = s.3 in omega arith
counted_short (event.ServiceMessage term service number stamp payload) s = let short = s.4 in omega arith
counted_short (event.Timer term corr stamp) s = omega arith
counted_short (event.Closed term session stamp reason) s = omega arith
counted_short (event.Snapshot term position stamp) s = omega arith

-- an event that has a spelling is short enough for the log
pub spelled_short : (e : Event) → HasSpelling e → event_len e ≤ 32768
spelled_short e s = let a = len_counted e in let b = counted_short e s in omega arith

counted_least : (e : Event) → 32 ≤ counted_len e
counted_least (event.Term term position stamp base leader) = omega arith
counted_least (event.Opened term corr session stamp stream channel) = omega arith
counted_least (event.Message term session stamp payload) = omega arith
counted_least (event.ServiceMessage term service number stamp payload) = omega arith
counted_least (event.Timer term corr stamp) = omega arith
counted_least (event.Closed term session stamp reason) = omega arith
counted_least (event.Snapshot term position stamp) = omega arith

-- no event is shorter than its header and the shortest block
pub len_least : (e : Event) → 32 ≤ event_len e
len_least e = let a = len_counted e in let b = counted_least e in omega arith
