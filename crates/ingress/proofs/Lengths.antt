-- How long the spellings of the events are that a client or an operator makes.
use Rattle.std.proofs.Common.{◌≡◌, ℕ, ℤ, ◌+◌, List, [], ◌++◌, length, sym, arith, length-append}
use Rattle.wire_prims.specs.Fields.{le32, length-le32}
use Rattle.wire_prims.specs.Strict.{message, block_size, counted}
use Rattle.wire_prims.specs.StrictLaws.{length-message}
use Rattle.wire_prims.specs.declared.strict.Field.{Field}
use Rattle.sbe_events.specs.Spelling.{fields_of, spelling_of}
use Rattle.sbe_events.specs.declared.event.Event.TheVariants as event

parts_length : (template : ℕ) (fields : List Field) (rest : List ℕ) → length (message template fields ++ rest) ≡ 8 + block_size fields + length rest
parts_length template fields rest = let a = length-append (message template fields) rest in let b = length-message template fields in omega (arith, a, b)

counted_length : (bytes : List ℕ) → length (counted bytes) ≡ 4 + length bytes
counted_length bytes = let a = length-append (le32 (length bytes)) bytes in let b = length-le32 (length bytes) in omega (arith, a, b)

pub length-open : (term corr session stamp stream : ℤ) (channel : List ℕ) → 48 + length channel ≡ length (spelling_of (event.Opened term corr session stamp stream channel))
length-open term corr session stamp stream channel =
    let a = parts_length 21 (fields_of (event.Opened term corr session stamp stream channel)) (counted channel) in
    let b = counted_length channel in
    omega (arith, a, b)

pub length-message-of : (term session stamp : ℤ) (payload : List ℕ) → 32 + length payload ≡ length (spelling_of (event.Message term session stamp payload))
length-message-of term session stamp payload = sym (parts_length 1 (fields_of (event.Message term session stamp payload)) payload)

pub length-close : (term session stamp : ℤ) (reason : ℕ) → 36 ≡ length (spelling_of (event.Closed term session stamp reason))
length-close term session stamp reason = sym (parts_length 22 (fields_of (event.Closed term session stamp reason)) [])

pub length-action : (term position stamp : ℤ) → 36 ≡ length (spelling_of (event.Snapshot term position stamp))
length-action term position stamp = sym (parts_length 23 (fields_of (event.Snapshot term position stamp)) [])
