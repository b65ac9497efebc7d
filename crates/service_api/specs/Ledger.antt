-- The service that adds amounts.
use Rattle.std.specs.Prelude.{◌≡◌, ℕ, ℤ, pos, ◌+◌, ◌-◌, ◌^◌, ◌<◌, ◌==◌, nat_lt, nat_le, min, if◌then◌else◌, List, [], ◌∷◌, ◌++◌, length, Result, Ok, Err}
use Rattle.wire_prims.specs.Fields.{u64_at, le64}
use Rattle.wire_prims.specs.Header.{bad}
use Rattle.wire_prims.specs.declared.fault.Bad.{Bad}
use Rattle.wire_prims.specs.declared.fault.BadCause.TheVariants as causes
use Rattle.sbe_events.specs.declared.event.Event.{Event}
use Rattle.sbe_events.specs.declared.event.Event.TheVariants as events
use Rattle.sbe_local.specs.declared.command.Command.TheVariants.{Offer}
use Rattle.service_api.specs.declared.output.Output.{Output}
use Rattle.service_api.specs.declared.output.Output.TheVariants.{Egress, Command}

-- the sum of the amounts, and how many service messages of 8 bytes came
pub record Books : Type 0 where
  pub total : ℕ
  pub audits : ℕ

-- what an amount that was added gives: the new total to the session, and from 1,000 on the new total as an offer too
abbrev pub added_outputs : ℤ → ℕ → ℕ → List Output
added_outputs session amount total = if nat_lt amount 1000 then Egress session (le64 total) ∷ [] else Egress session (le64 total) ∷ Command (Offer 0 (pos 1) (le64 total)) ∷ []

-- an amount is added where the new total fits 64 bits; else nothing changes, and the session gets an empty payload
abbrev pub added : Books → ℤ → ℕ → Books × List Output
added b session amount =
    if nat_lt (b.total + amount) (2 ^ 64)
    then (record b { total = b.total + amount }, added_outputs session amount (b.total + amount))
    else (b, Egress session [] ∷ [])

-- one more service message, up to the greatest number of 64 bits
abbrev pub audited : Books → Books
audited b = record b { audits = min (b.audits + 1) (2 ^ 64 - 1) }

-- A session message of 8 bytes is an amount. A service message of 8 bytes is an audit. Nothing else does anything.
abbrev pub entered : Books → Event → Books × List Output
entered b (events.Message term session stamp payload) = if length payload == 8 then added b session (u64_at 0 payload) else (b, [])
entered b (events.ServiceMessage term service number stamp payload) = if length payload == 8 then (audited b, []) else (b, [])
entered b _ = (b, [])

-- the records: the total and the audits, 8 bytes each
abbrev pub spelled_books : Books → List ℕ
spelled_books b = le64 b.total ++ le64 b.audits

-- records have exactly 16 bytes
abbrev pub restored_books : List ℕ → Result Books Bad
restored_books bytes =
    if nat_lt (length bytes) 16 then Err (bad (length bytes) causes.Short)
    else (if nat_lt 16 (length bytes) then Err (bad 16 causes.Trailing) else Ok (record { total = u64_at 0 bytes; audits = u64_at 8 bytes }))

-- both numbers fit 64 bits
abbrev pub IsKept : Books → Type 0
IsKept b = (b.total < 2 ^ 64) × (b.audits < 2 ^ 64)
