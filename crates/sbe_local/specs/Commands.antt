-- The one spelling of each command, and what is first wrong with bytes that spell none.
use Rattle.std.specs.Prelude.{ℕ, pos, negsuc, ◌≤◌, ◌==◌, if◌then◌else◌, List, [], ◌∷◌, length, drop, Option, Some, FitsSigned}
use Rattle.std.specs.Int.{w64}
use Rattle.wire_prims.specs.Fields.{i32_at, i64_at}
use Rattle.wire_prims.specs.Header.{bad}
use Rattle.wire_prims.specs.Strict.{service_session, service_of, number_of, strict_fault}
use Rattle.wire_prims.specs.StrictLaws.{Between}
use Rattle.wire_prims.specs.declared.fault.Bad.{Bad}
use Rattle.wire_prims.specs.declared.fault.BadCause.TheVariants as causes
use Rattle.wire_prims.specs.declared.strict.Field.TheVariants.{I64, I32}
use Rattle.wire_prims.specs.declared.strict.Rule.{Rule}
use Rattle.wire_prims.specs.declared.strict.Rule.TheVariants.{Wide, Narrow, AnyWide, Service}
use Rattle.wire_prims.specs.declared.strict.Tail.TheVariants.{Nothing, Rest}
use Rattle.sbe_local.specs.Messages.{spelled, IsNumber, number, IsMessageNumber, first_fault_by}
use Rattle.sbe_local.specs.declared.command.Command.{Command}
use Rattle.sbe_local.specs.declared.command.Command.TheVariants.{CloseSession, Schedule, Cancel, Offer, Ack}

-- the fields of a command are in their ranges
abbrev pub HasCommandSpelling : Command → Type 0
HasCommandSpelling (CloseSession session) = FitsSigned w64 session
HasCommandSpelling (Schedule corr deadline) = FitsSigned w64 corr × FitsSigned w64 deadline
HasCommandSpelling (Cancel corr) = FitsSigned w64 corr
HasCommandSpelling (Offer service number payload) = (service ≤ 2) × IsMessageNumber number × (length payload ≤ 16384)
HasCommandSpelling (Ack position service) = IsNumber position × Between (pos 0) (pos 2) service

-- an offer has the shape of a message in the log: no term, the session of a service's message, no stamp, and the payload to the end
unfoldable pub command_spelling_of : Command → List ℕ
command_spelling_of (CloseSession session) = spelled 30 (I64 session ∷ []) Nothing []
command_spelling_of (Schedule corr deadline) = spelled 31 (I64 corr ∷ I64 deadline ∷ []) Nothing []
command_spelling_of (Cancel corr) = spelled 32 (I64 corr ∷ []) Nothing []
command_spelling_of (Offer service number payload) = spelled 1 (I64 (negsuc 0) ∷ I64 (service_session service number) ∷ I64 (pos 0) ∷ []) (Rest 16384) payload
command_spelling_of (Ack position service) = spelled 33 (I64 position ∷ I32 service ∷ []) Nothing []

abbrev pub offer_rules : List Rule
offer_rules = Wide (negsuc 0) (negsuc 0) ∷ Service ∷ Wide (pos 0) (pos 0) ∷ []

-- the first fault past the schema, by the template
abbrev pub command_fault : ℕ → List ℕ → Option Bad
command_fault n bytes =
    if n == 1 then strict_fault offer_rules (Rest 16384) bytes else
    (if n == 30 then strict_fault (AnyWide ∷ []) Nothing bytes else
    (if n == 31 then strict_fault (AnyWide ∷ AnyWide ∷ []) Nothing bytes else
    (if n == 32 then strict_fault (AnyWide ∷ []) Nothing bytes else
    (if n == 33 then strict_fault (number ∷ Narrow (pos 0) (pos 2) ∷ []) Nothing bytes else
    Some (bad 2 causes.Template)))))

unfoldable pub first_fault_command : List ℕ → Option Bad
first_fault_command bytes = first_fault_by command_fault bytes

-- what stands in bytes without a fault, by the template
abbrev pub command_value : ℕ → List ℕ → Command
command_value n bytes =
    if n == 1 then Offer (service_of (i64_at 16 bytes)) (number_of (i64_at 16 bytes)) (drop 32 bytes) else
    (if n == 30 then CloseSession (i64_at 8 bytes) else
    (if n == 31 then Schedule (i64_at 8 bytes) (i64_at 16 bytes) else
    (if n == 32 then Cancel (i64_at 8 bytes) else
    Ack (i64_at 8 bytes) (i32_at 16 bytes))))

-- the command is an offer, whose payload goes to the end
abbrev pub IsOffer : Command → Type 0
IsOffer (Offer service n payload) = Unit {0}
IsOffer (CloseSession session) = ⊥
IsOffer (Schedule corr deadline) = ⊥
IsOffer (Cancel corr) = ⊥
IsOffer (Ack position service) = ⊥
