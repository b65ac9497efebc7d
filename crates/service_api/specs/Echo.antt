-- The service that gives each message back. It has one state, and its records are empty.
use Rattle.std.specs.Prelude.{List, [], ◌∷◌, ℕ, Result, Ok, Err}
use Rattle.wire_prims.specs.declared.fault.Bad.{Bad}
use Rattle.wire_prims.specs.declared.fault.BadCause.TheVariants as causes
use Rattle.sbe_events.specs.declared.event.Event.{Event}
use Rattle.sbe_events.specs.declared.event.Event.TheVariants as events
use Rattle.service_api.specs.declared.output.Output.{Output}
use Rattle.service_api.specs.declared.output.Output.TheVariants.{Egress}

-- a session message gives its payload back to its session, and no other event gives anything
abbrev pub echoed : Event → List Output
echoed (events.Message term session stamp payload) = Egress session payload ∷ []
echoed _ = []

-- any byte is one too many
abbrev pub restored_echo : List ℕ → Result (Unit {0}) Bad
restored_echo [] = Ok tt
restored_echo (b ∷ bs) = Err (record { place = 0; cause = causes.Trailing })
