-- The records of what an entry owes to clients.
use Rattle.std.specs.Prelude.{ℕ, ◌+◌, ℤ, Bool, true, false, ◌&&◌, int_le, if◌then◌else◌, List, [], ◌∷◌, ◌++◌, map, filter, nat_eq, Option, Some, None}
use Rattle.commit_counter.specs.declared.role.Role.{Role}
use Rattle.commit_counter.specs.declared.role.Role.TheVariants.{Follower, Leader}
use Rattle.egress.specs.declared.sent.Sent.{Sent}
use Rattle.sbe_events.specs.declared.event.Event.{Event}
use Rattle.sbe_events.specs.Spelling.{term_of}
use Rattle.service_api.specs.declared.output.Output.{Output}
use Rattle.service_api.specs.declared.output.Output.TheVariants as outputs
use Rattle.session_manager.specs.Sessions.{session_of}
use Rattle.module_state.specs.declared.output.ModuleOutput.{ModuleOutput}
use Rattle.module_state.specs.Module.{Module}
use Rattle.module_state.specs.Places.{stamp_of}
use Rattle.module_state.specs.Owed.{Sending, message_to, owed_by_outputs}
use Rattle.module_state.specs.Outputs.{outputs_of}

-- a member that began a phase in this role sends what an entry of this term owes
abbrev pub sends_of : Role → ℤ → Bool
sends_of Follower t = false
sends_of (Leader term) t = int_le term t && int_le t term

-- what is owed at an entry, by a service or by the module, numbered from n on
abbrev pub numbered : ℕ → Option ℕ → ℕ → List ModuleOutput → List Sent
numbered index service n [] = []
numbered index service n (o ∷ os) =
    record { stream = o.stream; entry = Some index; service = service; number = n; bytes = o.bytes } ∷ numbered index service (n + 1) os

-- the records that are sent of them
abbrev pub sent_of : Bool → ℕ → Option ℕ → List ModuleOutput → List Sent
sent_of sends index service os = if sends then numbered index service 0 os else []

-- an output without the index of its entry
abbrev pub output_in : ℕ × Output → Output
output_in o = o.1

-- what a service owes by its outputs at an event, after which the module is m
abbrev pub owed_outputs : Module → Event → List (ℕ × Output) → List ModuleOutput
owed_outputs m e os = outputs_of (owed_by_outputs m e (map output_in os))

-- what one output owes
abbrev pub owed_by_one : Module → Event → Output → List Sending
owed_by_one m e (outputs.Egress session payload) = message_to (term_of e) (stamp_of e) session payload (session_of m.sessions session)
owed_by_one m e (outputs.Command c) = []
