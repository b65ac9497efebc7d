-- What an entry of the log owes to clients, as the module and the echo service have it.
use Rattle.std.specs.Prelude.{ℕ, suc, ◌+◌, ℤ, nat_le, List, [], ◌∷◌, ◌++◌, length, Option, Some, None, if◌then◌else◌}
use Rattle.sbe_events.specs.declared.event.Event.{Event}
use Rattle.sbe_events.specs.declared.event.Event.TheVariants as event
use Rattle.sbe_client.specs.declared.egress.Egress.TheVariants as egress
use Rattle.service_api.specs.declared.output.Output.{Output}
use Rattle.service_api.specs.declared.output.Output.TheVariants as output
use Rattle.service_api.specs.Echo.{echoed}
use Rattle.sbe_events.specs.Spelling.{term_of, stamp_of}
use Rattle.echo_run.specs.Module.{module_after, session_of}
use Rattle.echo_run.specs.declared.sent.Origin.{Origin}
use Rattle.echo_run.specs.declared.sent.Origin.TheVariants as origin
use Rattle.echo_run.specs.declared.module.Session.{Session}
use Rattle.echo_run.specs.declared.module.Module.{Module}
use Rattle.echo_run.specs.declared.sent.Sent.{Sent}

-- the news of a new leader to each session, numbered
abbrev pub new_leader_to : ℕ → ℕ → ℤ → ℤ → List Session → List Sent
new_leader_to i j term leader [] = []
new_leader_to i j term leader (s ∷ sessions) =
    record { stream = s.stream; origin = origin.Module i j; egress = egress.NewLeader term s.id leader } ∷ new_leader_to i (suc j) term leader sessions

-- a message to a session that is closed
abbrev pub closed_to : ℕ → ℤ → ℤ → Option Session → List Sent
closed_to i term leader None = []
closed_to i term leader (Some s) = record { stream = s.stream; origin = origin.Module i 0; egress = egress.SessionEvent s.id s.corr term leader 4 } ∷ []

-- what the module owes at entry i: at an open that it is open, at a close that it is closed, at a new term the news to each session
abbrev pub owed_by_module : Module → ℕ → Event → List Sent
owed_by_module m i (event.Term term position stamp base leader) = new_leader_to i 0 term leader m.sessions
owed_by_module m i (event.Opened term corr session stamp stream channel) = record { stream = stream; origin = origin.Module i 0; egress = egress.SessionEvent session corr term m.leader 0 } ∷ []
owed_by_module m i (event.Closed term session stamp reason) = closed_to i term m.leader (session_of m session)
owed_by_module m i _ = []

-- a message of a service's, where its session is open and it isn't too long
abbrev pub given_to : Origin → ℤ → ℤ → ℤ → List ℕ → Option Session → List Sent
given_to o term stamp session payload None = []
given_to o term stamp session payload (Some s) =
    if nat_le (length payload) 16384 then record { stream = s.stream; origin = o; egress = egress.Message term session stamp payload } ∷ [] else []

-- What service v owes by its outputs at entry i, of this term and stamp, after which the module is this. Those that are
-- owed are numbered from j.
abbrev pub owed_outputs : Module → ℕ → ℕ → ℤ → ℤ → ℕ → List Output → List Sent
owed_outputs m i v term stamp j [] = []
owed_outputs m i v term stamp j (output.Egress session payload ∷ rest) =
    given_to (origin.Service i v j) term stamp session payload (session_of m session)
    ++ owed_outputs m i v term stamp (j + length (given_to (origin.Service i v j) term stamp session payload (session_of m session))) rest
owed_outputs m i v term stamp j (output.Command command ∷ rest) = owed_outputs m i v term stamp j rest

abbrev pub owed_by_echo : Module → ℕ → Event → List Sent
owed_by_echo m i e = owed_outputs m i 0 (term_of e) (stamp_of e) 0 (echoed e)

-- what entry i owes, where the module was this before it: the module's part, and then the service's
abbrev pub owed : Module → ℕ → Event → List Sent
owed m i e = owed_by_module m i e ++ owed_by_echo (module_after m e) i e
