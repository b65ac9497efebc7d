-- What entries make of the module, and what they owe to clients, by what came out of the services at them.
use Rattle.std.specs.Prelude.{ℕ, suc, ◌+◌, Bool, List, [], ◌∷◌, ◌++◌, map, take, drop, Option, Some, None}
use Rattle.cl_base.specs.declared.entry.Entry.{Entry}
use Rattle.commit_counter.specs.declared.role.Role.{Role}
use Rattle.egress.specs.declared.sent.Sent.{Sent}
use Rattle.sbe_events.specs.declared.event.Event.{Event}
use Rattle.sbe_events.specs.Spelling.{term_of}
use Rattle.service_api.specs.declared.output.Output.{Output}
use Rattle.service_api.specs.declared.shipped.Kind.{Kind}
use Rattle.service_api.specs.declared.shipped.Shipped.{Shipped}
use Rattle.service_api.specs.Service.{outbox_from, state_of}
use Rattle.module_state.specs.Module.{Module, module_after, module_part}
use Rattle.module_state.specs.Outputs.{outputs_of}
use Rattle.module_state.specs.Owed.{owed_by_module}
use Rattle.module_state.specs.Part.{Asked, after_asks}
use Rattle.module_state.specs.Places.{log_of}
use Rattle.module_state.specs.Services.{asks_among}
use Rattle.owed_egress.specs.Outbox.{outputs_in}
use Rattle.owed_egress.specs.Records.{output_in, owed_outputs, sends_of, sent_of}

-- each service's number and its outbox, by rising number
abbrev pub Outboxes : Type 0
Outboxes = List (ℕ × List (ℕ × Output))

-- ---- one entry

-- what the services ask at the entry of an index
abbrev pub asks_at : ℕ → Outboxes → List Asked
asks_at i [] = []
asks_at i (b ∷ bs) = asks_among b.0 (map output_in (outputs_in i b.1)) ++ asks_at i bs

-- the module after the entry of an index with this event: it takes the event, and then what the services ask
abbrev pub module_at : Outboxes → ℕ → Module → Event → Module
module_at bs i m e = after_asks module_part (module_after m e) (asks_at i bs)

-- the records of what the services owe at it, once the module has taken its event
abbrev pub sent_by_services : Bool → ℕ → Module → Event → Outboxes → List Sent
sent_by_services sends i m e [] = []
sent_by_services sends i m e (b ∷ bs) = sent_of sends i (Some b.0) (owed_outputs m e (outputs_in i b.1)) ++ sent_by_services sends i m e bs

-- the records of what it owes, of a member that began its phase in this role: the module's, and then the services'
abbrev pub sent_at : Role → Outboxes → ℕ → Module → Event → List Sent
sent_at role bs i m e =
    sent_of (sends_of role (term_of e)) i None (outputs_of (owed_by_module m e))
    ++ sent_by_services (sends_of role (term_of e)) i (module_after m e) e bs

-- ---- the entry of an index, where it has an event

abbrev pub module_with : Outboxes → ℕ → Module → Option Event → Module
module_with bs i m None = m
module_with bs i m (Some e) = module_at bs i m e

abbrev pub sent_with : Role → Outboxes → ℕ → Module → Option Event → List Sent
sent_with role bs i m None = []
sent_with role bs i m (Some e) = sent_at role bs i m e

-- ---- entries from an index on

-- the module after entries with these events
abbrev pub module_over : Outboxes → ℕ → Module → List Event → Module
module_over bs i m [] = m
module_over bs i m (e ∷ es) = module_over bs (i + 1) (module_at bs i m e) es

-- the records of what they owe, in order
abbrev pub sent_over : Role → Outboxes → ℕ → Module → List Event → List Sent
sent_over role bs i m [] = []
sent_over role bs i m (e ∷ es) = sent_at role bs i m e ++ sent_over role bs (i + 1) (module_at bs i m e) es

-- ---- the outboxes of services of these kinds

-- what services in these states, from service v on, put into their outboxes over entries from an index on
abbrev pub outboxes_from : ℕ → List Shipped → ℕ → List Entry → Outboxes
outboxes_from v [] i xs = []
outboxes_from v (s ∷ ss) i xs = (v, outbox_from s i xs) ∷ outboxes_from (suc v) ss i xs

-- the states of services over the entries of these events
abbrev pub states_over : List Kind → List Event → List Shipped
states_over kinds es = map (λ (kind : Kind). state_of kind (log_of es)) kinds

-- what came out over the n events past the first ones of a log
abbrev pub outboxes_in : List Kind → List Event → ℕ → ℕ → Outboxes
outboxes_in kinds log first n = outboxes_from 0 (states_over kinds (take first log)) first (take n (drop first (log_of log)))
