-- What the end of a member's phase takes: the containers as they came back, and what their outboxes make of the module.
use Rattle.std.specs.Prelude.{◌≡◌, ℕ, List, [], map, Option, Some, None, if◌then◌else◌}
use Rattle.cl_base.specs.declared.entry.Entry.{Entry}
use Rattle.commit_counter.specs.declared.role.Role.{Role}
use Rattle.commit_counter.specs.declared.role.Role.TheVariants.{Follower, Leader}
use Rattle.consensus_core.specs.declared.values.Values.{Values}
use Rattle.consensus_core.specs.Member.{is_ready}
use Rattle.member_module.specs.Held.{Held as ModuleHeld}
use Rattle.module_state.specs.Module.{Module, module_asked}
use Rattle.owed_egress.specs.Outbox.{IndicesRise}
use Rattle.owed_egress.specs.Taken.{Outboxes}
use Rattle.service_api.specs.declared.output.Output.{Output}
use Rattle.service_api.specs.declared.output.Output.TheVariants as outputs
use Rattle.service_container.specs.Held.{Held}
use Rattle.service_phases.specs.Pairs.{Each}

-- the role in which a member with these values begins a phase: that of its term's leader where it is ready to lead
abbrev pub role_in : Values → Role
role_in v = if is_ready v.election.state then Leader v.election.term else Follower

-- the module after one output of a service
abbrev pub asked_by : Module → ℕ → Output → Module
asked_by m service (outputs.Command c) = module_asked m service c
asked_by m service (outputs.Egress session payload) = m

-- each container's number, with its outbox
abbrev pub outboxes : List Held → Outboxes
outboxes cs = map (λ (c : Held). (c.service, c.outbox)) cs

-- in each outbox the outputs stand in the order of their entries
abbrev pub HaveRising : List Held → Type 0
HaveRising cs = Each (λ (c : Held). IndicesRise c.outbox) cs

-- what a container consumed, if there is one
abbrev pub inputs_of : Option Held → List Entry
inputs_of None = []
inputs_of (Some c) = c.inputs

-- what stays of a module while it takes the entries ahead
pub record IsTaking (a b : ModuleHeld) : Type 0 where
  pub consumed : b.consumed ≡ a.consumed
  pub ahead : b.ahead ≡ a.ahead
  pub coming : b.coming ≡ a.coming
  pub alive : b.alive ≡ a.alive
  pub since : b.since ≡ a.since

-- and once it has taken them
pub record HasConsumed (a b : ModuleHeld) : Type 0 where
  pub coming : b.coming ≡ a.coming
  pub alive : b.alive ≡ a.alive
  pub since : b.since ≡ a.since
