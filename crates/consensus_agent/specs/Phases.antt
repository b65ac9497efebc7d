-- A member's phase.
use Rattle.std.specs.Prelude.{Bool}
use Rattle.consensus_core.specs.Fit.{Held as CoreHeld}
use Rattle.member_module.specs.Held.{Held as ModuleHeld}
use Rattle.service_phases.specs.Phases.{Lending}
use Rattle.service_phases.specs.Stages.{Stage}

-- where a member stands in its phases, by its services, its module, its part in the agreement, and whether the phase is over
abbrev pub stage : Lending → ModuleHeld → CoreHeld → Bool → Stage
stage lending m c over = record { lending = lending; first = m.consumed; commit = c.values.rest.commit; over = over }
