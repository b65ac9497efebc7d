-- What a member starts from besides its disk.
use Rattle.std.specs.Prelude.{◌≡◌, ℕ, suc, ◌≤◌, ◌==◌, if◌then◌else◌, List, [], ◌∷◌, length, take, None}
use Rattle.entry_log.specs.Shape.{Shape, end_of, ends_by}
use Rattle.member_module.specs.Held.{Held as ModuleHeld}
use Rattle.module_state.specs.Entries.{events_in}
use Rattle.module_state.specs.Module.{first_module}
use Rattle.service_api.specs.declared.shipped.Kind.{Kind}
use Rattle.service_api.specs.Shipped.{first_of}
use Rattle.service_container.specs.Held.{Held as ContainerHeld, begun}
use Rattle.service_phases.specs.Pairs.{Each}
use Rattle.service_phases.specs.Phases.{IsAt}
use Rattle.consensus_agent.specs.declared.mounting.Start.{Start}

-- a module that has been in no reign: no event comes, there are no keep-alives, and the events ahead are those of the entries
pub record IsNew (m : ModuleHeld) : Type 0 where
  pub events : m.ahead.events ≡ events_in m.ahead.entries
  pub coming : m.coming ≡ None
  pub alive : m.alive ≡ []
  pub since : m.since ≡ 0

-- the services and the module go on at the same entry
pub record IsStart (s : Start) : Type 0 where
  pub services : Each (IsAt s.base) s.containers.items
  pub consumed : s.module.consumed ≡ s.base
  pub bound : s.base ≤ 16777216
  pub fresh : IsNew s.module

-- how many entries of a log of this shape end at a place, where one ends right there, else 0
abbrev pub ends_at : ℕ → Shape → ℕ
ends_at place xs = if end_of (take (ends_by place xs) xs) == place then ends_by place xs else 0

-- the containers of services of these kinds before any entry, from this number on
abbrev pub first_containers : ℕ → List Kind → List ContainerHeld
first_containers number [] = []
first_containers number (kind ∷ kinds) = begun number 0 (first_of kind) ∷ first_containers (suc number) kinds

-- the services and the module are before any entry
pub record IsFirst (kinds : List Kind) (s : Start) : Type 0 where
  pub base : s.base ≡ 0
  pub services : s.containers.items ≡ first_containers 0 kinds
  pub state : s.module.state ≡ first_module (length kinds)
