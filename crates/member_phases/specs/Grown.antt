-- What the services of a member became in a phase.
use Rattle.std.specs.Prelude.{ℕ, ◌≤◌, List, length}
use Rattle.entry_log.specs.Log.{Log}
use Rattle.run_orders.specs.Stands.{HaveInputs}
use Rattle.run_phases.specs.Grown.{Grew}
use Rattle.service_api.specs.declared.shipped.Kind.{Kind}
use Rattle.service_container.specs.Held.{Held}
use Rattle.service_phases.specs.Pairs.{Each, Each2}
use Rattle.service_phases.specs.Phases.{HasAll, IsAt}

-- services that began with so many entries of this log, and had consumed those before an index, consumed it up to a commit
pub record GrewTo (kinds : List Kind) (log : Log) (base applied commit : ℕ) (cs ds : List Held) (inputs : List Log) : Type 0 where
  pub low : base ≤ length log
  pub due : applied ≤ commit
  pub within : commit ≤ length log
  pub have : HaveInputs kinds base log 0 cs inputs
  pub at : Each (IsAt applied) cs
  pub grew : Each2 Grew cs ds
  pub all : Each (HasAll log commit) ds
