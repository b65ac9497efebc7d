-- What containers become while they consume.
use Rattle.std.specs.Prelude.{◌≡◌, List, [], ◌++◌}
use Rattle.cl_base.specs.declared.entry.Entry.{Entry}
use Rattle.service_container.specs.Held.{Held, Applies}
use Rattle.service_phases.specs.Pairs.{Each2}
use Rattle.service_phases.specs.Phases.{Lending, forgetting}

-- a container consumed these entries more, and applied them where it is still whole
pub record GoesOn (c d : Held) : Type 0 where
  pub more : List Entry
  pub applies : Applies c d more

-- a container through a phase, at whose beginning its outbox was emptied
abbrev pub Grew : Held → Held → Type 0
Grew c d = GoesOn (forgetting c) d

-- the containers of a phase came back, behind those that are kept
pub record CameBack (a b : Lending) : Type 0 where
  pub back : List Held
  pub went : Each2 GoesOn a.lent back
  pub lending : b ≡ record { kept = a.kept ++ back; lent = []; begun = [] }
