-- The jobs that lanes were lent.
use Rattle.std.specs.Prelude.{◌≡◌, Option, Some, None, List, [], ◌∷◌, ◌++◌}
use Rattle.service_container.specs.declared.container.Served.{Served}
use Rattle.service_phases.specs.Pairs.{Each2}
use Rattle.service_phases.specs.Phases.{Ran}

-- nothing is lent
abbrev pub IsIdle : Option Served → Type 0
IsIdle l = l ≡ None

-- the jobs that these lanes were lent, in order
abbrev pub jobs_of : List (Option Served) → List Served
jobs_of [] = []
jobs_of (None ∷ ls) = jobs_of ls
jobs_of (Some j ∷ ls) = j ∷ jobs_of ls

-- these jobs ran, and what they became stands behind what was there
abbrev pub Adds : List Served → List Served → List Served → Type 0
Adds jobs old new = (more : List Served) × (new ≡ old ++ more) × Each2 Ran jobs more
