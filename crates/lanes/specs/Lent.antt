-- The rule of a lane: one job at most is lent. It is in the queue, or with the thread, as it was or when it ran.
use Rattle.std.specs.Prelude.{◌≡◌, ℕ, Bool, true, Option, Some, None, List, [], ◌∷◌}
use mathlib.Core.Option.{some}
use lib.ListN.{get_elem?}
use Rattle.service_container.specs.declared.container.Served.{Served}
use Rattle.service_phases.specs.Phases.{Ran}
use Rattle.lanes.specs.declared.rule.Message.{Message}
use Rattle.lanes.specs.declared.rule.Message.TheVariants.{Job as Lone, Done}
use Rattle.lanes.specs.declared.rule.Hold.{Hold}

-- what a pass may do, what it has lent and what it has taken out
abbrev pub hold : Bool → Bool → Option Served → Option Message → Hold
hold drives works lent has = record { drives = drives; works = works; lent = lent; has = has }

-- the job of a message that has one
abbrev pub job_of : Message → Option Served
job_of (Lone j) = Some j.served
job_of (Done s) = None

-- the message is this job, or what it became
abbrev pub Stands : Served → Message → Type 0
Stands j (Lone k) = k.served ≡ j
Stands j (Done s) = Ran j s

-- the message stands for what is lent
abbrev pub StandsFor : Option Served → Message → Type 0
StandsFor None m = Unit {0}
StandsFor (Some j) m = Stands j m

-- where the job that is lent is: in the queue or with the thread, and nothing else is there
abbrev pub AtRest : Option Served → Option Message → List Message → Type 0
AtRest None None [] = Unit {0}
AtRest (Some j) None (m ∷ []) = Stands j m
AtRest (Some j) (Some m) [] = Stands j m
AtRest _ _ _ = ⊥

-- the pass at this port knows what is lent where it drives, and what the thread has where it works
abbrev pub Fits : ℕ → ℕ → Option Served → Option Message → ℕ → Hold → Type 0
Fits driver worker lent has port v = (v.drives ≡ true → (port ≡ driver) × (v.lent ≡ lent)) × (v.works ≡ true → (port ≡ worker) × (v.has ≡ has))

-- the rule
abbrev pub Lent : List Message → List Hold → Type 0
Lent items views = (driver : ℕ) × (worker : ℕ) × (lent : Option Served) × (has : Option Message) × AtRest lent has items
    × ((port : ℕ) (v : Hold) → get_elem? views port ≡ some v → Fits driver worker lent has port v)
