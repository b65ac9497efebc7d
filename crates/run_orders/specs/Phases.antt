-- Phases that go on over the orders of a scenario: what they may make of a world before, between and after the calls of members.
use Rattle.std.specs.Prelude.{◌≡◌, ℕ, Bool, true, false, not, List}
use Rattle.std.specs.List.{AllByRecursion}
use Rattle.service_api.specs.declared.shipped.Kind.{Kind}
use Rattle.run_world.specs.Seat.{Phase, Goes, is_resting}
use Rattle.run_world.specs.RunWorld.{RunWorld, Act, Begins, Takes, Closes, Writes, Sends, Fails, seat, is_up, does, after_acts}

-- acts lead from one world to another
abbrev pub Leads : List Kind → RunWorld → RunWorld → Type 0
Leads kinds w v = (acts : List Act) × (v ≡ after_acts kinds w acts)

-- the acts of a phase, the fault that ends it included
abbrev pub is_of_phase : Act → Bool
is_of_phase (Begins m) = true
is_of_phase (Takes m k) = true
is_of_phase (Closes m) = true
is_of_phase (Writes m f) = true
is_of_phase (Sends m) = true
is_of_phase (Fails m own) = true
is_of_phase _ = false

-- acts of phases lead from one world to another
pub record PhasesAct (kinds : List Kind) (w v : RunWorld) : Type 0 where
  pub acts : List Act
  pub phases : AllByRecursion (λ a. is_of_phase a ≡ true) acts
  pub becomes : v ≡ after_acts kinds w acts

-- a phase that feeds its services, and is not over
abbrev pub goes_on : Phase → Bool
goes_on (Goes role over) = not over
goes_on _ = false

-- every member that runs has a phase that goes on
abbrev pub AllGoOn : RunWorld → Type 0
AllGoOn w = (m : ℕ) → is_up w m ≡ true → goes_on (seat w m).phase ≡ true

-- no member has a phase
abbrev pub AllRest : RunWorld → Type 0
AllRest w = (m : ℕ) → is_resting (seat w m).phase ≡ true

-- phases did something: those that were over have ended, and one of each member that runs goes on
pub record PhasesGoOn (kinds : List Kind) (w v : RunWorld) : Type 0 where
  pub acted : PhasesAct kinds w v
  pub on : AllGoOn v

-- phases did something, and all have ended
pub record PhasesEnd (kinds : List Kind) (w v : RunWorld) : Type 0 where
  pub acted : PhasesAct kinds w v
  pub over : AllRest v

-- what phases do beside calls of members, where they go on over orders or don't
abbrev pub Beside : List Kind → Bool → RunWorld → RunWorld → Type 0
Beside kinds true w v = PhasesGoOn kinds w v
Beside kinds false w v = v ≡ w

-- they go on over orders no more
abbrev pub Ending : List Kind → Bool → RunWorld → RunWorld → Type 0
Ending kinds true w v = PhasesEnd kinds w v
Ending kinds false w v = v ≡ w

-- an act, and what phases do before and after it
pub record Called (kinds : List Kind) (free : Bool) (a : Act) (w v : RunWorld) : Type 0 where
  pub before : RunWorld
  pub until : Beside kinds free w before
  pub since : Beside kinds free (does kinds before a) v
