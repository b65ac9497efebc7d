-- Readings that may find a fault, and how what a function answers stands to one.
use Rattle.std.specs.Prelude.{◌≡◌, Result, Ok, Err}
use Rattle.scenario.specs.declared.fault.Cause.{Cause}
use Rattle.scenario.specs.declared.fault.LineFault.{LineFault}
use Rattle.scenario.specs.declared.fault.LineFault.TheVariants as faults

-- what is read next, where nothing was at fault so far
infixl 10 ◌>>=◌
abbrev pub ◌>>=◌ : {A B : Type 0} → Result A Cause → (A → Result B Cause) → Result B Cause
(Ok x) >>= f = f x
(Err e) >>= f = Err e

-- a fault is the reading's, and want of memory says nothing
abbrev pub Fails : {A : Type 0} → LineFault → Result A Cause → Type 0
Fails faults.NoMemory reading = Unit {0}
Fails (faults.Faulty cause) reading = reading ≡ Err cause

-- a function answered, seen by view, what the reading gives, unless memory ran out
abbrev pub GivesBy : {A B : Type 0} → (A → B) → Result A LineFault → Result B Cause → Type 0
GivesBy view (Ok x) reading = reading ≡ Ok (view x)
GivesBy view (Err e) reading = Fails e reading

-- the same of values as they are
abbrev pub Gives : {A : Type 0} → Result A LineFault → Result A Cause → Type 0
Gives result reading = GivesBy (λ x. x) result reading
