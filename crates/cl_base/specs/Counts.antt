-- How counts of faults move.
use Rattle.std.specs.Prelude.{◌≡◌, ℕ, ◌+◌, ◌-◌, ◌^◌, ◌≤◌, min, Result, IsErrOf, IsErr, IsOk}
use Rattle.cl_base.specs.declared.fault.Trouble.{Trouble}
use Rattle.cl_base.specs.declared.fault.Trouble.TheVariants.{Failed}

-- the count rose, or stands at the top of a u64
abbrev pub Rose : ℕ → ℕ → Type 0
Rose old new = min (old + 1) (2 ^ 64 - 1) ≤ new

-- a count never falls, and Failed is answered only where it rose
pub record HasCause {T : Type 0} (old new : ℕ) (result : Result T Trouble) : Type 0 where
  pub later : old ≤ new
  pub failed : IsErrOf result Failed → Rose old new

-- the same for an answer whose only error is Failed
pub record HasOnlyCause {T E : Type 0} (old new : ℕ) (result : Result T E) : Type 0 where
  pub later : old ≤ new
  pub failed : IsErr result → Rose old new

-- a call that is done raises the count by nothing, and one that isn't by one at most
pub record RaisesOneAtMost {T E : Type 0} (old new : ℕ) (result : Result T E) : Type 0 where
  pub done : IsOk result → new ≡ old
  pub most : new ≤ old + 1
