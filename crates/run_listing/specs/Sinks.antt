-- What writing leaves of a sink.
use Rattle.std.specs.Prelude.{◌≡◌, ℕ, Bool, List, IsTrue, Result}
use Rattle.cl_base.specs.Counts.{HasCause}
use Rattle.cl_base.specs.declared.fault.Trouble.{Trouble}
use Rattle.line_text.specs.Written.{IsFront}

-- Something was written: an error has its cause, and where the sink tells what it holds, it holds what it held and more.
pub record Writes {O T : Type 0} (tells : O → Bool) (held : O → List ℕ) (faults : O → ℕ) (old new : O) (result : Result T Trouble) : Type 0 where
  pub cause : HasCause (faults old) (faults new) result
  pub same : tells new ≡ tells old
  pub more : IsTrue (tells old) → IsFront (held old) (held new)
