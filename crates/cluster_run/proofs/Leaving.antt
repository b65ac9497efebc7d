-- What a run leaves of a sink.
use Rattle.std.proofs.Common.{◌≡◌, ℕ, Bool, List, IsTrue, Result, Ok, Err, refl, le_refl}
use Rattle.cl_base.specs.declared.fault.Trouble.{Trouble}
use Rattle.cl_base.specs.declared.fault.Trouble.TheVariants as troubles
use Rattle.line_text.proofs.Telling.{front_same}
use Rattle.run_listing.specs.Sinks.{Writes}
use Rattle.run_start.specs.declared.status.Status.TheVariants as status
use Rattle.run_start.specs.Status.{ended, Leaves}

module _ {O : Type 0} (tells : O → Bool) (held : O → List ℕ) (faults : O → ℕ) where
  -- nothing was written, for want of memory
  pub leaves_alone : (a : O) → Leaves tells held faults a a status.NoMemory
  leaves_alone a = record { later = le_refl (faults a); same = refl; fault = λ is. absurd cc; refusal = λ t plain. absurd plain; more = λ t. front_same (held a) }

  -- something was written, and then no memory was there
  pub leaves_memory : {T : Type 0} (a b : O) (r : Result T Trouble) → Writes tells held faults a b r → Leaves tells held faults a b status.NoMemory
  leaves_memory a b r w = record { later = w.cause.later; same = w.same; fault = λ is. absurd cc; refusal = λ t plain. absurd plain; more = w.more }

  -- something was written, and the call ends as that went
  pub leaves_written : {T : Type 0} (a b : O) (r : Result T Trouble) → Writes tells held faults a b r → Leaves tells held faults a b (ended status.Done r)
  leaves_written a b (Ok u) w = record { later = w.cause.later; same = w.same; fault = λ is. absurd cc; refusal = λ t plain. absurd plain; more = w.more }
  leaves_written a b (Err troubles.Failed) w = record { later = w.cause.later; same = w.same; fault = λ is. w.cause.failed refl; refusal = λ t plain. absurd plain; more = w.more }
  leaves_written a b (Err troubles.NoMemory) w = record { later = w.cause.later; same = w.same; fault = λ is. absurd cc; refusal = λ t plain. absurd plain; more = w.more }
