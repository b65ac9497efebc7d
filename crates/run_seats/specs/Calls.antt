-- What a call of a running member leaves of its phases.
use Rattle.std.specs.Prelude.{◌≡◌, ◌≤◌, ◌<◌, ◌^◌, true, false, Result, OnOk}
use Rattle.service_phases.specs.Stages.{Stage}

-- A member was called: its services and what its module consumed stay. Where the call was done, its commit did not fall, is
-- below 2^62 as before, and is the same where the phase became over.
pub record Called {T E : Type 0} (result : Result T E) (old new : Stage) : Type 0 where
  pub services : new.lending ≡ old.lending
  pub consumed : new.first ≡ old.first
  pub rises : OnOk result (old.commit ≤ new.commit)
  pub bound : old.commit < 2 ^ 62 → OnOk result (new.commit < 2 ^ 62)
  pub over : OnOk result (new.over ≡ true → old.over ≡ false → new.commit ≡ old.commit)
