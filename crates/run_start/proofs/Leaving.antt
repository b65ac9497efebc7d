-- What answers leave of a sink.
use Rattle.std.proofs.Common.{◌≡◌, ℕ, Bool, List, ◌++◌, take, IsTrue, Result, Ok, Err, refl, sym, inl, inr}
use Rattle.std.specs.Prelude.{OnOk, OnErr}
use Rattle.cl_base.specs.Counts.{HasCause}
use Rattle.cl_base.specs.declared.fault.Trouble.{Trouble}
use Rattle.cl_base.specs.declared.fault.Trouble.TheVariants as troubles
use Rattle.line_text.specs.Written.{IsPart, IsFront}
use Rattle.run_start.specs.declared.status.Status.{Status}
use Rattle.run_start.specs.declared.status.Status.TheVariants as status
use Rattle.run_start.specs.Status.{ended, IsOrGivesUp, Leaves}

front_as : (a b c : List ℕ) → c ≡ a ++ b → IsFront a c
front_as a b c is = record { rest = b; whole = sym is }

given_more : {T : Type 0} → (r : Result T Trouble) (h x h1 : List ℕ) → OnOk r (h1 ≡ h ++ x) → OnErr r (IsPart h x h1) → IsFront h h1
given_more (Ok u) h x h1 whole part = front_as h x h1 whole
given_more (Err e) h x h1 whole part = front_as h (take part.0 x) h1 part.2

-- a call that means this answer and gives up under its text has that answer, or none with a text
pub given_up : {T : Type 0} (meant : Status) (r : Result T Trouble) → IsOrGivesUp (ended meant r) meant
given_up meant (Ok u) = inl refl
given_up meant (Err troubles.Failed) = inr (inl refl)
given_up meant (Err troubles.NoMemory) = inr (inr refl)

module _ {O : Type 0} (tells : O → Bool) (held : O → List ℕ) (faults : O → ℕ) where
  -- a text was given to a sink, and the call is done
  pub leaves_given : {T : Type 0} (a b : O) (x : List ℕ) (r : Result T Trouble) → HasCause (faults a) (faults b) r → tells b ≡ tells a
      → (IsTrue (tells a) → OnOk r (held b ≡ held a ++ x)) → (IsTrue (tells a) → OnErr r (IsPart (held a) x (held b)))
      → Leaves tells held faults a b (ended status.Done r)
  leaves_given a b x (Ok u) cause same whole part = record { later = cause.later; same = same; fault = λ is. absurd cc; refusal = λ t plain. absurd plain; more = λ t. given_more (Ok u) (held a) x (held b) (whole t) (part t) }
  leaves_given {T} a b x (Err troubles.Failed) cause same whole part = record { later = cause.later; same = same; fault = λ is. cause.failed refl; refusal = λ t plain. absurd plain; more = λ t. given_more {T = T} (Err troubles.Failed) (held a) x (held b) (whole t) (part t) }
  leaves_given {T} a b x (Err troubles.NoMemory) cause same whole part = record { later = cause.later; same = same; fault = λ is. absurd cc; refusal = λ t plain. absurd plain; more = λ t. given_more {T = T} (Err troubles.NoMemory) (held a) x (held b) (whole t) (part t) }

  -- and then all of it is held
  pub done_given : {T : Type 0} (a b : O) (x : List ℕ) (r : Result T Trouble) → (IsTrue (tells a) → OnOk r (held b ≡ held a ++ x)) → IsTrue (tells a) → ended status.Done r ≡ status.Done → held b ≡ held a ++ x
  done_given a b x (Ok u) whole t is = whole t
  done_given a b x (Err troubles.Failed) whole t is = absurd cc
  done_given a b x (Err troubles.NoMemory) whole t is = absurd cc
