-- What answers leave of a sink.
use Rattle.std.proofs.Common.{◌≡◌, ℕ, Bool, List, [], ◌++◌, take, IsTrue, Result, Ok, Err, refl, sym, ap, ◌∙◌, subst, inl, inr, append-nil, le_refl}
use Rattle.std.proofs.Math.Seq.{take-nil}
use Rattle.std.specs.Prelude.{OnOk, OnErr}
use Rattle.cl_base.specs.Counts.{HasCause}
use Rattle.cl_base.specs.declared.fault.Trouble.{Trouble}
use Rattle.cl_base.specs.declared.fault.Trouble.TheVariants as troubles
use Rattle.line_text.specs.Written.{IsPart, IsFront, IsTold, Adds}
use Rattle.line_text.proofs.Telling.{front_same, tells_more}
use Rattle.cluster_tool.specs.declared.status.ToolStatus.{ToolStatus}
use Rattle.cluster_tool.specs.declared.status.ToolStatus.TheVariants as status
use Rattle.cluster_tool.specs.Status.{status_text, ended, IsOrGivesUp, IsRefusal}
use Rattle.cluster_tool.specs.Told.{NoWriteFault, Told}
use Rattle.cluster_tool.specs.Listed.{Leaves}

front_as : (a b c : List ℕ) → c ≡ a ++ b → IsFront a c
front_as a b c is = record { rest = b; whole = sym is }

no_fault : (meant : ToolStatus) → NoWriteFault meant → status.WriteFault ≡ meant → ⊥
no_fault meant plain is = subst NoWriteFault (sym is) plain

-- an answer that gives up has no text of its own
silent : (meant : ToolStatus) → status.NoMemory ≡ meant → status_text meant ≡ []
silent meant is = sym (ap status_text is)

taken : (n : ℕ) (text : List ℕ) → text ≡ [] → take n text ≡ text
taken n text is = ap (take n) is ∙ take-nil n ∙ sym is

module _ {O : Type 0} (tells : O → Bool) (held : O → List ℕ) (faults : O → ℕ) where
  -- a refusal's text was given to a sink
  pub told_given : {T : Type 0} (a b : O) (meant : ToolStatus) (r : Result T Trouble) → NoWriteFault meant → HasCause (faults a) (faults b) r → tells b ≡ tells a
      → (IsTrue (tells a) → OnOk r (held b ≡ held a ++ status_text meant)) → (IsTrue (tells a) → OnErr r (IsPart (held a) (status_text meant) (held b)))
      → Told tells held faults a b meant (status_text meant) (ended meant r)
  told_given a b meant (Ok u) plain cause same whole part = record {
    answer = inl refl;
    later = cause.later;
    same = same;
    fault = λ is. absurd (no_fault meant plain (sym is));
    whole = λ t is. whole t;
    more = λ t. front_as (held a) (status_text meant) (held b) (whole t);
  }
  told_given a b meant (Err troubles.Failed) plain cause same whole part = record {
    answer = inr (inl refl);
    later = cause.later;
    same = same;
    fault = λ is. cause.failed refl;
    whole = λ t is. absurd (no_fault meant plain is);
    more = λ t. front_as (held a) (take (part t).0 (status_text meant)) (held b) (part t).2;
  }
  told_given a b meant (Err troubles.NoMemory) plain cause same whole part = record {
    answer = inr (inr refl);
    later = cause.later;
    same = same;
    fault = λ is. absurd cc;
    whole = λ t is. (part t).2 ∙ ap (λ ys. held a ++ ys) (taken (part t).0 (status_text meant) (silent meant is));
    more = λ t. front_as (held a) (take (part t).0 (status_text meant)) (held b) (part t).2;
  }

  -- there was no memory for it
  pub told_none : (a : O) (meant : ToolStatus) → Told tells held faults a a meant (status_text meant) status.NoMemory
  told_none a meant = record {
    answer = inr (inr refl);
    later = le_refl (faults a);
    same = refl;
    fault = λ is. absurd cc;
    whole = λ t is. sym (append-nil (held a)) ∙ ap (λ ys. held a ++ ys) (sym (silent meant is));
    more = λ t. front_same (held a);
  }

  refused : (a b : O) (meant given : ToolStatus) → IsOrGivesUp given meant → (given ≡ meant → held b ≡ held a ++ status_text meant) → IsRefusal given → held b ≡ held a ++ status_text given
  refused a b meant given (inl is) whole plain = whole is ∙ ap (λ s. held a ++ status_text s) (sym is)
  refused a b meant given (inr (inl is)) whole plain = absurd (subst IsRefusal is plain)
  refused a b meant given (inr (inr is)) whole plain = absurd (subst IsRefusal is plain)

  -- what a refusal leaves
  pub leaves_told : (a b : O) (meant given : ToolStatus) → Told tells held faults a b meant (status_text meant) given → Leaves tells held faults a b given
  leaves_told a b meant given told = record {
    later = told.later;
    same = told.same;
    fault = told.fault;
    refusal = λ t plain. refused a b meant given told.answer (told.whole t) plain;
    more = told.more;
  }

  -- what a listing leaves
  pub leaves_listed : {T : Type 0} (a b : O) (x : List ℕ) (r : Result T Trouble) → Adds tells held faults a b [] [] x r → Leaves tells held faults a b (ended status.Done r)
  leaves_listed {T} a b x (Ok u) f = record { later = f.cause.later; same = f.same; fault = λ is. absurd cc; refusal = λ t plain. absurd plain; more = λ t. tells_more {T = T} {E = Trouble} (Ok u) (held a) [] x (held b) [] (f.told t) }
  leaves_listed {T} a b x (Err troubles.Failed) f = record { later = f.cause.later; same = f.same; fault = λ is. f.cause.failed refl; refusal = λ t plain. absurd plain; more = λ t. tells_more {T = T} {E = Trouble} (Err troubles.Failed) (held a) [] x (held b) [] (f.told t) }
  leaves_listed {T} a b x (Err troubles.NoMemory) f = record { later = f.cause.later; same = f.same; fault = λ is. absurd cc; refusal = λ t plain. absurd plain; more = λ t. tells_more {T = T} {E = Trouble} (Err troubles.NoMemory) (held a) [] x (held b) [] (f.told t) }

  whole_of : (h x h1 : List ℕ) → IsTold h [] x h1 [] → h1 ≡ h ++ x
  whole_of h x h1 f = sym (append-nil h1) ∙ f.all ∙ ap (λ z. z ++ x) (append-nil h)

  -- a listing that is done is whole
  pub done_listed : {T : Type 0} (a b : O) (x : List ℕ) (r : Result T Trouble) → Adds tells held faults a b [] [] x r → IsTrue (tells a) → ended status.Done r ≡ status.Done → held b ≡ held a ++ x
  done_listed a b x (Ok u) f t is = whole_of (held a) x (held b) (f.told t)
  done_listed a b x (Err troubles.Failed) f t is = absurd cc
  done_listed a b x (Err troubles.NoMemory) f t is = absurd cc
