-- What is written in several parts.
use Rattle.std.proofs.Common.{◌≡◌, ℕ, Bool, List, ◌++◌, take, IsTrue, Result, Ok, Err, refl, sym, ap, ◌∙◌, subst, arith, le_refl}
use Rattle.std.specs.Prelude.{IsErr, IsErrAnd, OnOk, OnErr}
use Rattle.cl_base.specs.Counts.{HasCause}
use Rattle.cl_base.specs.declared.fault.Trouble.{Trouble}
use Rattle.cl_base.specs.declared.fault.Trouble.TheVariants as troubles
use Rattle.line_text.specs.Written.{IsPart, IsFront, Adds}
use Rattle.line_text.proofs.Telling.{front_same, front_then, tells_more}
use Rattle.run_listing.specs.Sinks.{Writes}

given_more : {T : Type 0} → (r : Result T Trouble) (h x h1 : List ℕ) → OnOk r (h1 ≡ h ++ x) → OnErr r (IsPart h x h1) → IsFront h h1
given_more (Ok u) h x h1 whole part = record { rest = x; whole = sym whole }
given_more (Err e) h x h1 whole part = record { rest = take part.0 x; whole = sym part.2 }

module _ {O : Type 0} (tells : O → Bool) (held : O → List ℕ) (faults : O → ℕ) where
  -- nothing was written
  pub writes_start : {T : Type 0} → (s : O) (u : T) → Writes tells held faults s s (Ok u)
  writes_start s u = record {
    cause = record { later = le_refl (faults s); failed = λ e. absurd cc };
    same = refl;
    more = λ t. front_same (held s);
  }

  -- one part, and then another, which may end early
  pub writes_then : {T U : Type 0} → (a b c : O) (u : T) (r : Result U Trouble) → Writes tells held faults a b (Ok u) → Writes tells held faults b c r → Writes tells held faults a c r
  writes_then a b c u r f g = record {
    cause = record { later = omega (arith, f.cause.later, g.cause.later); failed = λ e. omega (arith, f.cause.later, g.cause.failed e) };
    same = g.same ∙ f.same;
    more = λ t. front_then (held a) (held b) (held c) (f.more t) (g.more (subst (λ v. IsTrue v) (sym f.same) t));
  }

  -- there was no memory for more
  pub writes_none : {T U : Type 0} → (a b : O) (u : T) → Writes tells held faults a b (Ok u) → Writes {T = U} tells held faults a b (Err troubles.NoMemory)
  writes_none a b u f = record {
    cause = record { later = f.cause.later; failed = λ k. absurd cc };
    same = f.same;
    more = f.more;
  }

  writes_err : {T U : Type 0} → (a b : O) (e : Trouble) → Writes {T = T} tells held faults a b (Err e) → Writes {T = U} tells held faults a b (Err e)
  writes_err a b e f = record {
    cause = record { later = f.cause.later; failed = λ k. f.cause.failed cc };
    same = f.same;
    more = f.more;
  }

  -- an early end is handed on
  pub writes_stops : {T U : Type 0} → (a b : O) (r : Result T Trouble) (r' : Result U Trouble) (d : Trouble) → r ≡ Err d → IsErr r' × IsErrAnd r' (λ e. e ≡ d) → Writes tells held faults a b r → Writes tells held faults a b r'
  writes_stops a b (Ok u) r' d was k f = absurd cc
  writes_stops a b (Err e) (Ok v) d was k f = absurd k.1
  writes_stops {T} {U} a b (Err e) (Err e') d was k f =
      let same : e ≡ e' = cc (k.1) in
      subst (λ z. Writes {T = U} tells held faults a b (Err z)) same (writes_err {T = T} {U = U} a b e f)

  -- what a page adds is written
  pub writes_of : {T : Type 0} → (a b : O) (p p1 x : List ℕ) (r : Result T Trouble) → Adds tells held faults a b p p1 x r → Writes tells held faults a b r
  writes_of a b p p1 x r f = record { cause = f.cause; same = f.same; more = λ t. tells_more r (held a) p x (held b) p1 (f.told t) }

  -- a text is given to the sink
  pub writes_given : {T : Type 0} → (a b : O) (x : List ℕ) (r : Result T Trouble) → HasCause (faults a) (faults b) r → tells b ≡ tells a → (IsTrue (tells a) → OnOk r (held b ≡ held a ++ x)) → (IsTrue (tells a) → OnErr r (IsPart (held a) x (held b))) → Writes tells held faults a b r
  writes_given a b x r cause same whole part = record { cause = cause; same = same; more = λ t. given_more r (held a) x (held b) (whole t) (part t) }
