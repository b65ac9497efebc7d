-- What is told in several parts.
use Rattle.std.proofs.Common.{◌≡◌, ℕ, ◌≤◌, Bool, List, [], ◌++◌, take, drop, IsTrue, Result, Ok, Err, refl, sym, ap, ◌∙◌, subst, arith, append_assoc, append-nil, le_refl, take-append-drop}
use Rattle.std.specs.Prelude.{IsErr, IsErrAnd}
use Rattle.cl_base.specs.Counts.{HasCause}
use Rattle.cl_base.specs.declared.fault.Trouble.{Trouble}
use Rattle.cl_base.specs.declared.fault.Trouble.TheVariants as troubles
use Rattle.line_text.specs.Written.{IsPart, IsFront, IsTold, IsCutShort, Tells, Adds}

-- a text is its own front
pub front_same : (a : List ℕ) → IsFront a a
front_same a = record { rest = []; whole = append-nil a }

-- a front of a front
pub front_then : (a b c : List ℕ) → IsFront a b → IsFront b c → IsFront a c
front_then a b c f g = record { rest = f.rest ++ g.rest; whole = sym (append_assoc a f.rest g.rest) ∙ ap (λ x. x ++ g.rest) f.whole ∙ g.whole }

front_on : (a b c : List ℕ) → IsFront a b → IsFront a (b ++ c)
front_on a b c f = record { rest = f.rest ++ c; whole = sym (append_assoc a f.rest c) ∙ ap (λ x. x ++ c) f.whole }

-- a text begins with its first part
pub front_of : (a b : List ℕ) → IsFront a (a ++ b)
front_of a b = record { rest = b; whole = refl }

-- what was held goes first
held_first : (held page text : List ℕ) → IsFront held ((held ++ page) ++ text)
held_first held page text = front_on held (held ++ page) text (front_of held page)

told_then : (h p x h1 p1 y h2 p2 : List ℕ) → IsTold h p x h1 p1 → IsTold h1 p1 y h2 p2 → IsTold h p (x ++ y) h2 p2
told_then h p x h1 p1 y h2 p2 f g = record {
  all = g.all ∙ ap (λ z. z ++ y) f.all ∙ append_assoc (h ++ p) x y;
  more = front_then h h1 h2 f.more g.more;
}

cut_then : (h p x h1 p1 y h2 : List ℕ) → IsTold h p x h1 p1 → IsCutShort h1 p1 y h2 → IsCutShort h p (x ++ y) h2
cut_then h p x h1 p1 y h2 f g = record {
  more = front_then h h1 h2 f.more g.more;
  front = subst (λ z. IsFront h2 z) (ap (λ z. z ++ y) f.all ∙ append_assoc (h ++ p) x y) g.front;
}

cut_on : (h p x y h1 : List ℕ) → IsCutShort h p x h1 → IsCutShort h p (x ++ y) h1
cut_on h p x y h1 f = record {
  more = f.more;
  front = subst (λ z. IsFront h1 z) (append_assoc (h ++ p) x y) (front_on h1 ((h ++ p) ++ x) y f.front);
}

tells_then : {T E : Type 0} → (r : Result T E) (h p x h1 p1 y h2 p2 : List ℕ) → IsTold h p x h1 p1 → Tells r h1 p1 y h2 p2 → Tells r h p (x ++ y) h2 p2
tells_then (Ok u) h p x h1 p1 y h2 p2 f g = told_then h p x h1 p1 y h2 p2 f g
tells_then (Err e) h p x h1 p1 y h2 p2 f g = cut_then h p x h1 p1 y h2 f g

-- however a telling ends, what was held is still held
pub tells_more : {T E : Type 0} → (r : Result T E) (h p x h1 p1 : List ℕ) → Tells r h p x h1 p1 → IsFront h h1
tells_more (Ok u) h p x h1 p1 f = f.more
tells_more (Err e) h p x h1 p1 f = f.more

module _ {O : Type 0} (tells : O → Bool) (held : O → List ℕ) (faults : O → ℕ) where
  -- nothing was told
  pub adds_start : {T : Type 0} → (s : O) (p : List ℕ) (u : T) → Adds tells held faults s s p p [] (Ok u)
  adds_start s p u = record {
    cause = record { later = le_refl (faults s); failed = λ e. absurd cc };
    same = refl;
    told = λ t. record { all = sym (append-nil (held s ++ p)); more = front_same (held s) };
  }

  -- one part, and then another, which may end early
  pub adds_then : {T U : Type 0} → (a b c : O) (p p1 p2 x y : List ℕ) (u : U) (r : Result T Trouble) → Adds tells held faults a b p p1 x (Ok u) → Adds tells held faults b c p1 p2 y r → Adds tells held faults a c p p2 (x ++ y) r
  adds_then a b c p p1 p2 x y u r f g = record {
    cause = record { later = omega (arith, f.cause.later, g.cause.later); failed = λ e. omega (arith, f.cause.later, g.cause.failed e) };
    same = g.same ∙ f.same;
    told = λ t. tells_then r (held a) p x (held b) p1 y (held c) p2 (f.told t) (g.told (subst (λ v. IsTrue v) (sym f.same) t));
  }

  -- an early end, with more that was to be told
  pub adds_cut : {T U : Type 0} → (a b : O) (p p1 p2 x y : List ℕ) (e : Trouble) → Adds {T = T} tells held faults a b p p1 x (Err e) → Adds {T = U} tells held faults a b p p2 (x ++ y) (Err e)
  adds_cut a b p p1 p2 x y e f = record {
    cause = record { later = f.cause.later; failed = λ k. f.cause.failed cc };
    same = f.same;
    told = λ t. cut_on (held a) p x y (held b) (f.told t);
  }

  -- the same text in other words
  pub adds_as : {T : Type 0} → (a b : O) (p p1 x y : List ℕ) (r : Result T Trouble) → x ≡ y → Adds tells held faults a b p p1 x r → Adds tells held faults a b p p1 y r
  adds_as a b p p1 x y r e f = subst (λ z. Adds tells held faults a b p p1 z r) e f

  -- a line is put on the page
  pub adds_line : {T : Type 0} → (s : O) (p p1 x : List ℕ) (u : T) → p1 ≡ p ++ x → Adds tells held faults s s p p1 x (Ok u)
  adds_line s p p1 x u e = record {
    cause = record { later = le_refl (faults s); failed = λ k. absurd cc };
    same = refl;
    told = λ t. record { all = ap (λ z. held s ++ z) e ∙ sym (append_assoc (held s) p x); more = front_same (held s) };
  }

  -- there was no memory for it
  pub adds_none : {T : Type 0} → (s : O) (p p1 x : List ℕ) (e : Trouble) → e ≡ troubles.NoMemory → Adds {T = T} tells held faults s s p p1 x (Err e)
  adds_none s p p1 x e n = record {
    cause = record { later = le_refl (faults s); failed = λ k. absurd cc };
    same = refl;
    told = λ t. record { more = front_same (held s); front = held_first (held s) p x };
  }

  -- all of the page is written
  pub adds_written : {T : Type 0} → (a b : O) (p : List ℕ) (u : T) → faults a ≤ faults b → tells b ≡ tells a → (IsTrue (tells a) → held b ≡ held a ++ p) → Adds tells held faults a b p [] [] (Ok u)
  adds_written a b p u later same whole = record {
    cause = record { later = later; failed = λ e. absurd cc };
    same = same;
    told = λ t. record { all = append-nil (held b) ∙ whole t ∙ sym (append-nil (held a ++ p)); more = record { rest = p; whole = sym (whole t) } };
  }

  -- only some of its front is written
  pub adds_part : {T : Type 0} → (a b : O) (p p1 : List ℕ) (e : Trouble) → HasCause {T = T} (faults a) (faults b) (Err e) → tells b ≡ tells a → (IsTrue (tells a) → IsPart (held a) p (held b)) → Adds {T = T} tells held faults a b p p1 [] (Err e)
  adds_part a b p p1 e cause same part = record {
    cause = cause;
    same = same;
    told = λ t. let h = part t in record {
      more = record { rest = take h.0 p; whole = sym h.2 };
      front = record {
        rest = drop h.0 p;
        whole = ap (λ z. z ++ drop h.0 p) h.2 ∙ append_assoc (held a) (take h.0 p) (drop h.0 p) ∙ ap (λ z. held a ++ z) (take-append-drop h.0 p) ∙ sym (append-nil (held a ++ p));
      };
    };
  }

  -- an early end is handed on, with more that was to be told
  pub adds_stops : {T U : Type 0} → (a b : O) (p p1 p2 x y : List ℕ) (r : Result T Trouble) (r' : Result U Trouble) (d : Trouble) → r ≡ Err d → IsErr r' × IsErrAnd r' (λ e. e ≡ d) → Adds tells held faults a b p p1 x r → Adds tells held faults a b p p2 (x ++ y) r'
  adds_stops a b p p1 p2 x y (Ok u) r' d was k f = absurd cc
  adds_stops a b p p1 p2 x y (Err e) (Ok v) d was k f = absurd k.1
  adds_stops {T} {U} a b p p1 p2 x y (Err e) (Err e') d was k f =
      let same : e ≡ e' = cc (k.1) in
      subst (λ z. Adds {T = U} tells held faults a b p p2 (x ++ y) (Err z)) same (adds_cut {T = T} {U = U} a b p p1 p2 x y e f)

  -- the same text, where nothing more was to be told
  pub adds_ends : {T U : Type 0} → (a b : O) (p p1 p2 x : List ℕ) (r : Result T Trouble) (r' : Result U Trouble) (d : Trouble) → r ≡ Err d → IsErr r' × IsErrAnd r' (λ e. e ≡ d) → Adds tells held faults a b p p1 x r → Adds tells held faults a b p p2 x r'
  adds_ends a b p p1 p2 x r r' d was k f = adds_as a b p p2 (x ++ []) x r' (append-nil x) (adds_stops a b p p1 p2 x [] r r' d was k f)
