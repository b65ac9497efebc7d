-- What is asked of a member between phases that go on over orders.
use Rattle.std.proofs.Common.{◌≡◌, inl, inr, ℕ, Bool, true, false, List, [], ◌∷◌, ◌++◌, refl, sym, ap, ◌∙◌, subst}
use Rattle.std.specs.List.{AllByRecursion}
use Rattle.service_api.specs.declared.shipped.Kind.{Kind}
use Rattle.run_world.specs.RunWorld.{RunWorld, Act, Asks, Hears, after_acts, does}
use Rattle.run_orders.specs.Phases.{Beside, Called, PhasesAct, is_of_phase}
use Rattle.run_orders.specs.Rounds.{Asked}

after-both : (kinds : List Kind) (w : RunWorld) (xs ys : List Act) → after_acts kinds w (xs ++ ys) ≡ after_acts kinds (after_acts kinds w xs) ys
after-both kinds w [] ys = refl
after-both kinds w (x ∷ xs) ys = after-both kinds (does kinds w x) xs ys

all-both : (P : Act → Type 0) (xs ys : List Act) → AllByRecursion P xs → AllByRecursion P ys → AllByRecursion P (xs ++ ys)
all-both P [] ys all more = more
all-both P (x ∷ xs) ys all more = (all.0, all-both P xs ys all.1 more)

abbrev of_phase : Act → Type 0
of_phase a = is_of_phase a ≡ true

act-both : (kinds : List Kind) (w u v : RunWorld) → PhasesAct kinds w u → PhasesAct kinds u v → PhasesAct kinds w v
act-both kinds w u v p q = record {
  acts = p.acts ++ q.acts;
  phases = all-both of_phase p.acts q.acts p.phases q.phases;
  becomes = q.becomes ∙ ap (λ (x : RunWorld). after_acts kinds x q.acts) p.becomes ∙ sym (after-both kinds w p.acts q.acts);
}

beside-both : (kinds : List Kind) (free : Bool) (w u v : RunWorld) → Beside kinds free w u → Beside kinds free u v → Beside kinds free w v
beside-both kinds true w u v p q = record { acted = act-both kinds w u v p.acted q.acted; on = q.on }
beside-both kinds false w u v p q = q ∙ p

called-between : (kinds : List Kind) (free : Bool) (a : Act) (w u x v : RunWorld) → Beside kinds free w u → Called kinds false a u x → Beside kinds free x v → Called kinds free a w v
called-between kinds free a w u x v first call last = record {
  before = u;
  until = first;
  since = subst (λ (y : RunWorld). Beside kinds free y v) (call.since ∙ ap (λ (y : RunWorld). does kinds y a) call.until) last;
}

pub asked-between : (kinds : List Kind) (free : Bool) (m : ℕ) (w u x v : RunWorld) → Beside kinds free w u → Asked kinds false m u x → Beside kinds free x v → Asked kinds free m w v
asked-between kinds free m w u x v first (inl same) last = inl (beside-both kinds free w u v first (subst (λ (y : RunWorld). Beside kinds free y v) same last))
asked-between kinds free m w u x v first (inr (inl z)) last = inr (inl (z.0, z.1, z.2, called-between kinds free (Asks m z.0 z.1 z.2) w u x v first z.3 last))
asked-between kinds free m w u x v first (inr (inr z)) last = inr (inr (z.0, called-between kinds free (Hears m z.0) w u x v first z.1 last))
