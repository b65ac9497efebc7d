-- The end of a phase that goes on, as acts of phases.
use Rattle.std.proofs.Common.{◌≡◌, ℕ, true, List, [], ◌∷◌, ◌++◌, Option, Some, None, refl, sym, ap, ◌∙◌}
use Rattle.std.specs.List.{AllByRecursion}
use Rattle.service_api.specs.declared.shipped.Kind.{Kind}
use Rattle.run_world.specs.Rounds.{consume, phase_over, put_all}
use Rattle.run_world.specs.Seat.{Fate}
use Rattle.run_world.specs.RunWorld.{Act, Closes, Fails, RunWorld, Sends, after_acts, does}
use Rattle.run_orders.specs.Phases.{PhasesAct, is_of_phase}
use Rattle.member_phases.proofs.Worlds.{acts-append}

abbrev AreOfPhase : List Act → Type 0
AreOfPhase acts = AllByRecursion (λ a. is_of_phase a ≡ true) acts

both-of : (xs ys : List Act) → AreOfPhase xs → AreOfPhase ys → AreOfPhase (xs ++ ys)
both-of [] ys a b = b
both-of (x ∷ xs) ys a b = (a.0, both-of xs ys a.1 b)

takes-of : (m : ℕ) (ks : List ℕ) → AreOfPhase (consume m ks)
takes-of m [] = tt
takes-of m (k ∷ ks) = (refl, takes-of m ks)

writes-of : (m : ℕ) (fates : List Fate) → AreOfPhase (put_all m fates)
writes-of m [] = tt
writes-of m (f ∷ fates) = (refl, writes-of m fates)

-- its acts
abbrev over_acts : ℕ → List Fate → Option ℕ → List Act
over_acts m fates None = Closes m ∷ (put_all m fates ++ Sends m ∷ [])
over_acts m fates (Some own) = Fails m own ∷ []

over-of : (m : ℕ) (fates : List Fate) (fails : Option ℕ) → AreOfPhase (over_acts m fates fails)
over-of m fates None = (refl, both-of (put_all m fates) (Sends m ∷ []) (writes-of m fates) (refl, tt))
over-of m fates (Some own) = (refl, tt)

over-is : (kinds : List Kind) (m : ℕ) (fates : List Fate) (fails : Option ℕ) (w : RunWorld) → after_acts kinds w (over_acts m fates fails) ≡ phase_over kinds m fates fails w
over-is kinds m fates None w = acts-append kinds (does kinds w (Closes m)) (put_all m fates) (Sends m ∷ [])
over-is kinds m fates (Some own) w = refl

pub takes-act : (kinds : List Kind) (m : ℕ) (ks : List ℕ) (w v : RunWorld) → v ≡ after_acts kinds w (consume m ks) → PhasesAct kinds w v
takes-act kinds m ks w v is = record { acts = consume m ks; phases = takes-of m ks; becomes = is }

pub ends-act : (kinds : List Kind) (m : ℕ) (ks : List ℕ) (fates : List Fate) (fails : Option ℕ) (w v : RunWorld) → v ≡ phase_over kinds m fates fails (after_acts kinds w (consume m ks)) → PhasesAct kinds w v
ends-act kinds m ks fates fails w v is = record {
  acts = consume m ks ++ over_acts m fates fails;
  phases = both-of (consume m ks) (over_acts m fates fails) (takes-of m ks) (over-of m fates fails);
  becomes = is ∙ sym (over-is kinds m fates fails (after_acts kinds w (consume m ks))) ∙ sym (acts-append kinds w (consume m ks) (over_acts m fates fails));
}

-- ---- one after the other

pub none-act : (kinds : List Kind) (w : RunWorld) → PhasesAct kinds w w
none-act kinds w = record { acts = []; phases = tt; becomes = refl }

pub both-act : (kinds : List Kind) (u v w : RunWorld) → PhasesAct kinds u v → PhasesAct kinds v w → PhasesAct kinds u w
both-act kinds u v w a b = record {
  acts = a.acts ++ b.acts;
  phases = both-of a.acts b.acts a.phases b.phases;
  becomes = b.becomes ∙ ap (λ (z : RunWorld). after_acts kinds z b.acts) a.becomes ∙ sym (acts-append kinds u a.acts b.acts);
}
