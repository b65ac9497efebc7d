-- Relations of worlds that acts lead along.
use Rattle.std.proofs.Common.{◌≡◌, ℕ, zero, suc, Bool, true, false, List, [], ◌∷◌, ◌++◌, Option, Some, None, refl, sym, ap, ◌∙◌}
use Rattle.service_api.specs.declared.shipped.Kind.{Kind}
use Rattle.run_world.specs.Seat.{Fate}
use Rattle.run_world.specs.RunWorld.{RunWorld, Act, Begins, Closes, Sends, Fails, does, after_acts}
use Rattle.run_world.specs.Rounds.{consume, put_all, phase_over, Phased, AllPhased}
use Rattle.run_orders.specs.Phases.{Leads, Beside, Ending, Called}

after-both : (kinds : List Kind) (w : RunWorld) (xs ys : List Act) → after_acts kinds w (xs ++ ys) ≡ after_acts kinds (after_acts kinds w xs) ys
after-both kinds w [] ys = refl
after-both kinds w (x ∷ xs) ys = after-both kinds (does kinds w x) xs ys

module _ (kinds : List Kind) where
  pub stays : (w v : RunWorld) → v ≡ w → Leads kinds w v
  stays w v is = ([], is)

  pub one : (w : RunWorld) (a : Act) → Leads kinds w (does kinds w a)
  one w a = (a ∷ [], refl)

  pub some : (w : RunWorld) (xs : List Act) → Leads kinds w (after_acts kinds w xs)
  some w xs = (xs, refl)

  pub both : (w u v : RunWorld) → Leads kinds w u → Leads kinds u v → Leads kinds w v
  both w u v p q = (p.0 ++ q.0, q.1 ∙ ap (λ (x : RunWorld). after_acts kinds x q.0) p.1 ∙ sym (after-both kinds w p.0 q.0))

  pub beside : (free : Bool) (w v : RunWorld) → Beside kinds free w v → Leads kinds w v
  beside true w v z = (z.acted.acts, z.acted.becomes)
  beside false w v is = stays w v is

  pub ending : (free : Bool) (w v : RunWorld) → Ending kinds free w v → Leads kinds w v
  ending true w v z = (z.acted.acts, z.acted.becomes)
  ending false w v is = stays w v is

  pub called : (free : Bool) (a : Act) (w v : RunWorld) → Called kinds free a w v → Leads kinds w v
  called free a w v z =
      both w z.before v (beside free w z.before z.until)
      (both z.before (does kinds z.before a) v (one z.before a) (beside free (does kinds z.before a) v z.since))

  -- ---- a whole phase

  over-leads : (m : ℕ) (fates : List Fate) (fails : Option ℕ) (w : RunWorld) → Leads kinds w (phase_over kinds m fates fails w)
  over-leads m fates None w =
      let closed = does kinds w (Closes m) in
      let put = after_acts kinds closed (put_all m fates) in
      both w put (does kinds put (Sends m)) (both w closed put (one w (Closes m)) (some closed (put_all m fates))) (one put (Sends m))
  over-leads m fates (Some own) w = one w (Fails m own)

  phase-leads : (m : ℕ) (w v : RunWorld) → Phased kinds m w v → Leads kinds w v
  phase-leads m w v z =
      let begun = does kinds w (Begins m) in
      let fed = after_acts kinds begun (consume m z.services) in
      let over = phase_over kinds m z.fates z.fails fed in
      both w over v (both w fed over (both w begun fed (one w (Begins m)) (some begun (consume m z.services))) (over-leads m z.fates z.fails fed)) (stays over v z.ends)

  pub phases-lead : (m : ℕ) (w v : RunWorld) → AllPhased kinds m w v → Leads kinds w v
  phases-lead zero w v is = stays w v is
  phases-lead (suc m) w v z = both w z.0 v (phases-lead m w z.0 z.1) (phase-leads m z.0 v z.2)
