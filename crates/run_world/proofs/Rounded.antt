-- Rounds are acts, so a world stays lawful over them.
use Rattle.std.proofs.Common.{◌≡◌, ℕ, zero, suc, ◌≤◌, ◌+◌, Bool, List, [], ◌∷◌, length, map, Option, Some, None, sym, subst, if◌then◌else◌}
use Rattle.service_api.specs.declared.shipped.Kind.{Kind}
use Rattle.run_world.specs.Seat.{Fate}
use Rattle.run_world.specs.RunWorld.{RunWorld, Act, Passes, Hands, Duty, Begins, Takes, Closes, Writes, Sends, Fails, does, after_acts}
use Rattle.run_world.specs.Lawful.{Lawful}
use Rattle.run_world.specs.Rounds.{Handed, AllHanded, OnDuty, consume, put_all, phase_over, Phased, AllPhased, Round, Rounds}
use Rattle.run_world.proofs.Acts.{act-lifts, acts-lift}

module _ (n : ℕ) (kinds : List Kind) (five : n ≤ 5) (three : length kinds ≤ 3) where
  one : (w v : RunWorld) (a : Act) → Lawful n kinds w → v ≡ does kinds w a → Lawful n kinds v
  one w v a lawful is = subst (Lawful n kinds) (sym is) (act-lifts n kinds w a five three lawful)

  handed-lifts : (i : ℕ) (w v : RunWorld) → Lawful n kinds w → Handed kinds i w v → Lawful n kinds v
  handed-lifts zero w v lawful is = subst (Lawful n kinds) (sym is) lawful
  handed-lifts (suc i) w v lawful z = one z.0 v (Hands z.2) (handed-lifts i w z.0 lawful z.3) z.5

  duties-lift : (m : ℕ) (w v : RunWorld) → Lawful n kinds w → OnDuty kinds m w v → Lawful n kinds v
  duties-lift zero w v lawful is = subst (Lawful n kinds) (sym is) lawful
  duties-lift (suc m) w v lawful z = one z.0 v (Duty m z.1) (duties-lift m w z.0 lawful z.2) z.3

  over-lifts : (m : ℕ) (fates : List Fate) (fails : Option ℕ) (w : RunWorld) → Lawful n kinds w → Lawful n kinds (phase_over kinds m fates fails w)
  over-lifts m fates None w lawful =
      act-lifts n kinds (after_acts kinds (does kinds w (Closes m)) (put_all m fates)) (Sends m) five three
      (acts-lift n kinds (does kinds w (Closes m)) (put_all m fates) five three (act-lifts n kinds w (Closes m) five three lawful))
  over-lifts m fates (Some own) w lawful = act-lifts n kinds w (Fails m own) five three lawful

  phase-lifts : (m : ℕ) (w v : RunWorld) → Lawful n kinds w → Phased kinds m w v → Lawful n kinds v
  phase-lifts m w v lawful z =
      subst (Lawful n kinds) (sym z.ends)
      (over-lifts m z.fates z.fails (after_acts kinds (does kinds w (Begins m)) (consume m z.services))
      (acts-lift n kinds (does kinds w (Begins m)) (consume m z.services) five three (act-lifts n kinds w (Begins m) five three lawful)))

  phases-lift : (m : ℕ) (w v : RunWorld) → Lawful n kinds w → AllPhased kinds m w v → Lawful n kinds v
  phases-lift zero w v lawful is = subst (Lawful n kinds) (sym is) lawful
  phases-lift (suc m) w v lawful z = phase-lifts m z.0 v (phases-lift m w z.0 lawful z.1) z.2

  round-lifts : (quiet : Bool) (w v : RunWorld) → Lawful n kinds w → Round kinds quiet w v → Lawful n kinds v
  round-lifts quiet w v lawful z =
      let begun = act-lifts n kinds w (Passes (w.now + 10)) five three lawful in
      let handed = handed-lifts z.packets.count (does kinds w (Passes (w.now + 10))) z.packets.last begun z.packets.handed in
      let packets = one z.packets.last z.handed (Hands z.packets.fate) handed z.packets.over in
      let served = duties-lift (length w.seats) z.handed z.served packets z.duties in
      phases-lift (if quiet then 0 else length w.seats) z.served v served z.phases

  pub rounds-lift : (quiet : Bool) (i : ℕ) (w v : RunWorld) → Lawful n kinds w → Rounds kinds quiet i w v → Lawful n kinds v
  rounds-lift quiet zero w v lawful is = subst (Lawful n kinds) (sym is) lawful
  rounds-lift quiet (suc i) w v lawful z = round-lifts quiet z.0 v (rounds-lift quiet i w z.0 lawful z.1) z.2
