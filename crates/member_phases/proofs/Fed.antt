-- Services consume some of what is committed.
use Rattle.std.proofs.Common.{◌≡◌, ℕ, zero, suc, ◌+◌, ◌-◌, ◌<◌, ◌≤◌, ℤ, Bool, true, List, [], ◌∷◌, ◌++◌, length, set, take, Option, refl, sym, ap, ◌∙◌, subst, arith, append_assoc}
use Rattle.std.specs.Prelude.{slice_index_or}
use Rattle.entry_log.specs.Log.{Log}
use Rattle.service_api.specs.declared.shipped.Kind.{Kind}
use Rattle.consensus_core.specs.Member.{with_next}
use Rattle.service_phases.specs.Pairs.{Each2}
use Rattle.service_runs.proofs.Lists.{take-length}
use Rattle.run_world.specs.Lawful.{Lawful}
use Rattle.run_world.specs.Rounds.{consume}
use Rattle.run_world.specs.Seat.{Seat, Goes}
use Rattle.run_world.specs.RunWorld.{RunWorld, after_acts, seat}
use Rattle.member_phases.specs.Seats.{with_seat}
use Rattle.member_phases.proofs.Lent.{Further}
use Rattle.member_phases.proofs.Takes.{Feeds, feeds-none, feeds-on, feeds-one, get-mid, mid-count, mid-there, next-is, set-mid, with_inputs}
use Rattle.member_phases.proofs.Worlds.{commit-low, printed-all, up-there}

module _ (kinds : List Kind) (s : Seat) (role : Option ℤ) (over : Bool) (up : s.member.up ≡ true) (goes : s.phase ≡ Goes role over) (within : s.member.values.rest.commit ≤ length s.member.durable.log) where
  abbrev log : Log
  log = s.member.durable.log

  abbrev commit : ℕ
  commit = s.member.values.rest.commit

  -- so many entries more
  feeds-some : (done rest : List Log) (more j to : ℕ) → j + more ≡ to → to ≤ commit → length (done ++ take j log ∷ rest) ≡ length kinds → Feeds kinds (with_inputs s (done ++ take j log ∷ rest)) (with_inputs s (done ++ take to log ∷ rest))
  feeds-some done rest zero j to e low count =
      let is : j ≡ to = omega (arith, e) in
      subst (λ (k : ℕ). Feeds kinds (with_inputs s (done ++ take j log ∷ rest)) (with_inputs s (done ++ take k log ∷ rest))) is (feeds-none kinds (with_inputs s (done ++ take j log ∷ rest)))
  feeds-some done rest (suc more) j to e low count =
      let t = with_inputs s (done ++ take j log ∷ rest) in
      let below : j < commit = omega (arith, e, low) in
      let inside : j < length log = omega (arith, below, within) in
      let has : length (slice_index_or (done ++ take j log ∷ rest) (length done) []) ≡ j = ap (λ (l : Log). length l) (get-mid done (take j log) rest) ∙ take-length j log (omega (arith, inside)) in
      let one = feeds-one kinds t (length done) role over up goes count (mid-there done (take j log) rest) (omega (arith, has, below)) in
      let new : set (done ++ take j log ∷ rest) (length done) (with_next (slice_index_or (done ++ take j log ∷ rest) (length done) []) log) ≡ done ++ take (suc j) log ∷ rest =
      ap (λ (xs : Log). set (done ++ take j log ∷ rest) (length done) (with_next xs log)) (get-mid done (take j log) rest)
      ∙ set-mid done (take j log) (with_next (take j log) log) rest
      ∙ ap (λ (xs : Log). done ++ xs ∷ rest) (next-is j log inside) in
      let next : Feeds kinds t (with_inputs s (done ++ take (suc j) log ∷ rest)) = subst (λ (l : List Log). Feeds kinds t (with_inputs s l)) new one in
      feeds-on kinds t (with_inputs s (done ++ take (suc j) log ∷ rest)) (with_inputs s (done ++ take to log ∷ rest)) refl next
      (feeds-some done rest more (suc j) to (omega (arith, e)) low (mid-count done (take j log) (take (suc j) log) rest ∙ count))

  feeds-to : (done todo goal : List Log) → Each2 (Further log commit) todo goal → length (done ++ todo) ≡ length kinds → Feeds kinds (with_inputs s (done ++ todo)) (with_inputs s (done ++ goal))
  feeds-to done [] [] further count = feeds-none kinds (with_inputs s (done ++ []))
  feeds-to done [] (ys ∷ goal) further count = absurd further
  feeds-to done (xs ∷ todo) [] further count = absurd further
  feeds-to done (xs ∷ todo) (ys ∷ goal) further count =
      let f = further.0 in
      let longer = f.longer in
      let one : Feeds kinds (with_inputs s (done ++ xs ∷ todo)) (with_inputs s (done ++ ys ∷ todo)) =
      subst (λ (zs : Log). Feeds kinds (with_inputs s (done ++ zs ∷ todo)) (with_inputs s (done ++ ys ∷ todo))) (sym f.was)
      (subst (λ (zs : Log). Feeds kinds (with_inputs s (done ++ take (length xs) log ∷ todo)) (with_inputs s (done ++ zs ∷ todo))) (sym f.is)
      (feeds-some done todo (length ys - length xs) (length xs) (length ys) (omega (arith, longer)) f.due (mid-count done xs (take (length xs) log) todo ∙ count))) in
      let own : List Log = ys ∷ [] in
      let here : done ++ ys ∷ todo ≡ (done ++ own) ++ todo = sym (append_assoc done own todo) in
      let there : (done ++ own) ++ goal ≡ done ++ ys ∷ goal = append_assoc done own goal in
      let more : Feeds kinds (with_inputs s ((done ++ own) ++ todo)) (with_inputs s ((done ++ own) ++ goal)) =
      feeds-to (done ++ own) todo goal further.1 (ap (λ (l : List Log). length l) (sym here) ∙ mid-count done xs ys todo ∙ count) in
      feeds-on kinds (with_inputs s (done ++ xs ∷ todo)) (with_inputs s (done ++ ys ∷ todo)) (with_inputs s (done ++ ys ∷ goal)) refl one
      (subst (λ (l : List Log). Feeds kinds (with_inputs s l) (with_inputs s (done ++ ys ∷ goal))) (sym here)
      (subst (λ (l : List Log). Feeds kinds (with_inputs s ((done ++ own) ++ todo)) (with_inputs s l)) there more))

pub some-taken : (n : ℕ) (kinds : List Kind) (w : RunWorld) (m : ℕ) (role : Option ℤ) (over : Bool) (goal : List Log) → Lawful n kinds w → (seat w m).member.up ≡ true → (seat w m).phase ≡ Goes role over → length (seat w m).run.inputs ≡ length kinds
    → Each2 (Further (seat w m).member.durable.log (seat w m).member.values.rest.commit) (seat w m).run.inputs goal → (ks : List ℕ) × (after_acts kinds w (consume m ks) ≡ with_seat m (with_inputs (seat w m) goal) w)
some-taken n kinds w m role over goal lawful up goes count further =
    let s = seat w m in
    let feeds : Feeds kinds s (with_inputs s goal) = feeds-to kinds s role over up goes (commit-low n kinds w m lawful) [] s.run.inputs goal further count in
    (feeds.0, feeds.1 w m (up-there w m up, refl, printed-all n kinds w m lawful))
