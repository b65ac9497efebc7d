-- The world before any step is reached.
use Rattle.std.proofs.Common.{◌≡◌, ℕ, ◌≤◌, true, List, [], length, replicate, refl, sym, ap, subst, arith}
use Rattle.std.proofs.lemmas.Int.{ints}
use Rattle.std.proofs.lemmas.List.{length-replicate}
use Rattle.entry_log.specs.Durable.{fresh}
use Rattle.service_api.specs.declared.shipped.Kind.{Kind}
use Rattle.consensus_core.specs.Fit.{IsFit, IsTerm}
use Rattle.consensus_core.specs.Member.{Member, stopped}
use Rattle.world.specs.World.{formatted}
use Rattle.world.proofs.Effects.{none_in}
use Rattle.agreement.proofs.Runs2.{all-fresh}
use Rattle.run_world.specs.Lawful.{IsSpelled, IsLeader}
use Rattle.world_steps.specs.Steps.{IsReached, first_seen}

first-spelled : (n : ℕ) → IsSpelled (formatted n)
first-spelled n = record {
  fit = λ m. subst (λ (x : Member). x.up ≡ true → IsFit x.values.election) (sym (all-fresh n m)) (λ up. absurd (cc));
  leads = λ m. subst (λ (x : Member). x.up ≡ true → IsLeader (length (replicate n (stopped fresh))) x.values.election.leader) (sym (all-fresh n m)) (λ up. absurd (cc));
  to = λ s has. absurd (none_in s has);
  kept = λ m. subst (λ (x : Member). IsTerm x.durable.candidate) (sym (all-fresh n m)) (record { low = omega (arith, ints); high = omega (arith, ints) });
  sent = λ s has. absurd (none_in s has);
}

pub first_reached : (n : ℕ) (kinds : List Kind) → n ≤ 5 → length kinds ≤ 3 → IsReached (first_seen n kinds)
first_reached n kinds five three = record {
  members = n;
  count = length-replicate n (stopped fresh);
  five = five;
  three = three;
  taken = [];
  stands = record {
    world = refl;
    printed = refl;
    quiet = record { idle = λ m. refl; applied = λ m. refl; consumed = λ m. refl; bare = λ m. ap (λ (x : Member). x.durable.snapshots) (all-fresh n m) };
  };
  spelled = first-spelled n;
}
