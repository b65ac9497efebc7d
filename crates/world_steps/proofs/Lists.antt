-- Lists of members, and what is printed.
use Rattle.std.proofs.Common.{◌≡◌, ℕ, zero, suc, ◌+◌, [], ◌∷◌, ◌++◌, replicate, take, refl, ap}
use Rattle.std.proofs.lemmas.List.{replicate-append-replicate}
use Rattle.entry_log.specs.Log.{Log}
use Rattle.world.specs.World.{World, member}
use Rattle.service_runs.specs.Hosts.{longer, printed_by}
use Rattle.world_steps.specs.Steps.{print_first}

pub replicate_more : {A : Type 0} (n : ℕ) (a : A) → replicate n a ++ a ∷ [] ≡ replicate (n + 1) a
replicate_more {A} n a = replicate-append-replicate n 1 a

pub print_is : (n : ℕ) (w : World) (p : Log) → print_first n w.members p ≡ printed_by n w p
print_is zero w p = refl
print_is (suc n) w p = ap (λ (z : Log). longer z (take (member w n).values.rest.commit (member w n).durable.log)) (print_is n w p)
