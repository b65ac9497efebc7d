use Rattle.std.proofs.Common.{ℕ, ◌≤◌, List, length, sym, subst}
use Rattle.service_api.specs.declared.shipped.Kind.{Kind}
use Rattle.run_world.specs.Headline.{Headline}
use Rattle.run_world.specs.RunWorld.{RunWorld, first_world}
use Rattle.run_world.proofs.Acts.{headline-always}
use Rattle.run_orders.specs.Phases.{Leads}
use Rattle.run_orders.proofs.Ordered.{got, ran}
use Rattle.run_orders.proofs.is_safe_in_runs.Goals as goal

holds : (n : ℕ) (kinds : List Kind) (w : RunWorld) → n ≤ 5 → length kinds ≤ 3 → Leads kinds (first_world n) w → Headline kinds w
holds n kinds w five three z = subst (Headline kinds) (sym z.1) (headline-always n kinds z.0 five three)

pub returns-clause-got : goal.returns-clause-got
returns-clause-got x n kinds orders w five three z = holds n kinds w five three (got kinds n orders w z)

pub returns-clause-ran : goal.returns-clause-ran
returns-clause-ran x n kinds orders w five three z = holds n kinds w five three (ran kinds n orders w z)
