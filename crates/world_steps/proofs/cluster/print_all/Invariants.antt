use Rattle.std.proofs.Common.{◌≡◌}
use Rattle.world_steps.specs.Steps.{print_first}
use Rattle.world_steps.proofs.cluster.print_all.Given as goal

abbrev pub invariant-loop-i : goal.invariant-loop-i
invariant-loop-i l = l.printed.items ≡ print_first l.i l.members l.initial.printed.items
