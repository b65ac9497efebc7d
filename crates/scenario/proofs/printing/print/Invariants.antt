use Rattle.std.proofs.Common.{◌≡◌, take}
use Rattle.scenario.specs.Printing.{printed}
use Rattle.scenario.proofs.printing.print.Given as goal

abbrev pub invariant-loop-order : goal.invariant-loop-order
invariant-loop-order l = l.out.items ≡ printed (take l.order-index l.orders)
