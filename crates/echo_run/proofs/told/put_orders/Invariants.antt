use Rattle.std.proofs.Common.{◌≡◌, ◌++◌, take, string_bytes}
use Rattle.std.specs.List.{flat_map}
use Rattle.echo_run.specs.Text.{order_line}
use Rattle.echo_run.proofs.told.put_orders.Given as goal

abbrev pub invariant-loop-order : goal.invariant-loop-order
invariant-loop-order l = string_bytes l.page ≡ string_bytes l.initial.page ++ flat_map order_line (take l.order-index l.orders)
