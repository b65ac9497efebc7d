use Rattle.echo_run.proofs.OrdersWorlds.{Stepped}
use Rattle.echo_run.proofs.run.Run.steps.Given as goal

abbrev pub invariant-each : goal.invariant-each
invariant-each l = Stepped l.orders l.order-index l.initial.self l.self
