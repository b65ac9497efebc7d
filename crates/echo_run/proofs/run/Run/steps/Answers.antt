use Rattle.echo_run.proofs.OrdersWorlds.{moment_here, count_here, stepped_none, stepped_more, stepped_all}
use Rattle.echo_run.proofs.run.Run.steps.Goals as goal

pub each-init : goal.each-init
each-init c = stepped_none c.args.orders.now c.args.self.now c.requires.kept c.requires.moment c.requires.count

pub step-requires-clause-kept : goal.step-requires-clause-kept
step-requires-clause-kept c = c.each.invariant.kept

pub step-requires-clause-moment : goal.step-requires-clause-moment
step-requires-clause-moment c = moment_here c.args.orders.now c.each.order-index c.args.self.now c.each.self c.order-item.result c.each.invariant c.each-test.true c.order-item.is

pub step-requires-clause-count : goal.step-requires-clause-count
step-requires-clause-count c = count_here c.args.orders.now c.each.order-index c.args.self.now c.each.self c.order-item.result c.each.invariant c.each-test.true c.order-item.is

pub each-preserved : goal.each-preserved
each-preserved c = stepped_more c.args.orders.now c.each.order-index c.args.self.now c.each.self c.order-item.result c.each.invariant c.each-test.true c.order-item.is c.step.new.self c.in_ok-step.ensures.kept c.in_ok-step.ensures.world

pub returns-clause-kept : goal.returns-clause-kept
returns-clause-kept c = c.each.invariant.kept

pub returns-clause-world : goal.returns-clause-world
returns-clause-world c = stepped_all c.args.orders.now c.each.order-index c.args.self.now c.each.self c.each.invariant c.each-test.false
