use Rattle.run_orders.proofs.sees_its_world.Goals as goal
use Rattle.run_orders.proofs.Standing.{sees-end, sees-due}

pub returns-clause-view : goal.returns-clause-view
returns-clause-view c kinds m s has = sees-end kinds m s has

pub returns-clause-finds : goal.returns-clause-finds
returns-clause-finds c kinds m s now has = sees-due kinds m s now has
