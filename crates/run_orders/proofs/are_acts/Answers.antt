use Rattle.run_orders.proofs.are_acts.Goals as goal
use Rattle.run_orders.proofs.Ordered.{step, got, ran}

pub returns-clause-order : goal.returns-clause-order
returns-clause-order x kinds c o w v z = step kinds c o w v z

pub returns-clause-got : goal.returns-clause-got
returns-clause-got x n kinds orders w z = got kinds n orders w z

pub returns-clause-ran : goal.returns-clause-ran
returns-clause-ran x n kinds orders w z = ran kinds n orders w z
