use Rattle.run_orders.proofs.a_phase_begins.Goals as goal
use Rattle.run_orders.proofs.Opening.{up-opens}

pub returns : goal.returns
returns c start kinds u s role feeds led is = up-opens _ kinds u s role feeds led is
