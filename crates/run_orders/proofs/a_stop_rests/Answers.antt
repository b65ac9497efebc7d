use Rattle.run_orders.proofs.a_stop_rests.Goals as goal
use Rattle.run_orders.proofs.Resting.{up-rests}

pub returns : goal.returns
returns c start kinds u going s own d sound crash is = up-rests _ kinds u going s own d sound crash is
