use Rattle.run_orders.proofs.goes_on.Goals as goal
use Rattle.run_orders.proofs.Standing.{put-stands}

pub returns : goal.returns
returns c start kinds x w m y s ps stands is = put-stands _ _ kinds x w m y s ps stands is
