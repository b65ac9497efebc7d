use Rattle.run_orders.proofs.a_fuse_is_set.Goals as goal
use Rattle.run_orders.proofs.Resting.{seat-fused}

pub returns : goal.returns
returns c start kinds x s d calls choice is told = seat-fused _ kinds x s d calls choice is told
