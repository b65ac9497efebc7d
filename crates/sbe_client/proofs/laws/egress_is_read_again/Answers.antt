use Rattle.sbe_client.proofs.Again.{egress_again}
use Rattle.sbe_client.proofs.laws.egress_is_read_again.Goals as goal

pub returns : goal.returns
returns c = egress_again
