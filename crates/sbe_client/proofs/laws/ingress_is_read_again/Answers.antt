use Rattle.sbe_client.proofs.Again.{ingress_again}
use Rattle.sbe_client.proofs.laws.ingress_is_read_again.Goals as goal

pub returns : goal.returns
returns c = ingress_again
