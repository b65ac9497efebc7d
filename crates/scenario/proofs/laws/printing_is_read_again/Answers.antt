use Rattle.scenario.proofs.Again.{printed_again}
use Rattle.scenario.proofs.laws.printing_is_read_again.Goals as goal

pub returns : goal.returns
returns c = printed_again
