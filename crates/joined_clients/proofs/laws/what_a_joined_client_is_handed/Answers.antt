use Rattle.joined_clients.proofs.Given.{handed_is}
use Rattle.joined_clients.proofs.laws.what_a_joined_client_is_handed.Goals as goal

pub returns : goal.returns
returns c = handed_is
