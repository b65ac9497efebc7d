use Rattle.cluster_client.proofs.Opening.{opened_once}
use Rattle.cluster_client.proofs.laws.a_session_is_opened_once.Goals as goal

pub returns : goal.returns
returns c = opened_once
