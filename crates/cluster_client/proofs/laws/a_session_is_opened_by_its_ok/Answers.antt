use Rattle.cluster_client.proofs.Opening.{opened_by_ok}
use Rattle.cluster_client.proofs.laws.a_session_is_opened_by_its_ok.Goals as goal

pub returns : goal.returns
returns c = opened_by_ok
