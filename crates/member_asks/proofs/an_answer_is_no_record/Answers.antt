use Rattle.member_asks.proofs.an_answer_is_no_record.Goals as goal
use Rattle.member_asks.proofs.Direct.{answered-stands}

pub returns : goal.returns
returns c streams records answer direct are = answered-stands streams records answer direct are
