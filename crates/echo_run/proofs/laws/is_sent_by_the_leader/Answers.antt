use Rattle.echo_run.proofs.HeadlineSteps.{headline_holds}
use Rattle.echo_run.proofs.laws.is_sent_by_the_leader.Goals as goal

pub returns : goal.returns
returns c = λ orders. (headline_holds orders).led
