use Rattle.echo_run.proofs.HeadlineSteps.{headline_holds}
use Rattle.echo_run.proofs.laws.leads_its_log.Goals as goal

pub returns : goal.returns
returns c = λ orders. (headline_holds orders).named
