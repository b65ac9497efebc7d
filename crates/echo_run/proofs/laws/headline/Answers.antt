use Rattle.echo_run.proofs.HeadlineSteps.{headline_holds}
use Rattle.echo_run.proofs.laws.headline.Goals as goal

pub returns : goal.returns
returns c = headline_holds
