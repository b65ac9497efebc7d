use Rattle.echo_run.proofs.Working.{text_there}
use Rattle.echo_run.proofs.laws.worked_run.Goals as goal

pub returns : goal.returns
returns c = text_there
