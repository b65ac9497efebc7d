use Rattle.echo_run.proofs.Fronts.{consumes_front}
use Rattle.echo_run.proofs.laws.consumes_a_front.Goals as goal

pub returns : goal.returns
returns c = consumes_front
