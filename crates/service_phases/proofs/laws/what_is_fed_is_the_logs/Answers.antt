use Rattle.service_phases.proofs.FedLog.{begins, feeds_on, grows}
use Rattle.service_phases.proofs.laws.what_is_fed_is_the_logs.Goals as goal

pub returns-clause-begins : goal.returns-clause-begins
returns-clause-begins x log commit c f h low reach = begins log commit c f h low reach

pub returns-clause-goes_on : goal.returns-clause-goes_on
returns-clause-goes_on x log commit first b f g h low was takes publishes = feeds_on log commit first b f g h low was takes publishes

pub returns-clause-grows : goal.returns-clause-grows
returns-clause-grows x log more commit next b f low h = grows log more commit next b f low h
