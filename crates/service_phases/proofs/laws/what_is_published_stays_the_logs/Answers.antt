use Rattle.service_phases.proofs.FedLog.{holds, stays, ends, stays_within}
use Rattle.service_phases.proofs.laws.what_is_published_stays_the_logs.Goals as goal

pub returns-clause-holds : goal.returns-clause-holds
returns-clause-holds x log commit b f h = holds log commit b f h

pub returns-clause-stays : goal.returns-clause-stays
returns-clause-stays x log next commit b f same h = stays log next commit b f same h

pub returns-clause-ends : goal.returns-clause-ends
returns-clause-ends x log commit b f g h end = ends log commit b f g h end

pub returns-clause-within : goal.returns-clause-within
returns-clause-within x log next commit later c low same h = stays_within log next commit later c low same h
