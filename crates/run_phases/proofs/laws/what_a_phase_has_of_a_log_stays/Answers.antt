use Rattle.run_phases.proofs.Stays.{cut_log, grows_log, holds_log}
use Rattle.run_phases.proofs.laws.what_a_phase_has_of_a_log_stays.Goals as goal

pub returns-clause-grows : goal.returns-clause-grows
returns-clause-grows x log more s t feeds lending low h = grows_log log more s t feeds lending low h

pub returns-clause-holds : goal.returns-clause-holds
returns-clause-holds x log s feeds h = holds_log log s feeds h

pub returns-clause-cut : goal.returns-clause-cut
returns-clause-cut x log next s t feeds lending low same h = cut_log log next s t feeds lending low same h
