use Rattle.one_log.specs.Led.{led, turns}
use Rattle.one_log.proofs.is_run.Goals as goal
use Rattle.one_log.proofs.Turns.{turns-acts, due-passes, asked-passes, stays, due-over-events, admits-what, admits-all}

pub returns-clause-acts : goal.returns-clause-acts
returns-clause-acts c n kinds r ts = turns-acts kinds r (led n) ts

pub returns-clause-due : goal.returns-clause-due
returns-clause-due c = due-passes

pub returns-clause-asked : goal.returns-clause-asked
returns-clause-asked c = asked-passes

pub returns-clause-over_events : goal.returns-clause-over_events
returns-clause-over_events c n kinds r ts m alive since five three up = due-over-events n kinds r (turns kinds r (led n) ts) m alive since (stays n kinds r ts five three) up

pub returns-clause-admits : goal.returns-clause-admits
returns-clause-admits c = admits-what

pub returns-clause-admits_all : goal.returns-clause-admits_all
returns-clause-admits_all c = admits-all
