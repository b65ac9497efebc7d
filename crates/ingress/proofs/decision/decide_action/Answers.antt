use Rattle.ingress.proofs.Spelled.{action_spelled}
use Rattle.ingress.proofs.Admitted.{action_admits}
use Rattle.ingress.proofs.decision.decide_action.Goals as goal

pub returns-clause-spelled : goal.returns-clause-spelled
returns-clause-spelled c = rw c.action.ensures (action_spelled c.args.view.now c.args.actions c.args.now c.requires.view c.requires.now)

pub returns-clause-admits : goal.returns-clause-admits
returns-clause-admits c = rw c.action.ensures (action_admits c.args.view.now c.args.actions c.args.now)
