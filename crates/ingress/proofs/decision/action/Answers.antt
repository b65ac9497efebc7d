use Rattle.ingress.proofs.Lengths.{length-action}
use Rattle.ingress.proofs.decision.action.Goals as goal

pub admit-requires-clause-length : goal.admit-requires-clause-length
admit-requires-clause-length c = length-action _ _ _
