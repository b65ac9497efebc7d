use Rattle.ingress.proofs.Lengths.{length-close}
use Rattle.ingress.proofs.decision.close.Goals as goal

pub admit-requires-clause-length : goal.admit-requires-clause-length
admit-requires-clause-length c = length-close _ _ _ _
