use Rattle.std.proofs.Common.{◌+◌, ap, ◌∙◌}
use Rattle.ingress.proofs.Lengths.{length-open}
use Rattle.ingress.proofs.decision.connect.Goals as goal

pub admit-requires-clause-length : goal.admit-requires-clause-length
admit-requires-clause-length c = ap (λ n. 48 + n) c.len-2.ensures ∙ length-open _ _ _ _ _ _
