use Rattle.std.proofs.Common.{◌+◌, ap, ◌∙◌}
use Rattle.ingress.proofs.Lengths.{length-message-of}
use Rattle.ingress.proofs.decision.message.Goals as goal

pub admit-requires-clause-length : goal.admit-requires-clause-length
admit-requires-clause-length c = ap (λ n. 32 + n) c.len-2.ensures ∙ length-message-of _ _ _ _
