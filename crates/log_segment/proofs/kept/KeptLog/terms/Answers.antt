use Rattle.std.proofs.Common.{◌∙◌, ap}
use Rattle.entry_log.specs.Log.{Log}
use Rattle.log_segment.specs.Held.{new_terms}
use Rattle.log_segment.proofs.kept.KeptLog.terms.Goals as goal

pub returns : goal.returns
returns c = c.deref.ensures.value ∙ c.self.invariant.2 ∙ ap (λ (l : Log). new_terms 0 l) c.self.view_is
