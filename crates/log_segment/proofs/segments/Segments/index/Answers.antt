use Rattle.std.proofs.Common.{sym, subst}
use Rattle.log_segment.specs.Held.{AreRanged}
use Rattle.log_segment.proofs.HeldLemmas.{are_ranged}
use Rattle.log_segment.proofs.segments.Segments.index.Goals as goal

pub returns-clause-ranged : goal.returns-clause-ranged
returns-clause-ranged c = subst AreRanged (sym c.index.ensures.index) (are_ranged c.self.inside.log c.index.ensures.sound)
