use Rattle.std.proofs.Common.{◌∙◌}
use Rattle.lanes.proofs.Moves.{lends, lends_into}
use Rattle.lanes.proofs.lane.Lane.lend.Goals as goal

pub push_as-requires-clause-rule : goal.push_as-requires-clause-rule
push_as-requires-clause-rule g c = let free = c.self.view_is ∙ c.requires.none in (lends _ _ _ c.new-lent.result c.self.invariant.drives free, lends_into _ _ c.new-lent.result c.self.invariant.drives free)
