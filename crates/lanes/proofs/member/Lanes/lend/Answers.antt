use Rattle.std.proofs.Common.{◌∙◌}
use Rattle.lanes.proofs.Lists.{none_lent}
use Rattle.lanes.proofs.member.Lanes.lend.Goals as goal

pub open_lanes-requires-after_bounds : goal.open_lanes-requires-after_bounds
open_lanes-requires-after_bounds g c κs within = none_lent c.self.inside.jobs.items _ (c.self.view_is ∙ c.requires.none)
