use Rattle.std.proofs.Common.{sym, subst}
use Rattle.world_steps.specs.Steps.{IsReached}
use Rattle.world_steps.proofs.First.{first_reached}
use Rattle.world_steps.proofs.cluster.World.new.Goals as goal

pub returns-clause-reached : goal.returns-clause-reached
returns-clause-reached c = subst IsReached (sym c.in_ok-world.ensures) (first_reached c.args.members c.args.kinds.now c.requires.members c.requires.kinds)
