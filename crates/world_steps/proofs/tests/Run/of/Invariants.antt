use Rattle.world_steps.specs.Steps.{IsReached}
use Rattle.world_steps.proofs.tests.Run.of.Given as goal

abbrev pub invariant-loop-member : goal.invariant-loop-member
invariant-loop-member l = IsReached l.world
