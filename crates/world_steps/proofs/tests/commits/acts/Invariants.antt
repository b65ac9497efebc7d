use Rattle.world_steps.specs.Steps.{IsReached}
use Rattle.world_steps.proofs.tests.commits.acts.Given as goal

abbrev pub invariant-loop : goal.invariant-loop
invariant-loop g l = IsReached l.run.world
