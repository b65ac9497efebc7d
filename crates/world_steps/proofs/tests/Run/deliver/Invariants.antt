use Rattle.world_steps.specs.Steps.{IsReached}
use Rattle.world_steps.proofs.tests.Run.deliver.Given as goal

abbrev pub invariant-loop-which : goal.invariant-loop-which
invariant-loop-which l = IsReached l.self.world
