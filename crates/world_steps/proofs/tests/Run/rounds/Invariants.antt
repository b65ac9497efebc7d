use Rattle.world_steps.specs.Steps.{IsReached}
use Rattle.world_steps.proofs.tests.Run.rounds.Given as goal

abbrev pub invariant-loop : goal.invariant-loop
invariant-loop l = IsReached l.self.world

abbrev pub invariant-loop-member : goal.invariant-loop-member
invariant-loop-member l = IsReached l.self.world
