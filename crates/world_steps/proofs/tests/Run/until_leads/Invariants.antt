use Rattle.world_steps.specs.Steps.{IsReached}
use Rattle.world_steps.proofs.tests.Run.until_leads.Given as goal

abbrev pub invariant-loop : goal.invariant-loop
invariant-loop l = IsReached l.self.world
