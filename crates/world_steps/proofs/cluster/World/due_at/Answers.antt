use Rattle.std.proofs.Common.{◌≤◌, ◌^◌, sym, subst}
use Rattle.world_steps.specs.Steps.{Seen}
use Rattle.world_steps.proofs.Reached.{now_low}
use Rattle.world_steps.proofs.cluster.World.due_at.Goals as goal

pub due_in-requires-clause-now : goal.due_in-requires-clause-now
due_in-requires-clause-now c = subst (λ (s : Seen). s.world.now ≤ 2 ^ 60) (sym c.self.view_is) (now_low c.args.self.now c.requires.reached)
