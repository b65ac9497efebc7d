use Rattle.std.proofs.Common.{sym, ◌∙◌}
use Rattle.world_steps.proofs.Made.{client-made}
use Rattle.world_steps.proofs.cluster.World.client.Goals as goal

pub appends-requires-clause-speaks : goal.appends-requires-clause-speaks
appends-requires-clause-speaks c =
    (client-made c.args.self.now c.args.number c.args.event.now c.args.cut c.requires.event c.requires.reached (sym c.is_running.ensures ∙ c.if-not-is_running.false) (sym c.in_ok-asked.ensures ∙ c.if-not-asked.false)).speaks
