use Rattle.std.proofs.Common.{sym, ap, ◌∙◌}
use Rattle.world_steps.proofs.Made.{duty-made, with_world}
use Rattle.world_steps.proofs.cluster.World.duty.Goals as goal

pub does-requires-clause-speaks : goal.does-requires-clause-speaks
does-requires-clause-speaks c =
    (duty-made c.args.self.now c.args.number c.args.alive.now c.args.since c.args.cut c.as_slice.result.now c.requires (sym c.is_running.ensures ∙ c.if-not-is_running.false) (c.as_slice.ensures ∙ c.in_ok-events.ensures.due)).speaks

pub returns : goal.returns
returns c =
    c.in_ok-does.ensures
    ∙ ap (with_world c.args.self.now) (duty-made c.args.self.now c.args.number c.args.alive.now c.args.since c.args.cut c.as_slice.result.now c.requires (sym c.is_running.ensures ∙ c.if-not-is_running.false) (c.as_slice.ensures ∙ c.in_ok-events.ensures.due)).step_is
