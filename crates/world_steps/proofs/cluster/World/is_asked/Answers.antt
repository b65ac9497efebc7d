use Rattle.std.proofs.Common.{◌≤◌, ◌^◌, rules, sym, ap, subst, ◌∙◌}
use Rattle.entry_log.specs.Durable.{Durable}
use Rattle.world_steps.specs.Fit.{LogFits}
use Rattle.world_steps.specs.Steps.{Seen}
use Rattle.world_steps.proofs.Made.{found, runs-at}
use Rattle.world_steps.proofs.Reached.{now_low}
use Rattle.world_steps.proofs.cluster.World.is_asked.Goals as goal

pub overflow_cast-self-inside : goal.overflow_cast-self-inside
overflow_cast-self-inside c =
    let low : c.self.inside.moment ≤ 2 ^ 60 = subst (λ (s : Seen). s.world.now ≤ 2 ^ 60) (sym c.self.view_is) (now_low c.args.self.now c.requires.reached) in
    search rules

pub may_append-requires-clause-log : goal.may_append-requires-clause-log
may_append-requires-clause-log c =
    let runs = runs-at _ c.args.number c.index-found.result.now (found _ c.args.self.now c.args.number c.index-found.result.now c.self.view_is c.requires.reached c.requires.runs c.index-found.ensures) in
    subst LogFits (sym (c.entries.ensures ∙ ap (λ (d : Durable). d.log) c.kept.ensures)) runs.log_fits
