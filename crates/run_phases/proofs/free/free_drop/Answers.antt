use Rattle.std.proofs.Common.{List, sym, ap, subst}
use Rattle.commit_counter.specs.Ends.{Fed}
use Rattle.service_phases.specs.Pairs.{Each, Each2}
use Rattle.service_phases.specs.Feeds.{Finishes}
use Rattle.service_phases.specs.Phases.{IsWithin, Lending, containers}
use Rattle.run_phases.proofs.Frees.{came_back}
use Rattle.run_phases.proofs.Fronts.{each_append, holds_finish}
use Rattle.run_phases.proofs.Grown.{lent_back}
use Rattle.run_phases.proofs.free.free_drop.Goals as goal

pub phase_drop-requires : goal.phase_drop-requires
phase_drop-requires g c = record { run = rw c.into_parts-feeds.ensures.0 (came_back _ _ _ _ _ c.requires.free.runs c.come_back-served.ensures.feeds c.come_back-served.ensures.ran) }

pub returns-clause-back : goal.returns-clause-back
returns-clause-back g c =
    let run = came_back _ _ _ _ _ c.requires.free.runs c.come_back-served.ensures.feeds c.come_back-served.ensures.ran in
    record {
      back = containers c.come_back-served.result;
      went = lent_back _ _ _ c.come_back-served.result (λ i. containers c.come_back-served.result) c.requires.free.runs.lent run.ran;
      lending = c.phase_drop.ensures.kept;
    }

pub returns-clause-within : goal.returns-clause-within
returns-clause-within g c log holds within =
    let F : List Fed → Type 0 = λ l. Each2 Finishes c.args.phase.feeds l in
    let ends : Each2 Finishes c.args.phase.feeds c.into_parts-feeds.result.0 = subst F (sym c.into_parts-feeds.ensures.0) c.come_back-served.ensures.feeds in
    subst (Each (IsWithin log c.args.agent.now.core.values.rest.commit)) (sym (ap (λ (l : Lending). l.kept) c.phase_drop.ensures.kept))
    (each_append (IsWithin log c.args.agent.now.core.values.rest.commit) c.args.agent.now.services.kept (containers c.come_back-served.result) within
    (c.phase_drop.ensures.within log c.args.agent.now.core.values.rest.commit holds.lent (holds_finish log _ _ _ _ holds.fed ends)))
