use Rattle.std.proofs.Common.{List, sym, ap, subst}
use Rattle.commit_counter.specs.Ends.{Fed}
use Rattle.service_phases.specs.Pairs.{Each, Each2}
use Rattle.service_phases.specs.Feeds.{Finishes}
use Rattle.service_phases.specs.Phases.{HasAll, IsWithin, Lending}
use Rattle.run_phases.proofs.Frees.{came_back, finish_has}
use Rattle.run_phases.proofs.Fronts.{all_to_within, holds_finish}
use Rattle.run_phases.proofs.Grown.{kept_back, lent_back}
use Rattle.run_phases.proofs.free.end_fed.Goals as goal

pub phase_drop-requires : goal.phase_drop-requires
phase_drop-requires g c = record { run = rw c.into_parts-feeds.ensures.0 (came_back _ _ _ _ _ c.requires.free.runs c.come_back-served.ensures.feeds c.come_back-served.ensures.ran) }

pub phase_end-requires-clause-run : goal.phase_end-requires-clause-run
phase_end-requires-clause-run g c = rw c.into_parts-feeds.ensures.0 (came_back _ _ _ _ _ c.requires.free.runs c.come_back-served.ensures.feeds c.come_back-served.ensures.ran)

pub phase_end-requires-clause-commit : goal.phase_end-requires-clause-commit
phase_end-requires-clause-commit g c = rw c.into_parts-feeds.ensures.0 (finish_has _ _ _ c.requires.published c.come_back-served.ensures.feeds)

pub returns-then-not-have_ended-clause-grew : goal.returns-then-not-have_ended-clause-grew
returns-then-not-have_ended-clause-grew g c =
    let run = came_back _ _ _ _ _ c.requires.free.runs c.come_back-served.ensures.feeds c.come_back-served.ensures.ran in
    lent_back _ _ _ c.come_back-served.result (kept_back _ _ c.come_back-served.result c.requires.going.kept c.phase_drop.ensures.kept) c.requires.free.runs.lent run.ran

pub returns-then-not-have_ended-clause-within : goal.returns-then-not-have_ended-clause-within
returns-then-not-have_ended-clause-within g c log holds =
    let F : List Fed → Type 0 = λ l. Each2 Finishes c.args.phase.feeds l in
    let ends : Each2 Finishes c.args.phase.feeds c.into_parts-feeds.result.0 = subst F (sym c.into_parts-feeds.ensures.0) c.come_back-served.ensures.feeds in
    subst (Each (IsWithin log c.args.agent.now.core.values.rest.commit)) (sym (kept_back _ _ c.come_back-served.result c.requires.going.kept c.phase_drop.ensures.kept)) (c.phase_drop.ensures.within log c.args.agent.now.core.values.rest.commit holds.lent (holds_finish log _ _ _ _ holds.fed ends))

pub returns-in_err-records-clause-grew : goal.returns-in_err-records-clause-grew
returns-in_err-records-clause-grew g c =
    let run = came_back _ _ _ _ _ c.requires.free.runs c.come_back-served.ensures.feeds c.come_back-served.ensures.ran in
    lent_back _ _ _ c.come_back-served.result (ap (λ (l : Lending). l.kept) c.phase_end.ensures.kept) c.requires.free.runs.lent run.ran

pub returns-in_err-records-clause-within : goal.returns-in_err-records-clause-within
returns-in_err-records-clause-within g c log holds =
    let F : List Fed → Type 0 = λ l. Each2 Finishes c.args.phase.feeds l in
    let ends : Each2 Finishes c.args.phase.feeds c.into_parts-feeds.result.0 = subst F (sym c.into_parts-feeds.ensures.0) c.come_back-served.ensures.feeds in
    subst (Each (IsWithin log c.args.agent.now.core.values.rest.commit)) (sym (ap (λ (l : Lending). l.kept) c.phase_end.ensures.kept)) (all_to_within log _ _ (c.phase_end.ensures.all log holds.lent (holds_finish log _ _ _ _ holds.fed ends)))

pub returns-clause-grew : goal.returns-clause-grew
returns-clause-grew g c =
    let run = came_back _ _ _ _ _ c.requires.free.runs c.come_back-served.ensures.feeds c.come_back-served.ensures.ran in
    lent_back _ _ _ c.come_back-served.result (ap (λ (l : Lending). l.kept) c.phase_end.ensures.kept) c.requires.free.runs.lent run.ran

pub returns-clause-within : goal.returns-clause-within
returns-clause-within g c log holds =
    let F : List Fed → Type 0 = λ l. Each2 Finishes c.args.phase.feeds l in
    let ends : Each2 Finishes c.args.phase.feeds c.into_parts-feeds.result.0 = subst F (sym c.into_parts-feeds.ensures.0) c.come_back-served.ensures.feeds in
    subst (Each (IsWithin log c.args.agent.now.core.values.rest.commit)) (sym (ap (λ (l : Lending). l.kept) c.phase_end.ensures.kept)) (all_to_within log _ _ (c.phase_end.ensures.all log holds.lent (holds_finish log _ _ _ _ holds.fed ends)))

pub returns-clause-all : goal.returns-clause-all
returns-clause-all g c log holds =
    let F : List Fed → Type 0 = λ l. Each2 Finishes c.args.phase.feeds l in
    let ends : Each2 Finishes c.args.phase.feeds c.into_parts-feeds.result.0 = subst F (sym c.into_parts-feeds.ensures.0) c.come_back-served.ensures.feeds in
    subst (Each (HasAll log c.args.agent.now.core.values.rest.commit)) (sym (ap (λ (l : Lending). l.kept) c.phase_end.ensures.kept)) (c.phase_end.ensures.all log holds.lent (holds_finish log _ _ _ _ holds.fed ends))
