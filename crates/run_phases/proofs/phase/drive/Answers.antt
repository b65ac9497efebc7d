use Rattle.std.proofs.Common.{List, subst}
use Rattle.commit_counter.specs.Ends.{Fed}
use Rattle.service_phases.specs.Pairs.{Each2}
use Rattle.service_phases.specs.Feeds.{Finishes}
use Rattle.run_phases.proofs.Stages.{fed_to_end}
use Rattle.run_phases.proofs.Fronts.{finish_left}
use Rattle.run_phases.proofs.phase.drive.Goals as goal

pub returns-in_err-fed-clause-ended : goal.returns-in_err-fed-clause-ended
returns-in_err-fed-clause-ended g c =
    let F : List Fed → Type 0 = λ l. Each2 Finishes l c.finish_each.new.feeds in
    fed_to_end _ _ _ _ c.feed-fed.ensures.on (subst F c.as_mut_slice.ensures.value c.finish_each.ensures)

pub returns-in_err-fed-clause-log : goal.returns-in_err-fed-clause-log
returns-in_err-fed-clause-log g c log begun is was =
    let F : List Fed → Type 0 = λ l. Each2 Finishes l c.finish_each.new.feeds in
    finish_left log _ begun _ _ (c.feed-fed.ensures.log log begun is was) (subst F c.as_mut_slice.ensures.value c.finish_each.ensures)

pub returns-clause-ended : goal.returns-clause-ended
returns-clause-ended g c =
    let F : List Fed → Type 0 = λ l. Each2 Finishes l c.finish_each.new.feeds in
    fed_to_end _ _ _ _ c.feed-fed.ensures.on (subst F c.as_mut_slice.ensures.value c.finish_each.ensures)

pub returns-clause-log : goal.returns-clause-log
returns-clause-log g c log begun is was =
    let F : List Fed → Type 0 = λ l. Each2 Finishes l c.finish_each.new.feeds in
    finish_left log _ begun _ _ (c.feed-fed.ensures.log log begun is was) (subst F c.as_mut_slice.ensures.value c.finish_each.ensures)
