use Rattle.std.proofs.Common.{rules, ◌≡◌, ◌++◌, ◌∷◌, [], subst}
use Rattle.service_phases.specs.Pairs.{Each}
use Rattle.service_phases.specs.Phases.{MayServe}
use Rattle.lanes.specs.Jobs.{IsIdle}
use Rattle.lanes.proofs.Lists.{split1, keeps_all, lends_last}
use Rattle.lanes.proofs.member.+lend_each.Goals as goal

pub returns-in_default-pop-clause-jobs : goal.returns-in_default-pop-clause-jobs
returns-in_default-pop-clause-jobs g t c =
    let lanes : c.args.lanes.now ≡ c.in-Some.rest.now ++ c.in-Some.lane.now ∷ [] = search rules in
    keeps_all _ _ _ (subst (Each IsIdle) lanes c.requires.idle) (search rules)

pub lend_each-requires : goal.lend_each-requires
lend_each-requires g t c κs within =
    let lanes : c.args.lanes.now ≡ c.in-Some.rest.now ++ c.in-Some.lane.now ∷ [] = search rules in
    let jobs : c.args.jobs.now.items ≡ c.pop.new.self.items ++ c.in-Some-pop.job ∷ [] = search rules in
    (search rules, (search rules, ((split1 IsIdle _ _ _ lanes c.requires.idle).0, (split1 MayServe _ _ _ jobs c.requires.may).0)))

pub lend-requires-clause-none : goal.lend-requires-clause-none
lend-requires-clause-none g t c =
    let lanes : c.args.lanes.now ≡ c.in-Some.rest.now ++ c.in-Some.lane.now ∷ [] = search rules in
    (split1 IsIdle _ _ _ lanes c.requires.idle).1

pub lend-requires-clause-may : goal.lend-requires-clause-may
lend-requires-clause-may g t c =
    let jobs : c.args.jobs.now.items ≡ c.pop.new.self.items ++ c.in-Some-pop.job ∷ [] = search rules in
    (split1 MayServe _ _ _ jobs c.requires.may).1

pub returns-clause-jobs : goal.returns-clause-jobs
returns-clause-jobs g t c =
    let jobs : c.args.jobs.now.items ≡ c.pop.new.self.items ++ c.in-Some-pop.job ∷ [] = search rules in
    lends_last c.args.jobs.now.items c.lend_each.new.jobs.items c.pop.new.self.items c.lend_each.new.lanes c.lend.new.self c.in-Some-pop.job c.lend.ensures jobs c.lend_each.ensures.jobs
