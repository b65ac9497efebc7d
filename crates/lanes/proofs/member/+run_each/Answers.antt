use Rattle.std.proofs.Common.{rules, ◌≡◌, ◌++◌, ◌∷◌, []}
use Rattle.service_phases.specs.Phases.{Ran}
use Rattle.lanes.proofs.Lists.{join2}
use Rattle.lanes.proofs.member.+run_each.Goals as goal

pub returns-clause-ran : goal.returns-clause-ran
returns-clause-ran g t c =
    let s : c.args.jobs.now.items ≡ c.pop.new.self.items ++ c.in-Some.job ∷ [] = search rules in
    let n : c.push_reserved.new.self.items ≡ c.run_each.new.jobs.items ++ c.work.new.job ∷ [] = search rules in
    join2 Ran _ _ _ _ _ _ s n c.run_each.ensures.ran c.work.ensures
