use Rattle.std.proofs.Common.{rules, ◌≡◌, ◌++◌, ◌∷◌, [], refl}
use Rattle.service_container.specs.declared.container.Served.{Served}
use Rattle.service_container.specs.declared.container.ServeEnd.TheVariants.{NoMemory}
use Rattle.service_phases.specs.Begins.{Holds, Polls}
use Rattle.service_phases.proofs.Lists.{join2}
use Rattle.service_phases.proofs.lend.+lend_each.Goals as goal

pub returns-clause-containers : goal.returns-clause-containers
returns-clause-containers t c =
    let j : Served = record { container = c.in-Some-Some.container; poller = c.in-Some-Some.poller; end = NoMemory } in
    let k : c.args.kept.now.items ≡ c.pop.new.self.items ++ c.in-Some-Some.container ∷ [] = search rules in
    let s : c.push_reserved.new.self.items ≡ c.lend_each.new.jobs.items ++ j ∷ [] = search rules in
    join2 Holds _ _ _ _ _ _ k s c.lend_each.ensures.containers refl

pub returns-clause-pollers : goal.returns-clause-pollers
returns-clause-pollers t c =
    let j : Served = record { container = c.in-Some-Some.container; poller = c.in-Some-Some.poller; end = NoMemory } in
    let p : c.args.pollers.now.items ≡ c.pop-2.new.self.items ++ c.in-Some-Some.poller ∷ [] = search rules in
    let s : c.push_reserved.new.self.items ≡ c.lend_each.new.jobs.items ++ j ∷ [] = search rules in
    join2 Polls _ _ _ _ _ _ p s c.lend_each.ensures.pollers refl
