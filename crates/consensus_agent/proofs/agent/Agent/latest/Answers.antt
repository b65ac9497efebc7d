use Rattle.std.proofs.Common.{◌≡◌, ◌<◌, length, pos, subst, arith}
use Rattle.std.proofs.lemmas.Grind.{common_steps}
use Rattle.member_disk.specs.Kept.{Kept}
use Rattle.recording_log.specs.Listed.{AreSets}
use Rattle.consensus_agent.proofs.Found.{newest, no_set}
use Rattle.consensus_agent.proofs.Sets.{some_set}
use Rattle.consensus_agent.proofs.agent.Agent.latest.Goals as goal

pub returns-then-is_empty-clause-set : goal.returns-then-is_empty-clause-set
returns-then-is_empty-clause-set g c =
    let none : length c.sets-sets.result.now ≡ 0 = first_of (omega arith, grind (arith, common_steps)) in
    no_set c.args.self.now.disk.kept.services c.args.self.now.disk.kept.entries c.sets-sets.result.now (subst (λ (k : Kept). AreSets k.services k.entries c.sets-sets.result.now) c.durable.ensures c.sets-sets.ensures) none

pub returns-clause-set : goal.returns-clause-set
returns-clause-set g c =
    let some : 0 < length c.sets-sets.result.now = first_of (omega arith, grind (arith, common_steps)) in
    newest c.args.self.now.disk.kept.services c.args.self.now.disk.kept.entries c.sets-sets.result.now (record { recording = 0; term = pos 0; position = 0 }) (subst (λ (k : Kept). AreSets k.services k.entries c.sets-sets.result.now) c.durable.ensures c.sets-sets.ensures) some

pub returns-clause-some : goal.returns-clause-some
returns-clause-some g c =
    let some : 0 < length c.sets-sets.result.now = first_of (omega arith, grind (arith, common_steps)) in
    some_set c.args.self.now.disk.kept.services c.args.self.now.disk.kept.entries c.sets-sets.result.now (subst (λ (k : Kept). AreSets k.services k.entries c.sets-sets.result.now) c.durable.ensures c.sets-sets.ensures) some
