use Rattle.std.proofs.Common.{◌≡◌, ◌<◌, length, pos, arith}
use Rattle.std.proofs.lemmas.Grind.{common_steps}
use Rattle.consensus_agent.proofs.Found.{newest, no_set}
use Rattle.consensus_agent.proofs.mounting.latest_of.Goals as goal

pub returns-then-is_empty : goal.returns-then-is_empty
returns-then-is_empty c =
    let none : length c.sets-sets.result.now ≡ 0 = first_of (omega arith, grind (arith, common_steps)) in
    no_set c.args.durable.now.services c.args.durable.now.entries c.sets-sets.result.now c.sets-sets.ensures none

pub returns : goal.returns
returns c =
    let some : 0 < length c.sets-sets.result.now = first_of (omega arith, grind (arith, common_steps)) in
    newest c.args.durable.now.services c.args.durable.now.entries c.sets-sets.result.now (record { recording = 0; term = pos 0; position = 0 }) c.sets-sets.ensures some
