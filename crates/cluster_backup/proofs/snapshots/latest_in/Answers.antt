use Rattle.std.proofs.Common.{◌≡◌, ◌<◌, length, arith}
use Rattle.std.proofs.lemmas.Grind.{common_steps}
use Rattle.cluster_backup.proofs.Bringing.{latest_at, none_latest}
use Rattle.cluster_backup.proofs.snapshots.latest_in.Goals as goal

pub returns-then-is_empty-clause-latest : goal.returns-then-is_empty-clause-latest
returns-then-is_empty-clause-latest c =
    let none : length c.sets-sets.result.now ≡ 0 = first_of (omega arith, grind (arith, common_steps)) in
    none_latest c.args.durable.now c.sets-sets.result.now c.sets-sets.ensures none

pub returns-clause-latest : goal.returns-clause-latest
returns-clause-latest c =
    let some : 0 < length c.sets-sets.result.now = first_of (omega arith, grind (arith, common_steps)) in
    latest_at c.args.durable.now c.sets-sets.result.now _ c.sets-sets.ensures some
