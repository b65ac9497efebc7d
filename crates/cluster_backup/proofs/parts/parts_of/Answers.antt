use Rattle.cluster_backup.specs.Laws.{counted_long, is_counted}
use Rattle.cluster_backup.proofs.parts.parts_of.Goals as goal

pub count-requires : goal.count-requires
count-requires c = counted_long c.args.part c.args.bytes.now c.requires

pub parts_at-requires-clause-long : goal.parts_at-requires-clause-long
parts_at-requires-clause-long c = rw c.front.ensures (counted_long c.args.part c.args.bytes.now c.requires)

pub parts_at-requires-clause-there : goal.parts_at-requires-clause-there
parts_at-requires-clause-there c = rw (c.front.ensures, c.count.ensures) (is_counted c.args.part c.args.bytes.now c.requires).there
