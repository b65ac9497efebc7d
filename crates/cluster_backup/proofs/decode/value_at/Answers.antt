use Rattle.std.proofs.Common.{subst}
use Rattle.cluster_backup.specs.Laws.{Sound, query_long}
use Rattle.cluster_backup.proofs.decode.value_at.Goals as goal

pub query_at-requires : goal.query_at-requires
query_at-requires c = query_long c.args.bytes.now (subst (λ t. Sound t c.args.bytes.now) c.in-Query.is c.requires)
