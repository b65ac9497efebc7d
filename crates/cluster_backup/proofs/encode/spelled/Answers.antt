use Rattle.std.proofs.Common.{ap, subst}
use Rattle.cluster_backup.specs.Spelling.{AreParts}
use Rattle.cluster_backup.specs.declared.part.Part.TheVariants as part
use Rattle.cluster_backup.proofs.PartLists.{all_short, short_log, short_snapshot}
use Rattle.cluster_backup.proofs.encode.spelled.Goals as goal

pub with_parts-requires-in-Log-clause-parts : goal.with_parts-requires-in-Log-clause-parts
with_parts-requires-in-Log-clause-parts c = rw c.as_slice.ensures (short_log c.args.p.now _ _ c.in-Log.is c.requires)

pub with_parts-requires-in-Snapshot-clause-parts : goal.with_parts-requires-in-Snapshot-clause-parts
with_parts-requires-in-Snapshot-clause-parts c = rw c.as_slice-in-Snapshot.ensures (short_snapshot c.args.p.now _ _ _ _ _ _ c.in-Snapshot.is c.requires)
