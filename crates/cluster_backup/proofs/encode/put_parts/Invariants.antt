use Rattle.std.proofs.Common.{◌≡◌, ◌++◌, drop}
use Rattle.snapshot_store.specs.Snapshots.{spelled}
use Rattle.cluster_backup.proofs.encode.put_parts.Given as goal

abbrev pub invariant-loop-part : goal.invariant-loop-part
invariant-loop-part l = l.out.items ++ spelled (drop l.part-index l.parts) ≡ l.initial.out.items ++ spelled l.parts
