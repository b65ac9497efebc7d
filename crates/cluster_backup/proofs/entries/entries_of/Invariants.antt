use Rattle.std.proofs.Common.{◌≡◌, ◌++◌, drop}
use Rattle.cluster_backup.specs.Taking.{entries_of}
use Rattle.cluster_backup.proofs.entries.entries_of.Given as goal

abbrev pub invariant-loop-event : goal.invariant-loop-event
invariant-loop-event l = l.entries ++ entries_of (drop l.event-index l.events) ≡ entries_of l.events
