use Rattle.std.proofs.Common.{◌≡◌, drop}
use Rattle.entry_log.specs.Log.{place_from}
use Rattle.entry_log.proofs.batches.end_within.Given as goal

abbrev pub invariant-loop-entry : goal.invariant-loop-entry
invariant-loop-entry l = place_from l.end (drop l.entry-index l.entries) ≡ place_from l.start l.entries
