use Rattle.std.proofs.Common.{◌≡◌, ◌+◌, ◌*◌, ◌≤◌, drop}
use Rattle.entry_log.specs.Log.{place_from}
use Rattle.log_segment.proofs.segments.end_with.Given as goal

abbrev pub invariant-loop-entry : goal.invariant-loop-entry
invariant-loop-entry l = record {
  bound : l.end ≤ l.place + 131072 * l.entry-index;
  rest : place_from l.end (drop l.entry-index l.entries) ≡ place_from l.place l.entries;
}
