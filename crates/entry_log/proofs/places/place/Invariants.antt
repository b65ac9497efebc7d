use Rattle.std.proofs.Common.{◌≡◌, ◌*◌, ◌≤◌, drop}
use Rattle.entry_log.specs.Log.{place, place_from}
use Rattle.entry_log.proofs.places.place.Given as goal

abbrev pub invariant-loop-entry : goal.invariant-loop-entry
invariant-loop-entry l = record {
  bound : l.place ≤ 131072 * l.entry-index;
  rest : place_from l.place (drop l.entry-index l.entries) ≡ place l.entries;
}
