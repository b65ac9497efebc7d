use Rattle.std.proofs.Common.{◌≡◌, ◌≤◌, ◌+◌, ◌*◌, drop}
use Rattle.entry_log.specs.Shape.{shape_of}
use Rattle.entry_log.specs.Batches.{all_in}
use Rattle.entry_log.proofs.batches.are_all_in.Given as goal

abbrev pub invariant-loop-entry : goal.invariant-loop-entry
invariant-loop-entry l = record {
  bound : l.end ≤ l.start + 131072 * l.entry-index;
  rest : all_in l.number l.end (shape_of (drop l.entry-index l.entries)) ≡ all_in l.number l.start (shape_of l.entries);
}
