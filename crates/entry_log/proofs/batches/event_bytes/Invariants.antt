use Rattle.std.proofs.Common.{◌≡◌, ◌≤◌, ◌+◌, ◌*◌, drop}
use Rattle.std.specs.Prelude.{sum}
use Rattle.entry_log.specs.Shape.{shape_of, lens_of}
use Rattle.entry_log.proofs.batches.event_bytes.Given as goal

abbrev pub invariant-loop-entry : goal.invariant-loop-entry
invariant-loop-entry l = record {
  bound : l.total ≤ 32768 * l.entry-index;
  rest : l.total + sum (lens_of (shape_of (drop l.entry-index l.entries))) ≡ sum (lens_of (shape_of l.entries));
}
