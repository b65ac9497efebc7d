use Rattle.std.proofs.Common.{◌≡◌, ◌+◌, length}
use Rattle.run_listing.proofs.beside.read_beside.Given as goal

abbrev pub invariant-loop-index : goal.invariant-loop-index
invariant-loop-index g l = record {
  kept : l.mounted ≡ l.initial.mounted;
  entries : l.entries ≡ l.initial.mounted;
  count : l.same + length l.own ≡ l.index;
}
