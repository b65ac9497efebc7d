use Rattle.std.proofs.Common.{◌≡◌, ◌≤◌, length}
use Rattle.run_backup.proofs.listing.read_same.Given as goal

abbrev pub invariant-loop-at : goal.invariant-loop-at
invariant-loop-at g l = record {
  kept : l.copying ≡ l.initial.copying;
  within : l.count ≤ l.initial.copying;
  there : l.count ≤ length l.printed;
}
