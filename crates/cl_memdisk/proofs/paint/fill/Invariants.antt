use Rattle.std.proofs.Common.{◌≡◌, ◌⊎◌, ℕ, ◌<◌, ◌≤◌, max, get_or}
use Rattle.cl_memdisk.proofs.paint.fill.Given as goal

abbrev pub invariant-loop-i : goal.invariant-loop-i
invariant-loop-i l = record {
  at_most : l.i ≤ max l.from l.i-end;
  inside : (k : ℕ) → l.from ≤ k → k < l.i → get_or l.bytes k 0 ≡ l.x;
  outside : (k : ℕ) → k < l.from ⊎ l.i ≤ k → get_or l.bytes k 0 ≡ get_or l.initial.bytes k 0;
}
