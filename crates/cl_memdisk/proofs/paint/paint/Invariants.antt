use Rattle.std.proofs.Common.{◌≡◌, ℕ, ◌<◌, get_or, drop, length, map}
use Rattle.cl_base.specs.Disk.{spot}
use Rattle.cl_memdisk.specs.Changes.{range_of}
use Rattle.cl_memdisk.proofs.paint.paint.Given as goal

abbrev pub invariant-loop-change : goal.invariant-loop-change
invariant-loop-change l =
    (k : ℕ) → k < length l.initial.bytes
    → spot l.x (map range_of (drop l.change-index l.changes)) l.end k (get_or l.bytes k 0) ≡ spot l.x (map range_of l.changes) l.end k (get_or l.initial.bytes k 0)
