use Rattle.std.proofs.Common.{◌≡◌, ℕ, ◌+◌, ◌-◌, length}
use Rattle.cl_memdisk.specs.Files.{data_at}
use Rattle.cl_memdisk.proofs.recorded.room.Given as goal

abbrev pub invariant-grow : goal.invariant-grow
invariant-grow l = (f : ℕ) → data_at l.files.items f ≡ data_at l.initial.files.items f

abbrev pub decreases-grow : goal.decreases-grow
decreases-grow l = l.file + 1 - length l.files.items
