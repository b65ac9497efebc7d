use Rattle.std.proofs.Common.{ℕ, ◌≤◌, List, get_or}
use Rattle.run_start.proofs.disks.format_all.Given as goal

-- no count fell
pub record Later {D : Type 0} (faults : D → ℕ) (old new : List D) : Type 0 where
  pub later : (k : ℕ) (d : D) → faults (get_or old k d) ≤ faults (get_or new k d)

abbrev pub invariant-loop-member : goal.invariant-loop-member
invariant-loop-member g l = Later g.D.Disk.fault_count l.initial.disks l.disks
