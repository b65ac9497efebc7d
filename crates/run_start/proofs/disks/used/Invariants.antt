use Rattle.std.proofs.Common.{ℕ, Bool, List, get_or}
use Rattle.cl_base.specs.Disk.{DiskState}
use Rattle.run_start.specs.Disks.{IsLookedAt, AreUnused}
use Rattle.run_start.proofs.disks.used.Given as goal

-- the disks up to here were looked at, and are empty
pub record Looked {D : Type 0} (tells honest : D → Bool) (state : D → DiskState) (faults : D → ℕ) (old new : List D) (member : ℕ) : Type 0 where
  pub looked : (k : ℕ) (d : D) → IsLookedAt tells honest state faults (get_or old k d) (get_or new k d)
  pub unused : AreUnused tells state old member

abbrev pub invariant-loop-member : goal.invariant-loop-member
invariant-loop-member g l = Looked g.D.Disk.tells g.D.Disk.is_honest g.D.Disk.state g.D.Disk.fault_count l.initial.disks l.disks l.member
