use Rattle.std.proofs.Common.{◌≡◌, ℕ, ◌≤◌, Bool, IsTrue, length, take}
use Rattle.cl_base.specs.Disk.{DiskState}
use Rattle.log_segment.specs.Held.{new_terms}
use Rattle.member_disk.specs.Kept.{Held}
use Rattle.cluster_tool.specs.Disks.{IsStill}
use Rattle.cluster_tool.proofs.describe.count_terms.Given as goal

-- the entries up to here were read, and so many terms begin in them
pub record Counting {D : Type 0} (tells honest : D → Bool) (state : D → DiskState) (faults : D → ℕ) (old new : Held D) (terms index : ℕ) : Type 0 where
  pub still : IsStill tells honest state faults old new
  pub few : terms ≤ index
  pub count : IsTrue (tells old.disk) → terms ≡ length (new_terms 0 (take index old.kept.log))

abbrev pub invariant-loop-index : goal.invariant-loop-index
invariant-loop-index g l = Counting g.D.Disk.tells g.D.Disk.is_honest g.D.Disk.state g.D.Disk.fault_count l.initial.member l.member l.terms l.index
