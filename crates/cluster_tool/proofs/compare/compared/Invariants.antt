use Rattle.std.proofs.Common.{◌≡◌, ℕ, Bool, IsTrue, drop}
use Rattle.cl_base.specs.Disk.{DiskState}
use Rattle.member_disk.specs.Kept.{Held}
use Rattle.cluster_tool.specs.Disks.{IsStill}
use Rattle.cluster_tool.specs.Compared.{compared_from}
use Rattle.cluster_tool.proofs.compare.compared.Given as goal

-- the entries up to here are the same
pub record Comparing {D : Type 0} (tells honest : D → Bool) (state : D → DiskState) (faults : D → ℕ) (first first' second second' : Held D) (index : ℕ) : Type 0 where
  pub one : IsStill tells honest state faults first first'
  pub two : IsStill tells honest state faults second second'
  pub same : IsTrue (tells first.disk) → IsTrue (tells second.disk)
      → compared_from 0 first.kept.log second.kept.log ≡ compared_from index (drop index first.kept.log) (drop index second.kept.log)

abbrev pub invariant-loop-index : goal.invariant-loop-index
invariant-loop-index g l = Comparing g.D.Disk.tells g.D.Disk.is_honest g.D.Disk.state g.D.Disk.fault_count l.initial.first l.first l.initial.second l.second l.index
