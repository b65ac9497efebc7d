use Rattle.std.proofs.Common.{◌≡◌, ◌≤◌, ℕ, Bool, IsTrue}
use Rattle.cl_base.specs.Disk.{DiskState}
use Rattle.run_start.specs.Disks.{AreEmpty}
use Rattle.run_start.proofs.disks.first_used.Given as goal

-- the files up to here are empty, and the disk is as it was
pub record Looked {D : Type 0} (tells honest : D → Bool) (state : D → DiskState) (faults : D → ℕ) (old new : D) (file : ℕ) : Type 0 where
  pub same : tells new ≡ tells old
  pub still : honest new ≡ honest old
  pub later : faults old ≤ faults new
  pub stays : IsTrue (tells old) → state new ≡ state old
  pub empty : IsTrue (tells old) → AreEmpty (state old).files file

abbrev pub invariant-loop-file : goal.invariant-loop-file
invariant-loop-file g l = Looked g.D.Disk.tells g.D.Disk.is_honest g.D.Disk.state g.D.Disk.fault_count l.initial.disk l.disk l.file
