use Rattle.std.proofs.Common.{◌≡◌, ◌≤◌, ℕ, false, IsTrue}
use Rattle.cl_base.specs.Disk.{LeavesOnly, IsImageOf}
use Rattle.cl_base.specs.Looks.{Same}
use Rattle.member_disk.proofs.mount.check_snapshots.Given as goal

abbrev pub invariant-loop-recording : goal.invariant-loop-recording
invariant-loop-recording g l = record {
  cause : g.D.Disk.fault_count l.fn.disk ≤ g.D.Disk.fault_count l.disk;
  tells : g.D.Disk.tells l.disk ≡ g.D.Disk.tells l.fn.disk;
  honest : g.D.Disk.is_honest l.disk ≡ g.D.Disk.is_honest l.fn.disk;
  same : IsTrue (g.D.Disk.tells l.fn.disk) → (g.D.Disk.state l.fn.disk).burnt ≡ false → Same (g.D.Disk.state l.fn.disk) (g.D.Disk.state l.disk);
  files : IsTrue (g.D.Disk.tells l.fn.disk) → (f : ℕ) → (g.D.Disk.state l.disk).files f ≡ (g.D.Disk.state l.fn.disk).files f;
  run : IsTrue (g.D.Disk.is_honest l.fn.disk) → LeavesOnly g.D.Disk.moment g.D.Disk.left_since l.fn.disk l.disk (IsImageOf (g.D.Disk.state l.fn.disk).files);
}
