use Rattle.std.proofs.Common.{◌≡◌, ◌≤◌, ◌-◌, IsTrue, length, take}
use Rattle.cl_base.specs.Disk.{LeavesOnly, IsImageOf}
use Rattle.cl_base.specs.Looks.{Same}
use Rattle.snapshot_store.specs.Snapshots.{spelled, ArePieces}
use Rattle.snapshot_store.proofs.file.read.Given as goal

abbrev pub invariant-loop-at : goal.invariant-loop-at
invariant-loop-at g l = record {
  cause : g.D.Disk.fault_count l.fn.disk ≤ g.D.Disk.fault_count l.disk;
  tells : g.D.Disk.tells l.disk ≡ g.D.Disk.tells l.fn.disk;
  honest : g.D.Disk.is_honest l.disk ≡ g.D.Disk.is_honest l.fn.disk;
  same : IsTrue (g.D.Disk.tells l.fn.disk) → Same (g.D.Disk.state l.fn.disk) (g.D.Disk.state l.disk);
  within : l.at ≤ l.end;
  strict : ArePieces l.pieces;
  front : IsTrue (g.D.Disk.tells l.fn.disk) → take l.at ((g.D.Disk.state l.fn.disk).files l.file).reads ≡ spelled l.pieces;
  count : length (spelled l.pieces) ≡ l.at;
  run : IsTrue (g.D.Disk.is_honest l.fn.disk) → LeavesOnly g.D.Disk.moment g.D.Disk.left_since l.fn.disk l.disk (IsImageOf (g.D.Disk.state l.fn.disk).files);
}

abbrev pub decreases-loop-at : goal.decreases-loop-at
decreases-loop-at g l = l.end - l.at
