use Rattle.std.proofs.Common.{◌≡◌, ◌≤◌, IsTrue, length}
use Rattle.cl_base.specs.Disk.{LeavesOnly, IsImageOf}
use Rattle.cl_base.specs.Looks.{Same}
use Rattle.recording_log.specs.Entries.{Begins}
use Rattle.recording_log.specs.Valid.{terms_of}
use Rattle.recording_log.specs.Parts.{Tells}
use Rattle.recording_log.proofs.log.RecordingLog.mount.Given as goal

abbrev pub invariant-entries : goal.invariant-entries
invariant-entries g l = record {
  cause : g.D.Disk.fault_count l.fn.disk ≤ g.D.Disk.fault_count l.disk;
  tells : g.D.Disk.tells l.disk ≡ g.D.Disk.tells l.fn.disk;
  honest : g.D.Disk.is_honest l.disk ≡ g.D.Disk.is_honest l.fn.disk;
  same : IsTrue (g.D.Disk.tells l.fn.disk) → Same (g.D.Disk.state l.fn.disk) (g.D.Disk.state l.disk);
  begins : IsTrue (g.D.Disk.tells l.fn.disk) → Begins l.entries.items ((g.D.Disk.state l.fn.disk).files 1).reads;
  count : length l.entries.items ≡ l.i;
  terms : l.terms.items ≡ terms_of l.entries.items;
  parts : Tells l.parts l.entries.items;
  run : IsTrue (g.D.Disk.is_honest l.fn.disk) → LeavesOnly g.D.Disk.moment g.D.Disk.left_since l.fn.disk l.disk (IsImageOf (g.D.Disk.state l.fn.disk).files);
}
