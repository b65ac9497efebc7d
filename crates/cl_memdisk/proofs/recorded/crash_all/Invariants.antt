use Rattle.std.proofs.Common.{◌≡◌, ℕ, ◌<◌, ◌≤◌}
use Rattle.cl_base.specs.Disk.{settled_file, left_by}
use Rattle.cl_memdisk.specs.Files.{file_at}
use Rattle.cl_memdisk.proofs.recorded.crash_all.Given as goal

abbrev pub invariant-loop-f : goal.invariant-loop-f
invariant-loop-f l = record {
  done : (k : ℕ) → k < l.f-index → file_at l.files k ≡ settled_file (left_by l.choice (file_at l.initial.files k));
  rest : (k : ℕ) → l.f-index ≤ k → file_at l.files k ≡ file_at l.initial.files k;
}
