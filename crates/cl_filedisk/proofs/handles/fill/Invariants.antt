use Rattle.std.proofs.Common.{◌≤◌, length}
use Rattle.cl_filedisk.proofs.handles.fill.Given as goal

abbrev pub invariant-loop : goal.invariant-loop
invariant-loop g l = l.n ≤ length l.buf
