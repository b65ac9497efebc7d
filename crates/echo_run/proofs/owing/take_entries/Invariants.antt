use Rattle.std.proofs.Common.{pos, ◌+ℤ◌, ◌≤ℤ◌}
use Rattle.echo_run.proofs.Sending.{Taken}
use Rattle.echo_run.proofs.owing.take_entries.Given as goal

abbrev pub invariant-loop-i : goal.invariant-loop-i
invariant-loop-i l = record {
  taken : Taken l.election l.initial.tables l.tables l.first l.entries l.i l.initial.sent l.sent;
  numbered : l.tables.next_id ≤ℤ (l.initial.tables.next_id +ℤ pos l.i);
}
