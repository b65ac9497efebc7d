use Rattle.std.proofs.Common.{◌≡◌, ◌≤◌, take, length}
use Rattle.echo_run.specs.Text.{records_on}
use Rattle.echo_run.proofs.streams.count_on.Given as goal

abbrev pub invariant-loop-s : goal.invariant-loop-s
invariant-loop-s l = record {
  counted : l.count ≡ length (records_on l.stream (take l.s-index l.sent));
  few : l.count ≤ l.s-index;
}
