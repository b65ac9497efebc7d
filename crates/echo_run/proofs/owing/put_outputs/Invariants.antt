use Rattle.std.proofs.Common.{◌≡◌, ◌≤◌, ◌++◌, drop}
use Rattle.echo_run.specs.Owed.{owed_outputs}
use Rattle.echo_run.proofs.owing.put_outputs.Given as goal

abbrev pub invariant-loop-output : goal.invariant-loop-output
invariant-loop-output l = record {
  count : l.number ≤ l.output-index;
  records : l.sent ++ owed_outputs l.tables l.head.entry l.service l.head.term l.head.stamp l.number (drop l.output-index l.outputs) ≡ l.initial.sent ++ owed_outputs l.tables l.head.entry l.service l.head.term l.head.stamp 0 l.outputs;
}
