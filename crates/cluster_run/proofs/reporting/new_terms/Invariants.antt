use Rattle.std.proofs.Common.{◌≤◌}
use Rattle.cluster_run.proofs.reporting.new_terms.Given as goal

abbrev pub invariant-loop-entry : goal.invariant-loop-entry
invariant-loop-entry l = l.count ≤ l.entry-index
