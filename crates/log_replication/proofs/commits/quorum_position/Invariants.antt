use Rattle.std.proofs.Common.{◌≡◌, max, take}
use Rattle.std.specs.Prelude.{fold, filter}
use Rattle.log_replication.specs.Commits.{is_reached}
use Rattle.log_replication.proofs.commits.quorum_position.Given as goal

abbrev pub invariant-loop-report : goal.invariant-loop-report
invariant-loop-report l = l.position ≡ fold max 0 (filter (is_reached l.reports) (take l.report-index l.reports))
