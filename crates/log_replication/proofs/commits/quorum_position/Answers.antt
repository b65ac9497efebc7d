use Rattle.std.proofs.Common.{◌≡◌, sym, subst, arith}
use Rattle.std.proofs.lemmas.Grind.{common_steps}
use Rattle.log_replication.specs.Commits.{IsQuorumPosition, quorum_position}
use Rattle.log_replication.proofs.Reports.{is_quorum_position}
use Rattle.log_replication.proofs.commits.quorum_position.Goals as goal

pub returns-clause-position : goal.returns-clause-position
returns-clause-position c =
    let value : c.loop-report.position ≡ quorum_position c.args.reports.now = grind (arith, common_steps) in
    subst (λ q. IsQuorumPosition c.args.reports.now q) (sym value) (is_quorum_position c.args.reports.now c.requires.some)
