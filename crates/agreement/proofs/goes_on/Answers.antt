use Rattle.std.specs.Prelude.{take}
use Rattle.world.specs.World.{run, formatted, step, member}
use Rattle.world.proofs.Runs.{inv}
use Rattle.log_replication.specs.Prefixes.{is_prefix}
use Rattle.agreement.proofs.goes_on.Goals as goal
use Rattle.agreement.proofs.Commits.{take-leads}
use Rattle.agreement.proofs.Moves.{step-moves}
use Rattle.agreement.proofs.Runs2.{fits-always}

pub returns-clause-candidates : goal.returns-clause-candidates
returns-clause-candidates c n steps s m = ((step-moves n (run (formatted n) steps) s (inv n steps) (fits-always n steps)).members m).candidate

pub returns-clause-kept : goal.returns-clause-kept
returns-clause-kept c n steps s m =
    let w = run (formatted n) steps in
    let x = member w m in
    let f = fits-always n steps in
    is_prefix (take x.values.rest.commit x.durable.log) (member (step w s) m).durable.log
    (((step-moves n w s (inv n steps) f).members m).logs (take x.values.rest.commit x.durable.log) (f.members m).commit.1 (take-leads x.values.rest.commit x.durable.log))

pub returns-clause-commits : goal.returns-clause-commits
returns-clause-commits c n steps s m was is = ((step-moves n (run (formatted n) steps) s (inv n steps) (fits-always n steps)).members m).commit was is
