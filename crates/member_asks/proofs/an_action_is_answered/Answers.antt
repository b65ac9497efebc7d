use Rattle.member_asks.proofs.an_action_is_answered.Goals as goal
use Rattle.member_asks.proofs.Answered.{action-failed, action-taken}

pub returns-clause-taken : goal.returns-clause-taken
returns-clause-taken g c kinds u v going choice ended s now o seat honest by = action-taken _ _ _ kinds u v going choice ended s now o seat honest by

pub returns-clause-failed : goal.returns-clause-failed
returns-clause-failed g c kinds u v going choice ended s now d seat honest by crash =
    action-failed g.D.Disk.state g.D.Disk.tells g.D.Disk.is_honest kinds u v going choice ended s now d
    (λ x h f. record { reads = g.met.D.Disk.reads_is_image x f h; synced = g.met.D.Disk.synced_is_image x f h }) seat honest crash by
