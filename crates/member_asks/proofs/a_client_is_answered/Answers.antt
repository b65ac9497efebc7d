use Rattle.member_asks.proofs.a_client_is_answered.Goals as goal
use Rattle.member_asks.proofs.Answered.{client-failed, client-taken}

pub returns-clause-taken : goal.returns-clause-taken
returns-clause-taken g c kinds u v going choice ended s bytes now o answer seat honest by = client-taken _ _ _ kinds u v going choice ended s now bytes o answer seat honest by

pub returns-clause-failed : goal.returns-clause-failed
returns-clause-failed g c kinds u v going choice ended s bytes now d seat honest by crash =
    client-failed g.D.Disk.state g.D.Disk.tells g.D.Disk.is_honest kinds u v going choice ended s now d
    (λ x h f. record { reads = g.met.D.Disk.reads_is_image x f h; synced = g.met.D.Disk.synced_is_image x f h }) seat honest crash bytes by
