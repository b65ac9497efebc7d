use Rattle.run_world.specs.RunWorld.{seat}
use Rattle.member_asks.proofs.an_action_asks.Goals as goal
use Rattle.member_asks.proofs.Answered.{action-failed, action-taken}
use Rattle.member_asks.proofs.Ordered.{falls-one, makes-one}

pub returns-clause-taken : goal.returns-clause-taken
returns-clause-taken g c n kinds w m u v going choice ended o five three lawful free here honest by =
    makes-one g.D.Disk.state n kinds w m u going five three lawful free here.home by.took.decision _ by.sound (action-taken _ _ _ kinds u v going choice ended (seat w m) w.now o here honest by)

pub returns-clause-failed : goal.returns-clause-failed
returns-clause-failed g c n kinds w m u v going choice ended d five three lawful free here honest by crash =
    falls-one g.D.Disk.state n kinds w m u going five three lawful free here.home by.tried.event _ by.sound
    (action-failed g.D.Disk.state g.D.Disk.tells g.D.Disk.is_honest kinds u v going choice ended (seat w m) w.now d
    (λ x h f. record { reads = g.met.D.Disk.reads_is_image x f h; synced = g.met.D.Disk.synced_is_image x f h }) here honest crash by)
