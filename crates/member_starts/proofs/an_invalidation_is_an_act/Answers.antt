use Rattle.member_starts.proofs.Invalidating.{struck-turn}
use Rattle.member_starts.proofs.Struck.{cut-struck, done-struck, unmounted-struck}
use Rattle.member_starts.proofs.an_invalidation_is_an_act.Goals as goal

pub returns-clause-done : goal.returns-clause-done
returns-clause-done g c kinds s choice ended disk h k found honest is m inv =
    done-struck g.D.Disk.state g.D.Disk.tells g.D.Disk.is_honest g.D.Disk.moment g.D.Disk.left_since kinds g.met.D.Disk.honest_tells (λ x h f. record { reads = g.met.D.Disk.reads_is_image x f h; synced = g.met.D.Disk.synced_is_image x f h }) g.met.D.Disk.counts_now
    s choice ended disk honest is h m k found inv

pub returns-clause-cut : goal.returns-clause-cut
returns-clause-cut g c kinds s choice ended disk h k fault d honest is m inv crash =
    cut-struck g.D.Disk.state g.D.Disk.tells g.D.Disk.is_honest g.D.Disk.moment g.D.Disk.left_since kinds g.met.D.Disk.honest_tells (λ x h f. record { reads = g.met.D.Disk.reads_is_image x f h; synced = g.met.D.Disk.synced_is_image x f h }) g.met.D.Disk.counts_now
    s choice ended disk honest is h m k fault d inv crash

pub returns-clause-unmounted : goal.returns-clause-unmounted
returns-clause-unmounted g c kinds s choice ended disk back d honest is nm crash =
    unmounted-struck g.D.Disk.state g.D.Disk.tells g.D.Disk.is_honest g.D.Disk.moment g.D.Disk.left_since kinds g.met.D.Disk.honest_tells (λ x h f. record { reads = g.met.D.Disk.reads_is_image x f h; synced = g.met.D.Disk.synced_is_image x f h }) g.met.D.Disk.counts_now
    s choice ended disk honest is back d nm crash

pub returns-clause-act : goal.returns-clause-act
returns-clause-act g c kinds x w m choice left ended disk d stands low is z = struck-turn g.D.Disk.state kinds x w m choice left ended disk d stands low is z
