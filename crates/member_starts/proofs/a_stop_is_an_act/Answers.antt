use Rattle.std.proofs.Common.{refl}
use Rattle.member_starts.proofs.Rests.{stop-rests, stop-stands, fail-stands}
use Rattle.member_starts.proofs.a_stop_is_an_act.Goals as goal

pub returns-clause-rests : goal.returns-clause-rests
returns-clause-rests g c kinds u going choice left ended s d honest is crash =
    stop-rests _ kinds u going choice ended s u.disk.disk d is (λ f. record { reads = g.met.D.Disk.reads_is_image u.disk.disk f honest; synced = g.met.D.Disk.synced_is_image u.disk.disk f honest }) refl (λ f. refl) left crash

pub returns-clause-stops : goal.returns-clause-stops
returns-clause-stops g c kinds x w m u going choice left ended d stands low honest is crash =
    stop-stands _ kinds u going choice ended x w m stands low is d (λ f. record { reads = g.met.D.Disk.reads_is_image u.disk.disk f honest; synced = g.met.D.Disk.synced_is_image u.disk.disk f honest }) left crash

pub returns-clause-fails : goal.returns-clause-fails
returns-clause-fails g c kinds x w m u going choice left ended e d stands low honest is same crash =
    fail-stands _ kinds u going choice ended x w m stands low is e d (λ f. record { reads = g.met.D.Disk.reads_is_image u.disk.disk f honest; synced = g.met.D.Disk.synced_is_image u.disk.disk f honest }) same left crash
