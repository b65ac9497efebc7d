use Rattle.member_rows.proofs.Laws.{duty-cut}
use Rattle.member_rows.proofs.a_duty_is_cut.Goals as goal

pub returns : goal.returns
returns g c n kinds w m now u v going choice ended d five three lawful early honest is cut crash =
    duty-cut _ _ _ kinds u v going choice ended d (λ right f. record { reads = g.met.D.Disk.reads_is_image v.disk.disk f right; synced = g.met.D.Disk.synced_is_image v.disk.disk f right }) crash honest n w m now five three lawful early is cut
