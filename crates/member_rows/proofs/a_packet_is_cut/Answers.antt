use Rattle.member_rows.proofs.Laws.{packet-cut}
use Rattle.member_rows.proofs.a_packet_is_cut.Goals as goal

pub returns : goal.returns
returns g c n kinds w q p u v going choice ended d five three lawful first fits read free honest is cut crash =
    packet-cut _ _ _ kinds u v going choice ended n w q p five three lawful first fits read free honest is d (λ right f. record { reads = g.met.D.Disk.reads_is_image v.disk.disk f right; synced = g.met.D.Disk.synced_is_image v.disk.disk f right }) crash cut
