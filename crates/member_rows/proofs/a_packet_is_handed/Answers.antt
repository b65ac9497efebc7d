use Rattle.member_rows.proofs.Laws.{packet-done}
use Rattle.member_rows.proofs.a_packet_is_handed.Goals as goal

pub returns : goal.returns
returns g c n kinds w q p u v going choice ended out five three lawful first fits read free honest is done =
    packet-done _ _ _ kinds u v going choice ended n w q p five three lawful first fits read free honest is out (g.met.D.Disk.honest_tells u.disk.disk honest) done
