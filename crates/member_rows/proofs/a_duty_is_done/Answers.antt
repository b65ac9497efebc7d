use Rattle.member_rows.proofs.Laws.{duty-done}
use Rattle.member_rows.proofs.a_duty_is_done.Goals as goal

pub returns : goal.returns
returns g c n kinds w m now u v going choice ended out five three lawful early honest is done =
    duty-done _ _ _ kinds u v going choice ended n w m now out five three lawful early (g.met.D.Disk.honest_tells u.disk.disk honest) honest is done
