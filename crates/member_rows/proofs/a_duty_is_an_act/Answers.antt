use Rattle.member_rows.proofs.Turning.{is-free, whole-turn, cut-turn, duty-is}
use Rattle.run_world.specs.RunWorld.{Duty}
use Rattle.member_rows.proofs.a_duty_is_an_act.Goals as goal

pub returns-clause-free : goal.returns-clause-free
returns-clause-free g c kinds w m u going l up free = is-free _ kinds w m u going l up free

pub returns-clause-whole : goal.returns-clause-whole
returns-clause-whole g c kinds x w m v going choice ended out stands free a = whole-turn _ kinds x w w (Duty m) m _ stands (duty-is kinds w m free) v going choice ended out a

pub returns-clause-cut : goal.returns-clause-cut
returns-clause-cut g c kinds x w m v going ended d stands free a = cut-turn _ kinds x w w (Duty m) m _ stands (duty-is kinds w m free) v going ended d a
