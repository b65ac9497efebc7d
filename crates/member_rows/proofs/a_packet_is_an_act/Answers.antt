use Rattle.member_rows.proofs.Turning.{whole-turn, cut-turn, packet-is, taken-stands, none-stands, lost-stands, without}
use Rattle.member_rows.specs.Turns.{seen_taken}
use Rattle.run_world.specs.RunWorld.{Hands}
use Rattle.member_rows.proofs.a_packet_is_an_act.Goals as goal

pub returns-clause-whole : goal.returns-clause-whole
returns-clause-whole g c kinds x w q p v going choice ended out first read stands free a =
    whole-turn _ kinds (seen_taken x) w (without w) Hands q.1.to _ (taken-stands _ kinds x w stands) (packet-is kinds w q p first read free) v going choice ended out a

pub returns-clause-cut : goal.returns-clause-cut
returns-clause-cut g c kinds x w q p v going ended d first read stands free a =
    cut-turn _ kinds (seen_taken x) w (without w) Hands q.1.to _ (taken-stands _ kinds x w stands) (packet-is kinds w q p first read free) v going ended d a

pub returns-clause-none : goal.returns-clause-none
returns-clause-none g c kinds x w q f first read stands = none-stands _ kinds x w q f first read stands

pub returns-clause-lost : goal.returns-clause-lost
returns-clause-lost g c kinds x w q f first lost stands = lost-stands _ kinds x w q f first lost stands
