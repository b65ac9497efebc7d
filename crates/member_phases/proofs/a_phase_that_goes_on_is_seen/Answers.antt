use Rattle.member_phases.proofs.Seen.{cut-stands, ends-stands, going-stands}
use Rattle.member_phases.proofs.a_phase_that_goes_on_is_seen.Goals as goal

pub returns-clause-goes_on : goal.returns-clause-goes_on
returns-clause-goes_on g c kinds x w m u v going feeds choice ended stands is same p = going-stands _ kinds x w m u v going feeds choice ended stands is same p

pub returns-clause-ends : goal.returns-clause-ends
returns-clause-ends g c kinds x w m u v sent choice ended stands is p = ends-stands _ kinds x w m u v sent choice ended stands is p

pub returns-clause-seat : goal.returns-clause-seat
returns-clause-seat g c kinds x w m y s stands is = cut-stands _ kinds x w m y s stands is

pub returns-clause-stops : goal.returns-clause-stops
returns-clause-stops g c kinds x w m y stands p = cut-stands _ kinds x w m y p.after stands p.seat
