use Rattle.member_phases.proofs.Seen.{more-records, phase-stands}
use Rattle.member_phases.proofs.a_phase_is_seen.Goals as goal

pub returns-clause-records : goal.returns-clause-records
returns-clause-records g c streams records more sent are each = more-records streams records more sent are each

pub returns-clause-stands : goal.returns-clause-stands
returns-clause-stands g c kinds x w m u v sent choice ended stands is p = phase-stands _ kinds x w m u v sent choice ended stands is p
