use Rattle.member_phases.proofs.Recorded.{records-each}
use Rattle.member_phases.proofs.records_are_what_is_owed.Goals as goal

pub returns : goal.returns
returns c kinds log base applied commit cs ds xss m role formed g = records-each kinds log base applied commit cs ds xss m role formed g
