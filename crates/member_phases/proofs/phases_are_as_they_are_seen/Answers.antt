use Rattle.member_phases.proofs.Courses.{all-off, all-on}
use Rattle.member_phases.proofs.phases_are_as_they_are_seen.Goals as goal

pub returns-clause-on : goal.returns-clause-on
returns-clause-on g c kinds x w stands on = all-on _ kinds x w stands on

pub returns-clause-off : goal.returns-clause-off
returns-clause-off g c kinds x w stands off = all-off _ kinds x w stands off
