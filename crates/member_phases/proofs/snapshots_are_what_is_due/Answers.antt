use Rattle.member_phases.proofs.Recorded.{snapshots-each}
use Rattle.member_phases.proofs.snapshots_are_what_is_due.Goals as goal

pub returns : goal.returns
returns c kinds log base applied commit cs ds xss formed g = snapshots-each kinds log base applied commit cs ds xss formed g
