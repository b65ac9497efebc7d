use Rattle.member_phases.proofs.Taken.{due-after, free-after, row-after}
use Rattle.member_phases.proofs.a_row_follows_takes.Goals as goal

pub returns-clause-row : goal.returns-clause-row
returns-clause-row c w m inputs row f up = row-after w m inputs up row f

pub returns-clause-free : goal.returns-clause-free
returns-clause-free c w m inputs up = free-after w m inputs up

pub returns-clause-due : goal.returns-clause-due
returns-clause-due c kinds w m now inputs up = due-after w m inputs up kinds now
