use Rattle.member_phases.proofs.Phasing.{both-act, none-act}
use Rattle.member_phases.proofs.acts_of_phases_add_up.Goals as goal

pub returns-clause-none : goal.returns-clause-none
returns-clause-none c kinds w = none-act kinds w

pub returns-clause-both : goal.returns-clause-both
returns-clause-both c kinds u v w a b = both-act kinds u v w a b
