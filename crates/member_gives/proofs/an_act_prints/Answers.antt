use Rattle.member_gives.proofs.an_act_prints.Goals as goal
use Rattle.member_gives.proofs.Printed.{prints-world, prints-grow, prints-nothing, phase-prints, phases-quiet}

pub returns-clause-world : goal.returns-clause-world
returns-clause-world c n kinds w a m five three lawful of = prints-world n kinds w a m five three lawful of

pub returns-clause-grows : goal.returns-clause-grows
returns-clause-grows c n kinds w a five three lawful = prints-grow n kinds w a five three lawful

pub returns-clause-nothing : goal.returns-clause-nothing
returns-clause-nothing c n kinds w a five three lawful quiet = prints-nothing n kinds w a five three lawful quiet

pub returns-clause-phase : goal.returns-clause-phase
returns-clause-phase c n kinds m w v five three lawful p = phase-prints n kinds m w v five three lawful p

pub returns-clause-phases : goal.returns-clause-phases
returns-clause-phases c n kinds w v five three lawful p = phases-quiet n kinds w v five three lawful p
