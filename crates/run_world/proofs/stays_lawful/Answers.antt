use Rattle.run_world.proofs.stays_lawful.Goals as goal
use Rattle.run_world.proofs.Acts.{first-lawful, act-lifts, headline}
use Rattle.run_world.proofs.Rounded.{rounds-lift}

pub returns-clause-first : goal.returns-clause-first
returns-clause-first c n kinds = first-lawful n kinds

pub returns-clause-acts : goal.returns-clause-acts
returns-clause-acts c n kinds w a five three lawful = act-lifts n kinds w a five three lawful

pub returns-clause-rounds : goal.returns-clause-rounds
returns-clause-rounds c n kinds quiet count w v five three lawful rounds = rounds-lift n kinds five three quiet count w v lawful rounds

pub returns-clause-headline : goal.returns-clause-headline
returns-clause-headline c n kinds w five three lawful = headline n kinds w five three lawful
