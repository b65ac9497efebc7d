use Rattle.run_orders.proofs.Bases.{has-front, has-more}
use Rattle.run_orders.proofs.Begun.{snapshots-begin}
use Rattle.run_orders.proofs.bases_stay.Goals as goal

pub returns-clause-added : goal.returns-clause-added
returns-clause-added c log more e is = has-more log more e is

pub returns-clause-cut : goal.returns-clause-cut
returns-clause-cut c log n e is begins = has-front log n e is begins

pub returns-clause-lawful : goal.returns-clause-lawful
returns-clause-lawful c n kinds w m five three lawful = snapshots-begin n kinds w m five three lawful
