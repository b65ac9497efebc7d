use Rattle.owed_egress.proofs.Rising.{outputs_found, rise_outbox}
use Rattle.owed_egress.proofs.laws.what_comes_out_stands_by_its_entry.Goals as goal

pub returns-clause-rises : goal.returns-clause-rises
returns-clause-rises c s i xs = rise_outbox s i xs

pub returns-clause-found : goal.returns-clause-found
returns-clause-found c s i k xs = outputs_found s i k xs
