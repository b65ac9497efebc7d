use Rattle.consensus_core.proofs.Standing.{packets_fit, duties_fit, starts_fit}
use Rattle.consensus_core.proofs.laws.rows_can_be_made.Goals as goal

pub returns : goal.returns
returns c = record { packets = packets_fit; duties = duties_fit; starts = starts_fit }
