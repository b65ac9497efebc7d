use Rattle.network.proofs.SendLaws.{keeps_latest, sends_again}
use Rattle.network.proofs.laws.a_link_keeps_the_latest_of_its_packets.Goals as goal

pub returns-clause-kept : goal.returns-clause-kept
returns-clause-kept c = keeps_latest

pub returns-clause-again : goal.returns-clause-again
returns-clause-again c = sends_again
