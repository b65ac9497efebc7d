use Rattle.std.proofs.Common.{length}
use Rattle.consensus_agent.proofs.ending.+ask_services.Given as goal

abbrev pub decreases-ask_services : goal.decreases-ask_services
decreases-ask_services l = length l.containers.now
