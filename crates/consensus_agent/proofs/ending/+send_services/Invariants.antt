use Rattle.std.proofs.Common.{length}
use Rattle.consensus_agent.proofs.ending.+send_services.Given as goal

abbrev pub decreases-send_services : goal.decreases-send_services
decreases-send_services l = length l.containers.now
