use Rattle.std.proofs.Common.{length}
use Rattle.consensus_agent.proofs.snapshots.+put_services.Given as goal

abbrev pub decreases-put_services : goal.decreases-put_services
decreases-put_services g l = length l.containers.now
