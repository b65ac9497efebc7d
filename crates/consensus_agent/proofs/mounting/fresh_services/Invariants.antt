use Rattle.std.proofs.Common.{◌≡◌, length, take}
use Rattle.consensus_agent.specs.Starts.{first_containers}
use Rattle.consensus_agent.proofs.mounting.fresh_services.Given as goal

abbrev pub invariant-loop-kind : goal.invariant-loop-kind
invariant-loop-kind l = record {
  are : l.containers.items ≡ first_containers 0 (take l.kind-index l.kinds);
  many : length l.containers.items ≡ l.kind-index;
}
