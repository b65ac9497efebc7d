use Rattle.std.proofs.Common.{ap, arith}
use Rattle.member_module.specs.Held.{Held as ModuleHeld}
use Rattle.consensus_agent.proofs.Starting.{first_at, new_first}
use Rattle.consensus_agent.proofs.mounting.fresh.Goals as goal

pub returns-clause-start : goal.returns-clause-start
returns-clause-start c = record {
  services = first_at 0 c.args.kinds.now c.in_ok-containers.containers.items c.in_ok-containers.ensures;
  consumed = ap (λ (m : ModuleHeld). m.consumed) c.new.ensures.rest;
  bound = omega arith;
  fresh = new_first c.new.result c.in_ok-state.state 0 c.new.ensures.ahead c.new.ensures.rest;
}
