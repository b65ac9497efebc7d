use Rattle.member_module.specs.Held.{latest_of}
use Rattle.consensus_agent.proofs.Orders.{decision_has_room}
use Rattle.consensus_agent.proofs.agent.Agent.decided.Goals as goal

pub returns : goal.returns
returns g c = record {
  view = c.view.result;
  is = c.view.ensures.is;
  by = record { bad = c.in_ok-decided.ensures.bad; read = c.in_ok-decided.ensures.decided; admits = c.in_ok-decided.ensures.admits };
  room = decision_has_room c.args.self.now.core.values c.args.self.now.disk.kept (latest_of c.args.self.now.«module».latest c.args.self.now.«module».state) c.view.result 0 c.args.now c.in_ok-decided.decided c.view.ensures.is (c.in_ok-decided.ensures.admits 0);
}
