use Rattle.std.proofs.Common.{◌≡◌, ap, subst, ◌∙◌}
use Rattle.ingress.specs.Decisions.{Admits, decided_action}
use Rattle.module_state.specs.Module.{Module}
use Rattle.member_module.specs.Held.{latest_of}
use Rattle.consensus_agent.proofs.Orders.{decision_has_room}
use Rattle.consensus_agent.proofs.agent.Agent.decided_action.Goals as goal

pub returns : goal.returns
returns g c =
    let t : Module = latest_of c.args.self.now.«module».latest c.args.self.now.«module».state in
    let count : c.actions-actions.result ≡ t.counts.actions = c.actions-actions.ensures ∙ ap (λ (m : Module). m.counts.actions) c.latest.ensures in
    record {
      view = c.view.result;
      is = c.view.ensures.is;
      by = record {
        is = c.decide_action.ensures.decided ∙ ap (λ n. decided_action c.view.result n c.args.now) count;
        admits = subst (λ n. Admits c.view.result n c.args.now c.decide_action.result) count c.decide_action.ensures.admits;
      };
      room = decision_has_room c.args.self.now.core.values c.args.self.now.disk.kept t c.view.result c.actions-actions.result c.args.now c.decide_action.result c.view.ensures.is c.decide_action.ensures.admits;
    }
