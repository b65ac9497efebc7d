use Rattle.std.proofs.Common.{length, sym, subst}
use Rattle.module_state.specs.Module.{Module}
use Rattle.consensus_agent.specs.Restored.{IsRestored}
use Rattle.consensus_agent.proofs.mounting.begin.Goals as goal

pub returns-clause-on : goal.returns-clause-on
returns-clause-on g c told =
    let on = c.in_ok-start.ensures.on told in
    record {
      services = on.services;
      state = subst (λ (m : Module). IsRestored c.args.disk.now.kept (g.D.Disk.state c.args.disk.now.disk).files (length c.args.kinds.now) m) (sym c.read_ahead.ensures.state) on.state;
    }
