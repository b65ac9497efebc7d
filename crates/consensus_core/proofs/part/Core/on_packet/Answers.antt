use Rattle.std.proofs.Common.{subst, sym}
use Rattle.consensus_core.specs.Fit.{IsSound}
use Rattle.consensus_core.specs.declared.row.Row.{Row}
use Rattle.consensus_core.proofs.Fitting.{receives_fit}
use Rattle.consensus_core.proofs.part.Core.on_packet.Goals as goal

pub invariant_of-self : goal.invariant_of-self
invariant_of-self c =
    subst (λ (r : Row). IsSound r.values r.plan) (sym c.in_ok-row.ensures) (receives_fit c.self.inside.values c.args.index.now c.args.p.now c.args.now c.requires.spelled c.self.invariant.fit)
