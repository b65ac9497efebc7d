use Rattle.std.proofs.Common.{subst, sym}
use Rattle.consensus_core.specs.Fit.{IsSound}
use Rattle.consensus_core.specs.declared.row.Row.{Row}
use Rattle.consensus_core.proofs.Fitting.{duty_fits}
use Rattle.consensus_core.proofs.part.Core.on_duty.Goals as goal

pub invariant_of-self : goal.invariant_of-self
invariant_of-self c =
    subst (λ (r : Row). IsSound r.values r.plan) (sym c.in_ok-row.ensures) (duty_fits c.self.inside.values c.args.index.now c.args.due.now c.args.now c.self.invariant.fit)
