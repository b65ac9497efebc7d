use Rattle.std.proofs.Common.{◌≡◌, ap, rules}
use Rattle.std.specs.Prelude.{Err}
use Rattle.member_module.specs.Held.{latest_of}
use Rattle.consensus_agent.proofs.Orders.{fault_through, nothing_since, took_client, tried_client}
use Rattle.consensus_agent.proofs.Refusals.{client_leaves}
use Rattle.consensus_agent.proofs.Running.{values_in}
use Rattle.consensus_agent.proofs.agent.Agent.client.Goals as goal

pub returns-clause-took : goal.returns-clause-took
returns-clause-took g c =
    took_client g.D.Disk.state g.D.Disk.tells g.D.Disk.is_honest c.args.self.now.core.values c.look.new.self.core.values c.args.bytes.now c.args.now c.in_ok-decided.decided c.in_ok-outcome.outcome c.args.self.now.disk c.look.new.self.disk c.carry_out.new.self.disk c.args.self.now.«module» c.look.new.self.«module» c.carry_out.new.self.«module» (latest_of c.look.new.self.«module».latest c.look.new.self.«module».state)
    (ap values_in c.look.ensures.core)
    c.look.ensures.disk
    c.look.ensures.calm
    c.in_ok-look.ensures.up
    c.in_ok-decided.ensures
    c.in_ok-outcome.ensures.done
    c.in_ok-outcome.ensures.adds

pub returns-clause-leaves : goal.returns-clause-leaves
returns-clause-leaves g c =
    client_leaves g.D.Disk.state g.D.Disk.tells g.D.Disk.is_honest c.args.self.now.core.values c.args.bytes.now c.args.now c.in_ok-outcome.outcome c.args.self.now.disk c.carry_out.new.self.disk c.args.self.now.«module» c.carry_out.new.self.«module» (returns-clause-took g c)

pub returns-clause-untouched : goal.returns-clause-untouched
returns-clause-untouched g c = nothing_since c.in_ok-outcome.outcome c.args.self.now.disk c.look.new.self.disk c.carry_out.new.self.disk c.look.ensures.disk c.in_ok-outcome.ensures.untouched

pub returns-clause-core : goal.returns-clause-core
returns-clause-core g c = nothing_since c.in_ok-outcome.outcome c.args.self.now.core c.look.new.self.core c.carry_out.new.self.core c.look.ensures.core c.in_ok-outcome.ensures.core

pub returns-in_err-outcome-clause-tried : goal.returns-in_err-outcome-clause-tried
returns-in_err-outcome-clause-tried g c =
    let is : c.from_residual-in_err-outcome.result ≡ Err c.in_err-outcome.field-0.0 = search rules in
    fault_through _ _ _ _ c.carry_out.result c.from_residual-in_err-outcome.result c.in_err-outcome.field-0.0 c.in_err-outcome.was is
    (λ tried. tried_client g.D.Disk.state g.D.Disk.tells g.D.Disk.is_honest c.args.self.now.core.values c.look.new.self.core.values c.args.bytes.now c.args.now c.in_ok-decided.decided c.args.self.now.disk c.look.new.self.disk c.carry_out.new.self.disk c.args.self.now.«module» (latest_of c.look.new.self.«module».latest c.look.new.self.«module».state)
    (ap values_in c.look.ensures.core)
    c.look.ensures.disk
    c.in_ok-look.ensures.up
    c.in_ok-decided.ensures
    tried)
    c.carry_out.ensures.tried
