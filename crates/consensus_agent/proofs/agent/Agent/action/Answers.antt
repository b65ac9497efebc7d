use Rattle.std.proofs.Common.{◌≡◌, ap}
use Rattle.member_module.specs.Held.{latest_of}
use Rattle.consensus_agent.specs.Accepted.{Leaves, OnNothingNew, TookAction}
use Rattle.std.proofs.lemmas.Result.{IfOk-weaker}
use Rattle.consensus_agent.proofs.Orders.{fault_then, nothing_since, ok_and, took_action, tried_action}
use Rattle.consensus_agent.proofs.Refusals.{action_leaves}
use Rattle.consensus_agent.proofs.Running.{values_in}
use Rattle.consensus_agent.proofs.agent.Agent.action.Goals as goal

pub returns-clause-took : goal.returns-clause-took
returns-clause-took g c = ok_and c.carry_out.result _ _ _
    (λ o done adds. took_action g.D.Disk.state g.D.Disk.tells g.D.Disk.is_honest c.args.self.now.core.values c.look.new.self.core.values c.args.now c.decided_action-decided.result o c.args.self.now.disk c.look.new.self.disk c.carry_out.new.self.disk c.args.self.now.«module» c.look.new.self.«module» c.carry_out.new.self.«module» (latest_of c.look.new.self.«module».latest c.look.new.self.«module».state)
    (ap values_in c.look.ensures.core)
    c.look.ensures.disk
    c.look.ensures.calm
    c.in_ok-look.ensures.up
    c.decided_action-decided.ensures
    done
    adds)
    c.carry_out.ensures.done
    c.carry_out.ensures.adds

pub returns-clause-leaves : goal.returns-clause-leaves
returns-clause-leaves g c =
    IfOk-weaker c.carry_out.result (λ o. TookAction g.D.Disk.state g.D.Disk.tells g.D.Disk.is_honest c.args.self.now.core.values c.args.now o c.args.self.now.disk c.carry_out.new.self.disk c.args.self.now.«module» c.carry_out.new.self.«module») (λ o. Leaves o c.args.self.now.core.values.election.term c.args.self.now.disk.kept c.carry_out.new.self.disk.kept)
    (λ o took. action_leaves g.D.Disk.state g.D.Disk.tells g.D.Disk.is_honest c.args.self.now.core.values c.args.now o c.args.self.now.disk c.carry_out.new.self.disk c.args.self.now.«module» c.carry_out.new.self.«module» took) (returns-clause-took g c)

pub returns-clause-tried : goal.returns-clause-tried
returns-clause-tried g c = fault_then c.carry_out.result
    (λ tried. tried_action g.D.Disk.state g.D.Disk.tells g.D.Disk.is_honest c.args.self.now.core.values c.look.new.self.core.values c.args.now c.decided_action-decided.result c.args.self.now.disk c.look.new.self.disk c.carry_out.new.self.disk c.args.self.now.«module» (latest_of c.look.new.self.«module».latest c.look.new.self.«module».state)
    (ap values_in c.look.ensures.core)
    c.look.ensures.disk
    c.in_ok-look.ensures.up
    c.decided_action-decided.ensures
    tried)
    c.carry_out.ensures.tried

pub returns-clause-untouched : goal.returns-clause-untouched
returns-clause-untouched g c =
    IfOk-weaker c.carry_out.result (λ o. OnNothingNew o (c.carry_out.new.self.disk ≡ c.look.new.self.disk)) (λ o. OnNothingNew o (c.carry_out.new.self.disk ≡ c.args.self.now.disk))
    (λ o h. nothing_since o c.args.self.now.disk c.look.new.self.disk c.carry_out.new.self.disk c.look.ensures.disk h) c.carry_out.ensures.untouched

pub returns-clause-core : goal.returns-clause-core
returns-clause-core g c =
    IfOk-weaker c.carry_out.result (λ o. OnNothingNew o (c.carry_out.new.self.core ≡ c.look.new.self.core)) (λ o. OnNothingNew o (c.carry_out.new.self.core ≡ c.args.self.now.core))
    (λ o h. nothing_since o c.args.self.now.core c.look.new.self.core c.carry_out.new.self.core c.look.ensures.core h) c.carry_out.ensures.core
