use Rattle.std.proofs.Common.{List, ◌∷◌, [], ◌++◌, sym, subst}
use Rattle.consensus_agent.specs.Written.{StoppedAmong, module_snapshot, service_snapshots, snapshots_of}
use Rattle.consensus_agent.specs.declared.snapshots.Action.{Action}
use Rattle.consensus_agent.proofs.Running.{err_out, on_err}
use Rattle.consensus_agent.proofs.Writing.{stopped_first}
use Rattle.consensus_agent.proofs.snapshots.+put_all.Goals as goal

pub returns-in_err-put_action-clause-stopped : goal.returns-in_err-put_action-clause-stopped
returns-in_err-put_action-clause-stopped g n c =
    let action = c.in-Some.action.now in
    let own = service_snapshots action c.args.containers.now ++ module_snapshot action ∷ [] in
    on_err c.from_residual.result
    (subst (λ (as' : List Action). StoppedAmong g.D.Disk.state g.D.Disk.tells g.D.Disk.is_honest (snapshots_of c.args.containers.now as') c.args.disk.now c.put_action.new.disk) (sym c.in-Some.ensures.cases.0)
    (stopped_first g.D.Disk.state g.D.Disk.tells g.D.Disk.is_honest own (snapshots_of c.args.containers.now c.in-Some.rest.now) c.args.disk.now c.put_action.new.disk
    (err_out c.put_action.result _ c.in_err-put_action.was c.put_action.ensures.stopped)))
