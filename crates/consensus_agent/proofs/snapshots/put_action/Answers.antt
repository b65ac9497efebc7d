use Rattle.std.proofs.Common.{List, ◌∷◌, [], refl, subst}
use Rattle.std.specs.Prelude.{OnOk}
use Rattle.consensus_agent.specs.Written.{AreWritten, Snapshot, module_snapshot, service_snapshots}
use Rattle.consensus_agent.proofs.Running.{on_err, on_ok}
use Rattle.consensus_agent.proofs.Writing.{stopped_later, stopped_none, written_more}
use Rattle.consensus_agent.proofs.snapshots.put_action.Goals as goal

pub returns-in_err-head-clause-stopped : goal.returns-in_err-head-clause-stopped
returns-in_err-head-clause-stopped g c =
    let action = c.args.action.now in
    on_err c.from_residual-in_err-head.result
    (stopped_later g.D.Disk.state g.D.Disk.tells g.D.Disk.is_honest (service_snapshots action c.args.containers.now) (module_snapshot action ∷ []) c.args.disk.now c.put_services.new.disk c.put_services.new.disk c.in_ok-put_services.ensures.written
    (stopped_none g.D.Disk.state g.D.Disk.tells g.D.Disk.is_honest (module_snapshot action ∷ []) c.put_services.new.disk c.put_services.new.disk refl))

pub returns-clause-written : goal.returns-clause-written
returns-clause-written g c =
    let action = c.args.action.now in
    on_ok c.put.result
    (written_more g.D.Disk.state g.D.Disk.tells g.D.Disk.is_honest (service_snapshots action c.args.containers.now) (module_snapshot action ∷ []) c.args.disk.now c.put_services.new.disk c.put.new.disk c.in_ok-put_services.ensures.written)
    (subst (λ (ss : List Snapshot). OnOk c.put.result (AreWritten g.D.Disk.state g.D.Disk.tells g.D.Disk.is_honest ss c.put_services.new.disk c.put.new.disk))
    (λ i. record { head = c.in_ok-head.ensures.exact i; pieces = c.as_slice.ensures i } ∷ [])
    c.put.ensures.written)
