use Rattle.consensus_agent.proofs.Running.{err_out, ok_out, on_err}
use Rattle.consensus_agent.proofs.Writing.{put_stopped, put_written}
use Rattle.consensus_agent.proofs.snapshots.put.Goals as goal

pub returns-in_err-put_snapshot-clause-stopped : goal.returns-in_err-put_snapshot-clause-stopped
returns-in_err-put_snapshot-clause-stopped g c =
    on_err c.from_residual.result (err_out c.put_snapshot.result _ c.in_err-put_snapshot.was
    (put_stopped g.D.Disk.state g.D.Disk.moment g.D.Disk.left_since g.D.Disk.tells g.D.Disk.is_honest (record { head = c.args.head; pieces = c.args.pieces.now }) c.args.disk.now c.put_snapshot.new.self c.put_snapshot.result c.put_snapshot.ensures.tells c.put_snapshot.ensures.honest c.put_snapshot.ensures.err c.put_snapshot.ensures.again c.put_snapshot.ensures.cut_well c.put_snapshot.ensures.filed))

pub returns-clause-written : goal.returns-clause-written
returns-clause-written g c =
    ok_out c.put_snapshot.result _ c.in_ok-put_snapshot.was
    (put_written g.D.Disk.state g.D.Disk.moment g.D.Disk.left_since g.D.Disk.tells g.D.Disk.is_honest (record { head = c.args.head; pieces = c.args.pieces.now }) c.args.disk.now c.put_snapshot.new.self c.put_snapshot.result c.put_snapshot.ensures.tells c.put_snapshot.ensures.honest c.put_snapshot.ensures.ok c.put_snapshot.ensures.stored c.put_snapshot.ensures.made c.put_snapshot.ensures.again c.put_snapshot.ensures.cut_well)
