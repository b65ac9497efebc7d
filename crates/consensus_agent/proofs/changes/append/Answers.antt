use Rattle.consensus_agent.proofs.Batches.{batch_of}
use Rattle.consensus_agent.proofs.Disking.{append_done, append_went}
use Rattle.consensus_agent.proofs.Running.{ok_out}
use Rattle.consensus_agent.proofs.changes.append.Goals as goal

pub append-requires-clause-batch : goal.append-requires-clause-batch
append-requires-clause-batch g c = batch_of c.args.disk.now.kept.log c.args.entries.now c.requires.follows

pub returns-in_err-append-clause-went : goal.returns-in_err-append-clause-went
returns-in_err-append-clause-went g c = append_went g.D.Disk.state g.D.Disk.moment g.D.Disk.left_since g.D.Disk.tells g.D.Disk.is_honest c.args.entries.now c.args.disk.now c.append.new.self c.append.result c.append.ensures.tells c.append.ensures.honest c.append.ensures.ok c.append.ensures.err c.append.ensures.cut_well

pub returns-clause-went : goal.returns-clause-went
returns-clause-went g c = append_went g.D.Disk.state g.D.Disk.moment g.D.Disk.left_since g.D.Disk.tells g.D.Disk.is_honest c.args.entries.now c.args.disk.now c.append.new.self c.append.result c.append.ensures.tells c.append.ensures.honest c.append.ensures.ok c.append.ensures.err c.append.ensures.cut_well

pub returns-clause-done : goal.returns-clause-done
returns-clause-done g c = ok_out c.append.result _ c.in_ok-append.was (append_done g.D.Disk.state g.D.Disk.moment g.D.Disk.left_since g.D.Disk.tells g.D.Disk.is_honest c.args.entries.now c.args.disk.now c.append.new.self c.append.result c.append.ensures.makes c.append.ensures.made)
