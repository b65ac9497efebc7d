use Rattle.consensus_agent.proofs.Disking.{cut_went, cut_done}
use Rattle.consensus_agent.proofs.Running.{ok_out}
use Rattle.consensus_agent.proofs.changes.cut.Goals as goal

pub returns-in_err-cut-clause-went : goal.returns-in_err-cut-clause-went
returns-in_err-cut-clause-went g c = cut_went g.D.Disk.state g.D.Disk.moment g.D.Disk.left_since g.D.Disk.tells g.D.Disk.is_honest c.args.entries c.args.disk.now c.cut.new.self c.cut.result c.cut.ensures.tells c.cut.ensures.honest c.cut.ensures.ok c.cut.ensures.err c.cut.ensures.cut_well

pub returns-clause-went : goal.returns-clause-went
returns-clause-went g c = cut_went g.D.Disk.state g.D.Disk.moment g.D.Disk.left_since g.D.Disk.tells g.D.Disk.is_honest c.args.entries c.args.disk.now c.cut.new.self c.cut.result c.cut.ensures.tells c.cut.ensures.honest c.cut.ensures.ok c.cut.ensures.err c.cut.ensures.cut_well

pub returns-clause-done : goal.returns-clause-done
returns-clause-done g c = ok_out c.cut.result _ c.in_ok-cut.was (cut_done g.D.Disk.state g.D.Disk.moment g.D.Disk.left_since g.D.Disk.tells g.D.Disk.is_honest c.args.entries c.args.disk.now c.cut.new.self c.cut.result c.cut.ensures.ok c.cut.ensures.made)
