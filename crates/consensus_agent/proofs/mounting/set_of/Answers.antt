use Rattle.consensus_agent.proofs.Disking.{looked_once}
use Rattle.consensus_agent.proofs.Quiets.{quiet_by, failed_by}
use Rattle.consensus_agent.proofs.mounting.set_of.Goals as goal

pub returns-clause-looked : goal.returns-clause-looked
returns-clause-looked g c = looked_once g.D.Disk.state g.D.Disk.tells g.D.Disk.is_honest c.args.disk.now c.set_entry.new.self c.set_entry.result c.set_entry.ensures.kept c.set_entry.ensures.tells c.set_entry.ensures.honest c.set_entry.ensures.looks

pub returns-clause-quiet : goal.returns-clause-quiet
returns-clause-quiet g c = quiet_by g.D.Disk.fault_count g.D.Disk.state g.D.Disk.tells c.args.disk.now c.set_entry.new.self c.set_entry.result c.set_entry.ensures.cause c.set_entry.ensures.looks

pub returns-clause-failed : goal.returns-clause-failed
returns-clause-failed g c = failed_by g.D.Disk.fault_count g.D.Disk.state g.D.Disk.tells c.args.disk.now c.set_entry.new.self c.set_entry.result c.set_entry.ensures.cause c.set_entry.ensures.looks
