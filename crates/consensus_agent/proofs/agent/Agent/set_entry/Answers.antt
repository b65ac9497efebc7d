use Rattle.consensus_agent.proofs.Disking.{looked_once}
use Rattle.consensus_agent.proofs.agent.Agent.set_entry.Goals as goal

pub returns-in_err-set-clause-looked : goal.returns-in_err-set-clause-looked
returns-in_err-set-clause-looked g c = looked_once g.D.Disk.state g.D.Disk.tells g.D.Disk.is_honest c.args.self.now.disk c.set_entry.new.self c.set_entry.result c.set_entry.ensures.kept c.set_entry.ensures.tells c.set_entry.ensures.honest c.set_entry.ensures.looks

pub returns-clause-looked : goal.returns-clause-looked
returns-clause-looked g c = looked_once g.D.Disk.state g.D.Disk.tells g.D.Disk.is_honest c.args.self.now.disk c.set_entry.new.self c.set_entry.result c.set_entry.ensures.kept c.set_entry.ensures.tells c.set_entry.ensures.honest c.set_entry.ensures.looks
