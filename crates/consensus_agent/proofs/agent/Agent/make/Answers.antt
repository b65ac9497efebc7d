use Rattle.std.proofs.Common.{refl}
use Rattle.consensus_agent.proofs.Disking.{went_none}
use Rattle.consensus_agent.proofs.agent.Agent.make.Goals as goal

pub returns-in-Nothing-clause-went : goal.returns-in-Nothing-clause-went
returns-in-Nothing-clause-went g c = went_none g.D.Disk.state g.D.Disk.tells g.D.Disk.is_honest c.args.change c.args.self.now.disk c.args.self.now.disk refl
