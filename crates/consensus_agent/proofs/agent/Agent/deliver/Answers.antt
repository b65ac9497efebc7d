use Rattle.std.proofs.Common.{refl}
use Rattle.consensus_agent.proofs.Disking.{went_none}
use Rattle.consensus_agent.proofs.agent.Agent.deliver.Goals as goal

pub returns-in-Err-Bad-clause-bad : goal.returns-in-Err-Bad-clause-bad
returns-in-Err-Bad-clause-bad g c = (c.decode_packet.ensures.bad c.in-Err-Bad.bad).0 (cc)

pub returns-then-not-self-clause-went : goal.returns-then-not-self-clause-went
returns-then-not-self-clause-went g c p spelled is = went_none g.D.Disk.state g.D.Disk.tells g.D.Disk.is_honest _ c.args.self.now.disk c.args.self.now.disk refl

pub returns-in-Err-NoMemory-clause-went : goal.returns-in-Err-NoMemory-clause-went
returns-in-Err-NoMemory-clause-went g c p spelled is = went_none g.D.Disk.state g.D.Disk.tells g.D.Disk.is_honest _ c.args.self.now.disk c.args.self.now.disk refl
