use Rattle.cluster_tool.proofs.Ending.{ends_both}
use Rattle.cluster_tool.proofs.verify.verified.Goals as goal

pub returns-in-Ok : goal.returns-in-Ok
returns-in-Ok g c = ends_both g.D.Disk.tells g.D.Disk.is_honest g.D.Disk.state g.D.Disk.fault_count g.O.Sink.tells g.O.Sink.held g.O.Sink.fault_count _ _ _ _ _ _ _ _ c.in-Ok.ensures c.verified_with.ensures
