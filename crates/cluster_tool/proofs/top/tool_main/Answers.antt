use Rattle.std.proofs.Common.{map, string_bytes}
use Rattle.cluster_tool.specs.Words.{tool_of}
use Rattle.cluster_tool.proofs.Ending.{answer_stays, answer_none_old, answer_disks}
use Rattle.cluster_tool.proofs.top.tool_main.Goals as goal

pub returns-clause-old_stays : goal.returns-clause-old_stays
returns-clause-old_stays g c = answer_stays g.D.Disk.tells g.D.Disk.is_honest g.D.Disk.state g.D.Disk.fault_count g.O.Sink.tells g.O.Sink.held g.O.Sink.fault_count (tool_of (map string_bytes c.args.words.now)) _ _ _ _ _ c.run.ensures

pub returns-clause-damaged : goal.returns-clause-damaged
returns-clause-damaged g c = answer_none_old g.D.Disk.tells g.D.Disk.is_honest g.D.Disk.state g.D.Disk.fault_count g.O.Sink.tells g.O.Sink.held g.O.Sink.fault_count (tool_of (map string_bytes c.args.words.now)) _ _ _ _ _ c.run.ensures

pub returns-clause-disks : goal.returns-clause-disks
returns-clause-disks g c = answer_disks g.D.Disk.tells g.D.Disk.is_honest g.D.Disk.state g.D.Disk.fault_count g.O.Sink.tells g.O.Sink.held g.O.Sink.fault_count (tool_of (map string_bytes c.args.words.now)) _ _ _ _ _ c.run.ensures
