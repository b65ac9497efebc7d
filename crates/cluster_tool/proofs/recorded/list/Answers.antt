use Rattle.std.proofs.Common.{Err, ap, sym, ◌∙◌, subst}
use Rattle.recording_log.specs.Once.{holds_not_wrong}
use Rattle.cluster_tool.specs.Disks.{EndsFor}
use Rattle.cluster_tool.proofs.Ending.{quiet, ends_unread}
use Rattle.cluster_tool.proofs.recorded.list.Goals as goal

pub returns-in-Err-clause-ends : goal.returns-in-Err-clause-ends
returns-in-Err-clause-ends g c =
    let ends = EndsFor g.D.Disk.tells g.D.Disk.fault_count 0 c.args.disk.now c.mount.new.disk in
    quiet c.written.result c.of.result c.written.ensures.answer ends
    (subst ends (sym c.of.ensures) (ends_unread g.D.Disk.tells g.D.Disk.is_honest g.D.Disk.state g.D.Disk.fault_count c.args.disk.now c.mount.new.disk c.in-Err.fault c.in-Err.ensures.cause
    (λ t file place is.
    let holds = c.requires t in
    let wrong = c.mount.ensures.damaged t file place (c.in-Err.is ∙ ap Err is) in
    holds_not_wrong holds.0 _ place holds.1 wrong.1)))
    tt tt
