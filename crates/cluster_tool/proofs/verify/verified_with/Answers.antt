use Rattle.std.proofs.Common.{sym, subst}
use Rattle.cluster_tool.specs.Listed.{EndsWith}
use Rattle.cluster_tool.proofs.Ending.{with_listed}
use Rattle.cluster_tool.proofs.verify.verified_with.Goals as goal

pub returns-in-Ok : goal.returns-in-Ok
returns-in-Ok g c =
    let v = c.verify-status in
    subst (λ d. EndsWith g.D.Disk.tells g.D.Disk.is_honest g.D.Disk.state g.D.Disk.fault_count g.O.Sink.tells g.O.Sink.held g.O.Sink.fault_count c.args.first c.args.second d c.into_disk-in-Ok.result c.args.sink.now v.new.sink v.result)
    (sym c.into_disk.ensures)
    (subst (λ d. EndsWith g.D.Disk.tells g.D.Disk.is_honest g.D.Disk.state g.D.Disk.fault_count g.O.Sink.tells g.O.Sink.held g.O.Sink.fault_count c.args.first c.args.second v.new.first.disk d c.args.sink.now v.new.sink v.result)
    (sym c.into_disk-in-Ok.ensures)
    (with_listed g.D.Disk.tells g.D.Disk.is_honest g.D.Disk.state g.D.Disk.fault_count g.O.Sink.tells g.O.Sink.held g.O.Sink.fault_count
    c.args.first c.args.second c.in-Ok.second v.new.first v.new.second c.args.sink.now v.new.sink v.result c.in-Ok.ensures v.ensures.first v.ensures.second v.ensures.ends v.ensures.sink v.ensures.done))
