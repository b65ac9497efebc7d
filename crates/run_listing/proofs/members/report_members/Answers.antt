use Rattle.run_listing.proofs.Sinks.{writes_then, writes_stops}
use Rattle.run_listing.proofs.members.report_members.Goals as goal

pub returns-in_err-report_member : goal.returns-in_err-report_member
returns-in_err-report_member g c =
    writes_stops g.O.Sink.tells g.O.Sink.held g.O.Sink.fault_count _ _ _ _ _ c.in_err-report_member.was c.from_residual.ensures
    (writes_then g.O.Sink.tells g.O.Sink.held g.O.Sink.fault_count _ _ _ _ _ c.each.invariant c.report_member.ensures)

pub each-preserved : goal.each-preserved
each-preserved g c = writes_then g.O.Sink.tells g.O.Sink.held g.O.Sink.fault_count _ _ _ _ _ c.each.invariant c.in_ok-report_member.ensures
