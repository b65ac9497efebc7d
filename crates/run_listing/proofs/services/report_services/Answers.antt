use Rattle.run_listing.proofs.Sinks.{writes_then, writes_stops}
use Rattle.run_listing.proofs.services.report_services.Goals as goal

pub returns-in_err-put_services : goal.returns-in_err-put_services
returns-in_err-put_services g c =
    writes_stops g.O.Sink.tells g.O.Sink.held g.O.Sink.fault_count _ _ _ _ _ c.in_err-put_services.was c.from_residual.ensures
    (writes_then g.O.Sink.tells g.O.Sink.held g.O.Sink.fault_count _ _ _ _ _ c.each.invariant c.put_services.ensures)

pub each-preserved : goal.each-preserved
each-preserved g c = writes_then g.O.Sink.tells g.O.Sink.held g.O.Sink.fault_count _ _ _ _ _ c.each.invariant c.in_ok-put_services.ensures
