use Rattle.run_listing.proofs.Sinks.{writes_then, writes_stops, writes_of}
use Rattle.run_listing.proofs.services.put_ended.Goals as goal

pub returns-in_err-run : goal.returns-in_err-run
returns-in_err-run g c =
    writes_stops g.O.Sink.tells g.O.Sink.held g.O.Sink.fault_count _ _ _ _ _ c.in_err-run.was c.from_residual.ensures
    (writes_then g.O.Sink.tells g.O.Sink.held g.O.Sink.fault_count _ _ _ _ _ c.each.invariant (writes_of g.O.Sink.tells g.O.Sink.held g.O.Sink.fault_count _ _ _ _ _ _ c.run.ensures))

pub each-preserved : goal.each-preserved
each-preserved g c = writes_then g.O.Sink.tells g.O.Sink.held g.O.Sink.fault_count _ _ _ _ _ c.each.invariant (writes_of g.O.Sink.tells g.O.Sink.held g.O.Sink.fault_count _ _ _ _ _ _ c.in_ok-run.ensures)
