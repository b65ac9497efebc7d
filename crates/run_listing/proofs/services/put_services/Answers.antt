use Rattle.run_listing.proofs.Sinks.{writes_then, writes_stops}
use Rattle.run_listing.proofs.services.put_services.Goals as goal

pub returns-in_err-put_ended : goal.returns-in_err-put_ended
returns-in_err-put_ended g c = writes_stops g.O.Sink.tells g.O.Sink.held g.O.Sink.fault_count _ _ _ _ _ c.in_err-put_ended.was c.from_residual.ensures c.put_ended.ensures
