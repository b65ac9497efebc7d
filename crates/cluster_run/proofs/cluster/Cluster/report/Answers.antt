use Rattle.run_listing.proofs.Sinks.{writes_then, writes_stops, writes_of}
use Rattle.cluster_run.proofs.cluster.Cluster.report.Goals as goal

pub returns-in_err-log : goal.returns-in_err-log
returns-in_err-log g c = writes_stops g.O.Sink.tells g.O.Sink.held g.O.Sink.fault_count _ _ _ _ _ c.in_err-log.was c.from_residual.ensures (writes_of g.O.Sink.tells g.O.Sink.held g.O.Sink.fault_count _ _ _ _ _ _ c.log.ensures)

pub returns : goal.returns
returns g c = writes_then g.O.Sink.tells g.O.Sink.held g.O.Sink.fault_count _ _ _ _ _ (writes_of g.O.Sink.tells g.O.Sink.held g.O.Sink.fault_count _ _ _ _ _ _ c.in_ok-log.ensures) c.report_services.ensures
