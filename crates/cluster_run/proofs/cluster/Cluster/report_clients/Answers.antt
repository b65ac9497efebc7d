use Rattle.run_listing.proofs.Sinks.{writes_then, writes_stops}
use Rattle.cluster_run.proofs.cluster.Cluster.report_clients.Goals as goal

pub returns-in_err-report_streams : goal.returns-in_err-report_streams
returns-in_err-report_streams g c = writes_stops g.O.Sink.tells g.O.Sink.held g.O.Sink.fault_count _ _ _ _ _ c.in_err-report_streams.was c.from_residual.ensures c.report_streams.ensures

pub returns : goal.returns
returns g c = writes_then g.O.Sink.tells g.O.Sink.held g.O.Sink.fault_count _ _ _ _ _ c.in_ok-report_streams.ensures c.report_joined.ensures
