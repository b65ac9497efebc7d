use Rattle.run_listing.proofs.Sinks.{writes_then, writes_stops}
use Rattle.cluster_run.proofs.cluster.Cluster.report_joined.Goals as goal

pub returns-in_err-report_handed : goal.returns-in_err-report_handed
returns-in_err-report_handed g c = writes_stops g.O.Sink.tells g.O.Sink.held g.O.Sink.fault_count _ _ _ _ _ c.in_err-report_handed.was c.from_residual.ensures c.report_handed.ensures

pub returns : goal.returns
returns g c = writes_then g.O.Sink.tells g.O.Sink.held g.O.Sink.fault_count _ _ _ _ _ c.in_ok-report_handed.ensures c.report_disks.ensures
