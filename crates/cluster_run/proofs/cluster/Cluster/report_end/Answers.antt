use Rattle.run_listing.proofs.Sinks.{writes_then, writes_stops, writes_of}
use Rattle.cluster_run.proofs.cluster.Cluster.report_end.Goals as goal

pub returns-in_err-report_backup : goal.returns-in_err-report_backup
returns-in_err-report_backup g c = writes_stops g.O.Sink.tells g.O.Sink.held g.O.Sink.fault_count _ _ _ _ _ c.in_err-report_backup.was c.from_residual.ensures c.report_backup.ensures

pub returns : goal.returns
returns g c = writes_then g.O.Sink.tells g.O.Sink.held g.O.Sink.fault_count _ _ _ _ _ c.in_ok-report_backup.ensures (writes_of g.O.Sink.tells g.O.Sink.held g.O.Sink.fault_count _ _ _ _ _ _ c.done.ensures.told)
