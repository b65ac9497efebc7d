use Rattle.run_listing.proofs.Sinks.{writes_then, writes_stops}
use Rattle.cluster_run.proofs.cluster.Cluster.report_disks.Goals as goal

pub returns-in_err-report_members : goal.returns-in_err-report_members
returns-in_err-report_members g c = writes_stops g.O.Sink.tells g.O.Sink.held g.O.Sink.fault_count _ _ _ _ _ c.in_err-report_members.was c.from_residual.ensures c.report_members.ensures

pub returns : goal.returns
returns g c = writes_then g.O.Sink.tells g.O.Sink.held g.O.Sink.fault_count _ _ _ _ _ c.in_ok-report_members.ensures c.report_end.ensures
