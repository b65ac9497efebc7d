use Rattle.run_listing.proofs.Sinks.{writes_then, writes_stops}
use Rattle.cluster_run.proofs.cluster.Cluster.run_begun.Goals as goal

pub returns-in_err-run_each : goal.returns-in_err-run_each
returns-in_err-run_each g c = writes_stops g.O.Sink.tells g.O.Sink.held g.O.Sink.fault_count _ _ _ _ _ c.in_err-run_each.was c.from_residual.ensures c.run_each.ensures

pub returns : goal.returns
returns g c = writes_then g.O.Sink.tells g.O.Sink.held g.O.Sink.fault_count _ _ _ _ _ c.in_ok-run_each.ensures c.flush_after.ensures
