use Rattle.run_listing.proofs.Sinks.{writes_then, writes_stops, writes_of}
use Rattle.cluster_run.proofs.cluster.Cluster.report_handed.Goals as goal

pub returns-in_err-client : goal.returns-in_err-client
returns-in_err-client g c =
    writes_stops g.O.Sink.tells g.O.Sink.held g.O.Sink.fault_count _ _ _ _ _ c.in_err-client.was c.from_residual.ensures
    (writes_then g.O.Sink.tells g.O.Sink.held g.O.Sink.fault_count _ _ _ _ _ c.each.invariant (writes_of g.O.Sink.tells g.O.Sink.held g.O.Sink.fault_count _ _ _ _ _ _ c.client.ensures))

pub each-preserved : goal.each-preserved
each-preserved g c = writes_then g.O.Sink.tells g.O.Sink.held g.O.Sink.fault_count _ _ _ _ _ c.each.invariant (writes_of g.O.Sink.tells g.O.Sink.held g.O.Sink.fault_count _ _ _ _ _ _ c.in_ok-client.ensures)
