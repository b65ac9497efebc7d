use Rattle.run_listing.proofs.Sinks.{writes_then, writes_stops}
use Rattle.cluster_run.proofs.cluster.Cluster.run_each.Goals as goal

pub returns-in_err-flush_after : goal.returns-in_err-flush_after
returns-in_err-flush_after g c =
    writes_stops g.O.Sink.tells g.O.Sink.held g.O.Sink.fault_count _ _ _ _ _ c.in_err-flush_after.was c.from_residual.ensures
    (writes_then g.O.Sink.tells g.O.Sink.held g.O.Sink.fault_count _ _ _ _ _ c.each.invariant c.flush_after.ensures)

pub each-preserved : goal.each-preserved
each-preserved g c = writes_then g.O.Sink.tells g.O.Sink.held g.O.Sink.fault_count _ _ _ _ _ c.each.invariant c.in_ok-flush_after.ensures
