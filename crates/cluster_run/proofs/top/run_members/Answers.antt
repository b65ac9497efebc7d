use Rattle.run_listing.proofs.Sinks.{writes_then, writes_stops}
use Rattle.cluster_run.proofs.top.run_members.Goals as goal

pub returns-in_err-run_orders : goal.returns-in_err-run_orders
returns-in_err-run_orders g c = writes_stops g.O.Sink.tells g.O.Sink.held g.O.Sink.fault_count _ _ _ _ _ c.in_err-run_orders.was c.from_residual.ensures c.run_orders.ensures

pub returns : goal.returns
returns g c = writes_then g.O.Sink.tells g.O.Sink.held g.O.Sink.fault_count _ _ _ _ _ c.in_ok-run_orders.ensures c.conclude.ensures
