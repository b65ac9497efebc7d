use Rattle.std.proofs.Common.{Ok}
use Rattle.run_listing.specs.Sinks.{Writes}
use Rattle.cluster_run.proofs.cluster.Cluster.report_handed.Given as goal

abbrev pub invariant-each : goal.invariant-each
invariant-each g l = Writes {T = Unit {0}} g.O.Sink.tells g.O.Sink.held g.O.Sink.fault_count l.initial.sink l.sink (Ok tt)
