use Rattle.std.proofs.Common.{◌≡◌}
use Rattle.run_outside.specs.Gives.{with_records}
use Rattle.run_outside.proofs.outside.Outside.send.Given as goal

abbrev pub invariant-loop-sent : goal.invariant-loop-sent
invariant-loop-sent l = record {
  egress : l.self.egress ≡ with_records l.yielded l.initial.self.egress;
  net : l.self.net ≡ l.initial.self.net;
  printed : l.self.printed ≡ l.initial.self.printed;
}
