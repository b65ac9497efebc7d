use Rattle.std.proofs.Common.{◌≡◌}
use Rattle.run_outside.specs.Gives.{with_packets}
use Rattle.run_outside.proofs.outside.Outside.emit.Given as goal

abbrev pub invariant-loop-packet : goal.invariant-loop-packet
invariant-loop-packet l = record {
  net : l.self.net ≡ with_packets l.from l.yielded l.initial.self.net;
  egress : l.self.egress ≡ l.initial.self.egress;
  printed : l.self.printed ≡ l.initial.self.printed;
}
