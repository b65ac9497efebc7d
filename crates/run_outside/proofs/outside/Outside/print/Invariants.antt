use Rattle.std.proofs.Common.{◌≡◌, ◌++◌, take}
use Rattle.run_outside.proofs.outside.Outside.print.Given as goal

abbrev pub invariant-loop-entry : goal.invariant-loop-entry
invariant-loop-entry l = record {
  printed : l.self.printed ≡ l.initial.self.printed ++ take l.entry-index l.missing;
  net : l.self.net ≡ l.initial.self.net;
  egress : l.self.egress ≡ l.initial.self.egress;
}
