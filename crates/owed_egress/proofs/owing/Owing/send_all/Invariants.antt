use Rattle.std.proofs.Common.{◌≡◌, ◌++◌, length, None}
use Rattle.owed_egress.specs.Records.{numbered}
use Rattle.owed_egress.proofs.owing.Owing.send_all.Given as goal

abbrev pub invariant-loop-output : goal.invariant-loop-output
invariant-loop-output l = record {
  before : l.before ≡ length l.initial.sent;
  sent : l.sent ≡ l.initial.sent ++ numbered l.self.index None 0 l.yielded;
}
