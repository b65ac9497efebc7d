use Rattle.std.proofs.Common.{◌≡◌, ◌++◌}
use Rattle.service_api.specs.Service.{numbered}
use Rattle.service_container.proofs.outbox.put_out.Given as goal

abbrev pub invariant-loop-output : goal.invariant-loop-output
invariant-loop-output l = l.outbox.items ≡ l.initial.outbox.items ++ numbered l.index l.yielded
