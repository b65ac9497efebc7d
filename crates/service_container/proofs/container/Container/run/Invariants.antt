use Rattle.std.proofs.Common.{◌≡◌, true}
use Rattle.service_container.specs.Held.{consumed_to, Consumes}
use Rattle.commit_counter.specs.Ends.{taken_to}
use Rattle.service_container.proofs.container.Container.run.Given as goal

abbrev pub invariant-loop : goal.invariant-loop
invariant-loop g l = Consumes l.initial.self l.initial.poller l.self l.poller × (l.self.whole ≡ true) × (taken_to l.poller ≡ consumed_to l.self)
