use Rattle.std.proofs.Common.{◌≡◌, []}
use Rattle.lanes.proofs.tests.two_services_meet_in_each_phase.Given as goal

abbrev pub invariant-loop : goal.invariant-loop
invariant-loop g l = l.lanes ≡ []
