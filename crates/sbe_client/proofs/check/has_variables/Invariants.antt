use Rattle.std.proofs.Common.{◌≡◌, ◌-◌, ◌≤◌, length}
use Rattle.sbe_client.specs.Reading.{has_variables}
use Rattle.sbe_client.proofs.check.has_variables.Given as goal

abbrev pub invariant-loop : goal.invariant-loop
invariant-loop l = record { within : l.at ≤ length l.bytes; same : has_variables (l.count - l.counter) l.at l.bytes ≡ has_variables l.count l.from l.bytes }
