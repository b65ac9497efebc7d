-- What is dropped changes nothing of what is from the first open link on.
use Rattle.std.proofs.Common.{◌≡◌}
use Rattle.network.specs.Net.{open_front}
use Rattle.network.proofs.flight.take_open.Given as goal

abbrev pub invariant-loop-packet : goal.invariant-loop-packet
invariant-loop-packet l = open_front l.members l.links l.flight.items ≡ open_front l.initial.members l.initial.links l.initial.flight.items

abbrev pub decreases-loop-packet : goal.decreases-loop-packet
decreases-loop-packet l = l.flight.len
