use Rattle.member_gives.proofs.packets_are_in_flight.Goals as goal
use Rattle.member_gives.proofs.Given.{packets-sent}

pub returns : goal.returns
returns c from packets net = packets-sent from packets net
