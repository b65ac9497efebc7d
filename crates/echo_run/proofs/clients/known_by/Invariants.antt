use Rattle.std.proofs.Common.{◌≡◌, take}
use Rattle.echo_run.specs.World.{known_by}
use Rattle.echo_run.proofs.clients.known_by.Given as goal

abbrev pub invariant-loop-s : goal.invariant-loop-s
invariant-loop-s l = l.known ≡ known_by l.client (take l.s-index l.sent)
