use Rattle.std.proofs.Common.{◌≡◌, take}
use Rattle.echo_run.specs.Module.{others_than}
use Rattle.echo_run.proofs.sessions.without.Given as goal

abbrev pub invariant-loop-s : goal.invariant-loop-s
invariant-loop-s l = l.kept ≡ others_than l.id (take l.s-index l.sessions)
