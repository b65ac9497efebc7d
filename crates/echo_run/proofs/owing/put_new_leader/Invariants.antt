use Rattle.std.proofs.Common.{◌≡◌, ◌++◌, drop}
use Rattle.echo_run.specs.Owed.{new_leader_to}
use Rattle.echo_run.proofs.owing.put_new_leader.Given as goal

abbrev pub invariant-loop-i : goal.invariant-loop-i
invariant-loop-i l = l.sent ++ new_leader_to l.entry l.i l.term l.leader (drop l.i l.sessions) ≡ l.initial.sent ++ new_leader_to l.entry 0 l.term l.leader l.sessions
