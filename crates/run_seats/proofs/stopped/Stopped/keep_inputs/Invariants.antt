use Rattle.std.proofs.Common.{◌≡◌, ◌++◌, false, map, take}
use Rattle.member_rows.specs.Places.{run_ended}
use Rattle.run_seats.specs.Seats.{ended_seen}
use Rattle.run_seats.proofs.stopped.Stopped.keep_inputs.Given as goal

abbrev pub invariant-loop-service : goal.invariant-loop-service
invariant-loop-service g l = map ended_seen l.ended.items ≡ map ended_seen l.initial.ended.items ++ take l.service (run_ended l.self.member.seen false)
