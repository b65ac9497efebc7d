use Rattle.std.proofs.Common.{◌≡◌, ◌++◌, drop}
use Rattle.consensus_core.specs.Member.{entries_in}
use Rattle.world_steps.proofs.log.entries_in.Given as goal

abbrev pub invariant-loop-of : goal.invariant-loop-of
invariant-loop-of l = l.found.items ++ entries_in (drop l.of-index l.ranges) l.log ≡ entries_in l.ranges l.log
