use Rattle.std.proofs.Common.{◌≡◌, replicate}
use Rattle.entry_log.specs.Durable.{fresh}
use Rattle.consensus_core.specs.Member.{stopped}
use Rattle.world_steps.proofs.cluster.fresh_members.Given as goal

abbrev pub invariant-loop : goal.invariant-loop
invariant-loop l = l.members.items ≡ replicate l.counter (stopped fresh)
