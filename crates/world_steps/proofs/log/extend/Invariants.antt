use Rattle.std.proofs.Common.{◌≡◌, ◌++◌, take}
use Rattle.world_steps.proofs.log.extend.Given as goal

abbrev pub invariant-loop-entry : goal.invariant-loop-entry
invariant-loop-entry l = l.log.items ≡ l.initial.log.items ++ take l.entry-index l.entries
