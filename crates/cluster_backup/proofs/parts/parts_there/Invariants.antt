use Rattle.std.proofs.Common.{◌≡◌, ◌-◌, ◌≤◌, length}
use Rattle.sbe_consensus.specs.Spelling.{parts_there}
use Rattle.cluster_backup.proofs.parts.parts_there.Given as goal

abbrev pub invariant-loop : goal.invariant-loop
invariant-loop l = record { within : l.at ≤ length l.bytes; same : parts_there (l.count - l.counter) l.at l.bytes ≡ parts_there l.count l.from l.bytes }
