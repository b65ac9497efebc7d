use Rattle.std.proofs.Common.{◌≡◌, ◌-◌, ◌≤◌, ◌++◌, true, length}
use Rattle.sbe_consensus.specs.Spelling.{parts_there}
use Rattle.cluster_backup.specs.Spelling.{parts_at}
use Rattle.cluster_backup.proofs.parts.parts_at.Given as goal

abbrev pub invariant-loop : goal.invariant-loop
invariant-loop l = record {
  within : l.at ≤ length l.bytes;
  there : parts_there (l.count - l.counter) l.at l.bytes ≡ true;
  same : l.parts ++ parts_at (l.count - l.counter) l.at l.bytes ≡ parts_at l.count l.from l.bytes;
}
