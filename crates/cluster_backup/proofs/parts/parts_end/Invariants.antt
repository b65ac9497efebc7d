use Rattle.std.proofs.Common.{◌≡◌, ◌-◌, ◌≤◌, true, length}
use Rattle.sbe_consensus.specs.Spelling.{parts_there, parts_end}
use Rattle.cluster_backup.specs.Spelling.{parts_fault}
use Rattle.cluster_backup.proofs.parts.parts_end.Given as goal

abbrev pub invariant-loop : goal.invariant-loop
invariant-loop l = record {
  within : l.at ≤ length l.bytes;
  there : parts_there (l.count - l.counter) l.at l.bytes ≡ true;
  end : parts_end (l.count - l.counter) l.at l.bytes ≡ parts_end l.count l.from l.bytes;
  fault : parts_fault l.part (l.count - l.counter) l.at l.bytes ≡ parts_fault l.part l.count l.from l.bytes;
}
