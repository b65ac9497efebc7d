use Rattle.std.proofs.Common.{◌≡◌, ◌-◌, ◌≤◌, ◌++◌, true, None, length}
use Rattle.sbe_consensus.specs.Spelling.{parts_there, events_fault, entries_at}
use Rattle.sbe_consensus.proofs.batch.entries_at.Given as goal

abbrev pub invariant-loop : goal.invariant-loop
invariant-loop l = record {
  within : l.at ≤ length l.bytes;
  there : parts_there (l.count - l.counter) l.at l.bytes ≡ true;
  free : events_fault (l.count - l.counter) l.at l.bytes ≡ None;
  same : l.entries ++ entries_at (l.count - l.counter) l.at l.bytes ≡ entries_at l.count l.from l.bytes;
}
