use Rattle.std.proofs.Common.{◌≡◌, ◌≤◌, take, drop}
use Rattle.std.specs.Prelude.{sum}
use Rattle.entry_log.specs.Shape.{lens_of, end_of}
use Rattle.log_replication.proofs.Batched.{Pieces}
use Rattle.log_replication.proofs.batches.batch_len.Given as goal

abbrev pub invariant-loop-count : goal.invariant-loop-count
invariant-loop-count l = record {
  low : 1 ≤ l.count;
  high : l.count ≤ l.limit;
  bytes : l.bytes ≡ sum (lens_of (take l.count (drop l.from l.index)));
  pieces : Pieces (end_of (take l.from l.index)) (drop l.from l.index) l.count;
}
