use Rattle.std.proofs.Common.{◌≡◌, drop}
use Rattle.module_state.specs.Recorded.{take_pending}
use Rattle.module_state.proofs.ReadLaws.{with_front}
use Rattle.module_state.proofs.reading.take_pending.Given as goal

abbrev pub invariant-loop-count : goal.invariant-loop-count
invariant-loop-count l = record {
  number : l.service ≡ l.count-index;
  so_far : with_front l.pending (take_pending l.service (drop l.count-index l.counts) l.pieces.items) ≡ take_pending 0 l.counts l.initial.pieces.items;
}
