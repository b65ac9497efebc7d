use Rattle.std.proofs.Common.{◌≡◌, ◌≤◌, ◌+◌, ◌^◌, ◌++◌, List, ℕ, length, map}
use Rattle.std.specs.List.{AllByRecursion}
use Rattle.std.specs.VecDeque.Iter.{deque_iter_rest}
use Rattle.sbe_local.specs.Pieces.{piece_spelling_of}
use Rattle.pending_messages.specs.Pending.{offers_at}
use Rattle.module_state.specs.Recorded.{waiting_pieces}
use Rattle.module_state.proofs.records.add_waiting.Given as goal

abbrev pub invariant-loop-payload : goal.invariant-loop-payload
invariant-loop-payload l = record {
  next : (goal.iterator-loop-payload).can_next l.payload-iterator;
  ends : (goal.iterator-loop-payload).is_finite l.payload-iterator;
  room : l.number + length (deque_iter_rest l.payload-iterator) ≤ 2 ^ 47;
  small : AllByRecursion (λ (p : List ℕ). length p ≤ 16384) (deque_iter_rest l.payload-iterator);
  so_far : l.found ++ map piece_spelling_of (waiting_pieces l.service l.number (deque_iter_rest l.payload-iterator)) ≡ l.initial.found ++ map piece_spelling_of (waiting_pieces l.service (offers_at l.service l.pending).appended (offers_at l.service l.pending).waiting);
}
