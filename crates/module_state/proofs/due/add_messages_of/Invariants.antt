use Rattle.std.proofs.Common.{◌≡◌, ◌≤◌, ◌+◌, ◌^◌, ◌++◌, length}
use Rattle.std.specs.VecDeque.Iter.{deque_iter_rest}
use Rattle.pending_messages.specs.Pending.{offers_at}
use Rattle.module_state.specs.Due.{messages_of}
use Rattle.module_state.proofs.due.add_messages_of.Given as goal

abbrev pub invariant-loop-payload : goal.invariant-loop-payload
invariant-loop-payload l = record {
  next : (goal.iterator-loop-payload).can_next l.payload-iterator;
  ends : (goal.iterator-loop-payload).is_finite l.payload-iterator;
  room : l.number + length (deque_iter_rest l.payload-iterator) ≤ 2 ^ 47;
  so_far : l.found ++ messages_of l.moment.term l.moment.now l.service l.number (deque_iter_rest l.payload-iterator) ≡ l.initial.found ++ messages_of l.moment.term l.moment.now l.service (offers_at l.service l.pending).appended (offers_at l.service l.pending).waiting;
}
