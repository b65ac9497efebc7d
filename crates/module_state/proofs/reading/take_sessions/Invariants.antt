use Rattle.std.proofs.Common.{◌≡◌, ◌-◌, None}
use Rattle.module_state.specs.Recorded.{take_sessions}
use Rattle.module_state.proofs.ReadLaws.{prefixed, UpTo}
use Rattle.module_state.proofs.reading.take_sessions.Given as goal

abbrev pub invariant-loop : goal.invariant-loop
invariant-loop l = record {
  next : l.sessions.table.next_id ≡ l.next_id;
  above : UpTo l.last l.sessions.table.listed;
  so_far : prefixed l.sessions.table.listed (take_sessions l.next_id l.last (1024 - l.counter) l.pieces.items) ≡ take_sessions l.next_id None 1024 l.initial.pieces.items;
}
