use Rattle.std.proofs.Common.{◌≡◌, ◌≤◌, ◌-◌, None, length}
use Rattle.std.specs.List.{AllByRecursion}
use Rattle.sbe_local.specs.Pieces.{HasPieceSpelling}
use Rattle.module_state.specs.Recorded.{take_timers}
use Rattle.module_state.proofs.ReadLaws.{prefixed, NamesUpTo}
use Rattle.module_state.proofs.reading.take_timers.Given as goal

abbrev pub invariant-loop : goal.invariant-loop
invariant-loop l = record {
  spelled : AllByRecursion HasPieceSpelling l.pieces.items;
  few : length l.timers ≤ l.counter;
  above : NamesUpTo l.last l.timers;
  so_far : prefixed l.timers (take_timers l.last (4096 - l.counter) l.pieces.items) ≡ take_timers None 4096 l.initial.pieces.items;
}
