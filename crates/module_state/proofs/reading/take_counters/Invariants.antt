use Rattle.std.proofs.Common.{◌≡◌, ◌-◌}
use Rattle.module_state.specs.Recorded.{take_counters}
use Rattle.module_state.proofs.ReadLaws.{with_front}
use Rattle.module_state.proofs.reading.take_counters.Given as goal

abbrev pub invariant-loop-service : goal.invariant-loop-service
invariant-loop-service l = with_front l.counts.items (take_counters (l.services - l.service) l.service l.pieces.items) ≡ take_counters l.services 0 l.initial.pieces.items
