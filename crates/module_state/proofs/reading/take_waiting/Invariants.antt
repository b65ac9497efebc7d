use Rattle.std.proofs.Common.{◌≡◌, ◌+◌, ◌-◌}
use Rattle.module_state.specs.Recorded.{take_waiting}
use Rattle.module_state.proofs.ReadLaws.{with_front}
use Rattle.module_state.proofs.reading.take_waiting.Given as goal

abbrev pub invariant-loop-before : goal.invariant-loop-before
invariant-loop-before l = with_front l.waiting.items (take_waiting (l.count - l.before) l.service (l.appended + l.before) l.pieces.items) ≡ take_waiting l.count l.service l.appended l.initial.pieces.items
