use Rattle.std.proofs.Common.{◌≡◌, ◌-◌, ◌++◌}
use Rattle.std.specs.Prelude.{flat_map}
use Rattle.std.specs.List.{range_with_len}
use Rattle.scenario.specs.Made.{message_step, half}
use Rattle.scenario.proofs.making.put_half.Given as goal

-- what is put and what is left are all
abbrev pub invariant-loop-number : goal.invariant-loop-number
invariant-loop-number l = l.out.items ++ flat_map (message_step l.member l.end) (range_with_len l.number (l.end - l.number)) ≡ l.fn.out.items ++ half l.member l.from l.end
