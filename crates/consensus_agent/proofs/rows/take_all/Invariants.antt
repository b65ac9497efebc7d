use Rattle.std.proofs.Common.{◌≡◌, ◌++◌}
use Rattle.module_state.specs.Entries.{events_in}
use Rattle.consensus_agent.proofs.rows.take_all.Given as goal

abbrev pub invariant-loop-entry : goal.invariant-loop-entry
invariant-loop-entry l = record {
  taken : l.module.consumed ≡ l.initial.module.consumed;
  entries : l.module.ahead.entries ≡ l.initial.module.ahead.entries ++ l.yielded;
  events : l.module.ahead.events ≡ l.initial.module.ahead.events ++ events_in l.yielded;
  rest : l.module ≡ record l.initial.module { ahead = l.module.ahead; latest = l.module.latest };
}
