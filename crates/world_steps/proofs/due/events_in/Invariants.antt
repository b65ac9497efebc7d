use Rattle.std.proofs.Common.{◌≡◌, ◌++◌, drop}
use Rattle.std.specs.List.{AllByRecursion}
use Rattle.sbe_events.specs.Spelling.{HasSpelling}
use Rattle.module_state.specs.Entries.{events_in}
use Rattle.world_steps.proofs.due.events_in.Given as goal

abbrev pub invariant-loop-entry : goal.invariant-loop-entry
invariant-loop-entry l = record {
  events : l.events.items ++ events_in (drop l.entry-index l.log) ≡ events_in l.log;
  spelled : AllByRecursion HasSpelling l.events.items;
}
