use Rattle.std.proofs.Common.{◌≡◌, ◌++◌, drop}
use Rattle.module_state.specs.Due.{messages_due}
use Rattle.module_state.proofs.due.add_messages.Given as goal

abbrev pub invariant-loop-service : goal.invariant-loop-service
invariant-loop-service l = l.found ++ messages_due l.moment.term l.moment.now l.service (drop l.service l.pending) ≡ l.initial.found ++ messages_due l.moment.term l.moment.now 0 l.pending
