use Rattle.std.proofs.Common.{◌≡◌, ◌++◌, drop}
use Rattle.module_state.specs.Due.{closes_due}
use Rattle.module_state.proofs.due.add_closes.Given as goal

abbrev pub invariant-loop-place : goal.invariant-loop-place
invariant-loop-place l = l.found ++ closes_due l.consumed.table l.alive l.moment.term l.moment.now l.moment.since (drop l.place l.tentative.table.listed) ≡ l.initial.found ++ closes_due l.consumed.table l.alive l.moment.term l.moment.now l.moment.since l.tentative.table.listed
