-- What was told so far.
use Rattle.std.proofs.Common.{take, Ok}
use Rattle.line_text.specs.Written.{Adds}
use Rattle.run_report.specs.Text.{entry_lines}
use Rattle.run_report.proofs.page.Page.entries.Given as goal

abbrev pub invariant-loop-i : goal.invariant-loop-i
invariant-loop-i g l = Adds {T = Unit {0}} g.O.Sink.tells g.O.Sink.held g.O.Sink.fault_count l.initial.sink l.sink l.initial.self l.self (entry_lines l.kind l.first (take l.i l.entries)) (Ok tt)
