-- What was told so far.
use Rattle.std.proofs.Common.{take, Ok}
use Rattle.line_text.specs.Written.{Adds}
use Rattle.run_report.specs.Text.{got_lines}
use Rattle.run_report.proofs.page.Page.handed.Given as goal

abbrev pub invariant-loop-got : goal.invariant-loop-got
invariant-loop-got g l = Adds {T = Unit {0}} g.O.Sink.tells g.O.Sink.held g.O.Sink.fault_count l.initial.sink l.sink l.initial.self l.self (got_lines (take l.got-index l.messages)) (Ok tt)
