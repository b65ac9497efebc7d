-- What was told so far.
use Rattle.std.proofs.Common.{take, Ok}
use Rattle.line_text.specs.Written.{Adds}
use Rattle.run_report.specs.Text.{set_lines}
use Rattle.run_report.proofs.page.Page.sets.Given as goal

abbrev pub invariant-loop-set : goal.invariant-loop-set
invariant-loop-set g l = Adds {T = Unit {0}} g.O.Sink.tells g.O.Sink.held g.O.Sink.fault_count l.initial.sink l.sink l.initial.self l.self (set_lines (take l.set-index l.sets)) (Ok tt)
