-- What was told so far.
use Rattle.std.proofs.Common.{take, Ok}
use Rattle.line_text.specs.Written.{Adds}
use Rattle.run_report.specs.Text.{record_lines}
use Rattle.run_report.proofs.page.Page.records.Given as goal

abbrev pub invariant-loop-record : goal.invariant-loop-record
invariant-loop-record g l = Adds {T = Unit {0}} g.O.Sink.tells g.O.Sink.held g.O.Sink.fault_count l.initial.sink l.sink l.initial.self l.self (record_lines (take l.record-index l.sent)) (Ok tt)
