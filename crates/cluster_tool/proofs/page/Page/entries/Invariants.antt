-- What was told so far.
use Rattle.std.proofs.Common.{take, Ok}
use Rattle.line_text.specs.Written.{Adds}
use Rattle.cluster_tool.specs.Text.{recorded_lines}
use Rattle.cluster_tool.proofs.page.Page.entries.Given as goal

abbrev pub invariant-loop-entry : goal.invariant-loop-entry
invariant-loop-entry g l = Adds {T = Unit {0}} g.O.Sink.tells g.O.Sink.held g.O.Sink.fault_count l.initial.sink l.sink l.initial.self l.self (recorded_lines (take l.entry-index l.entries)) (Ok tt)
