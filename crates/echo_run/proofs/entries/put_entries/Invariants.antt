use Rattle.std.proofs.Common.{◌≡◌, ◌+◌, ◌++◌, drop, string_bytes}
use Rattle.echo_run.specs.Text.{entry_lines}
use Rattle.echo_run.proofs.entries.put_entries.Given as goal

abbrev pub invariant-loop-i : goal.invariant-loop-i
invariant-loop-i l = string_bytes l.page ++ entry_lines l.word (l.first + l.i) (drop l.i l.entries) ≡ string_bytes l.initial.page ++ entry_lines l.word l.first l.entries
