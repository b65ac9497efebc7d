use Rattle.std.proofs.Common.{◌≡◌, ◌++◌, take, string_bytes}
use Rattle.std.specs.List.{flat_map}
use Rattle.echo_run.specs.Text.{record_line, records_on}
use Rattle.echo_run.proofs.streams.put_records.Given as goal

abbrev pub invariant-loop-s : goal.invariant-loop-s
invariant-loop-s l = string_bytes l.page ≡ string_bytes l.initial.page ++ flat_map record_line (records_on l.stream (take l.s-index l.sent))
