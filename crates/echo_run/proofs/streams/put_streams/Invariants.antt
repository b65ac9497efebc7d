use Rattle.std.proofs.Common.{◌≡◌, ◌-◌, ◌++◌, string_bytes}
use Rattle.echo_run.specs.Text.{streams_from}
use Rattle.echo_run.proofs.streams.put_streams.Given as goal

abbrev pub invariant-loop-stream : goal.invariant-loop-stream
invariant-loop-stream l = string_bytes l.page ++ streams_from (64 - l.stream) l.stream l.sent ≡ string_bytes l.initial.page ++ streams_from 64 0 l.sent
