-- All that a run writes, as its world has it.
use Rattle.std.specs.Prelude.{List, ◌++◌, ℕ, drop, length, codes}
use Rattle.std.specs.List.{flat_map}
use Rattle.line_text.specs.Pieces.{newline}
use Rattle.scenario.specs.declared.order.Order.{Order}
use Rattle.echo_run.specs.Text.{order_line, entry_lines, log_text, inputs_text, streams_from, member_line}
use Rattle.echo_run.specs.World.{World, world_after}

-- The one member never loses an entry, so the printed log is the front of its own. Behind it stand these.
abbrev pub own_text : World → List ℕ
own_text w = entry_lines (codes "own") (length w.printed) (drop (length w.printed) w.member.log)

abbrev pub member_text : World → List ℕ
member_text w = member_line w.member.election.candidate (length w.member.log) (length w.printed) w.member.commit ++ own_text w

abbrev pub last_line : List ℕ
last_line = codes "done" ++ newline

-- the orders that were answered, the log, the service's inputs, the 64 clients' streams and the member
abbrev pub text_of : World → List ℕ
text_of w = flat_map order_line w.told ++ log_text w.printed ++ inputs_text w.inputs ++ streams_from 64 0 w.sent ++ member_text w ++ last_line

unfoldable pub run_text : List Order → List ℕ
run_text orders = text_of (world_after orders)
