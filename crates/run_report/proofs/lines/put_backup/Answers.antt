use Rattle.std.proofs.Common.{◌++◌, codes, string_bytes}
use Rattle.std.proofs.lemmas.Result.{on_ok_weaker}
use Rattle.line_text.specs.Pieces.{newline, count}
use Rattle.line_text.proofs.Chains.{joined}
use Rattle.run_report.proofs.lines.put_backup.Goals as goal

pub returns : goal.returns
returns c =
    let before = string_bytes c.args.page.now in
    let one = string_bytes c.put_count.new.page in
    let two = string_bytes c.put_count-2.new.page in
    let three = string_bytes c.put_count-3.new.page in
    let entries = count (codes "backup entries ") c.args.end.entries in
    let same = count (codes " same ") c.args.end.same in
    let sets = count (codes " snapshots ") c.args.sets in
    on_ok_weaker c.put.result (λ last.
    joined before three (string_bytes c.put.new.page) ((entries ++ same) ++ sets) newline
    (joined before two three (entries ++ same) sets
    (joined before one two entries same c.in_ok-put_count.ensures c.in_ok-put_count-2.ensures) c.in_ok-put_count-3.ensures) last) c.put.ensures
