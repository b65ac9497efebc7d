use Rattle.std.proofs.Common.{◌++◌, codes, string_bytes}
use Rattle.std.proofs.lemmas.Result.{on_ok_weaker}
use Rattle.line_text.specs.Pieces.{newline, count}
use Rattle.run_report.specs.Text.{commit_text}
use Rattle.line_text.proofs.Chains.{joined}
use Rattle.run_report.proofs.lines.put_member_back.Goals as goal

pub returns : goal.returns
returns c =
    let before = string_bytes c.args.page.now in
    let one = string_bytes c.put.new.page in
    let two = string_bytes c.put_commit.new.page in
    let three = string_bytes c.put_count.new.page in
    on_ok_weaker c.put-2.result (λ last.
    joined before three (string_bytes c.put-2.new.page) ((codes " commit " ++ commit_text c.args.commit) ++ count (codes " snapshots ") c.args.sets) newline
    (joined before two three (codes " commit " ++ commit_text c.args.commit) (count (codes " snapshots ") c.args.sets)
    (joined before one two (codes " commit ") (commit_text c.args.commit) c.in_ok-put.ensures c.in_ok-put_commit.ensures) c.in_ok-put_count.ensures) last) c.put-2.ensures
