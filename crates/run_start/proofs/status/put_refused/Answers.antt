use Rattle.std.proofs.Common.{◌++◌, codes, string_bytes}
use Rattle.std.proofs.lemmas.Result.{on_ok_weaker}
use Rattle.scenario.specs.Causes.{cause_text}
use Rattle.line_text.specs.Pieces.{count}
use Rattle.line_text.proofs.Chains.{joined}
use Rattle.run_start.proofs.status.put_refused.Goals as goal

pub returns : goal.returns
returns c =
    let before = string_bytes c.args.page.now in
    let one = string_bytes c.put_count.new.page in
    let two = string_bytes c.put.new.page in
    let three = string_bytes c.put_cause.new.page in
    let first = count (codes "refused line ") c.args.line in
    let cause = cause_text c.args.cause in
    on_ok_weaker c.put-2.result (λ last. joined before three (string_bytes c.put-2.new.page) ((first ++ codes ": ") ++ cause) (codes "\n")
    (joined before two three (first ++ codes ": ") cause (joined before one two first (codes ": ") c.in_ok-put_count.ensures c.in_ok-put.ensures) c.in_ok-put_cause.ensures) last) c.put-2.ensures
