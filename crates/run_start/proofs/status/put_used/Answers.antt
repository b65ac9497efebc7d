use Rattle.std.proofs.Common.{◌++◌, codes, string_bytes}
use Rattle.std.proofs.lemmas.Result.{on_ok_weaker}
use Rattle.line_text.specs.Pieces.{count}
use Rattle.line_text.proofs.Chains.{joined}
use Rattle.run_start.proofs.status.put_used.Goals as goal

pub returns : goal.returns
returns c =
    let before = string_bytes c.args.page.now in
    let one = string_bytes c.put_count.new.page in
    let two = string_bytes c.put_count-2.new.page in
    let first = count (codes "disk ") c.args.member in
    let second = count (codes ": file ") c.args.file in
    on_ok_weaker c.put.result (λ last. joined before two (string_bytes c.put.new.page) (first ++ second) (codes " is not empty\n")
    (joined before one two first second c.in_ok-put_count.ensures c.in_ok-put_count-2.ensures) last) c.put.ensures
