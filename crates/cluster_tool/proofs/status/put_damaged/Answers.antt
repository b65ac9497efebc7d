use Rattle.std.proofs.Common.{◌++◌, codes, string_bytes}
use Rattle.std.proofs.lemmas.Result.{on_ok_weaker}
use Rattle.line_text.specs.Pieces.{count}
use Rattle.line_text.proofs.Chains.{joined}
use Rattle.cluster_tool.proofs.status.put_damaged.Goals as goal

pub returns : goal.returns
returns c =
    let before = string_bytes c.args.page.now in
    let one = string_bytes c.put_count.new.page in
    let two = string_bytes c.put_count-2.new.page in
    let three = string_bytes c.put_count-3.new.page in
    let first = count (codes "damaged ") c.args.disk in
    let second = count (codes " ") c.args.file in
    let third = count (codes " ") c.args.place in
    on_ok_weaker c.put.result (λ last. joined before three (string_bytes c.put.new.page) ((first ++ second) ++ third) (codes "\n")
    (joined before two three (first ++ second) third (joined before one two first second c.in_ok-put_count.ensures c.in_ok-put_count-2.ensures) c.in_ok-put_count-3.ensures) last) c.put.ensures
