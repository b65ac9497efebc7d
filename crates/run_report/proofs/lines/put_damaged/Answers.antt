use Rattle.std.proofs.Common.{◌++◌, codes, string_bytes}
use Rattle.std.proofs.lemmas.Result.{on_ok_weaker}
use Rattle.line_text.specs.Pieces.{newline, count}
use Rattle.line_text.proofs.Chains.{joined}
use Rattle.run_report.proofs.lines.put_damaged.Goals as goal

pub returns : goal.returns
returns c = on_ok_weaker c.put.result (λ last. joined (string_bytes c.args.page.now) (string_bytes c.put_count-3.new.page) (string_bytes c.put.new.page) (((count (codes "member ") c.args.member) ++ (count (codes " down damaged ") c.args.file)) ++ (count (codes " ") c.args.place)) (newline) (joined (string_bytes c.args.page.now) (string_bytes c.put_count-2.new.page) (string_bytes c.put_count-3.new.page) ((count (codes "member ") c.args.member) ++ (count (codes " down damaged ") c.args.file)) (count (codes " ") c.args.place) (joined (string_bytes c.args.page.now) (string_bytes c.put_count.new.page) (string_bytes c.put_count-2.new.page) (count (codes "member ") c.args.member) (count (codes " down damaged ") c.args.file) c.in_ok-put_count.ensures c.in_ok-put_count-2.ensures) c.in_ok-put_count-3.ensures) last) c.put.ensures
