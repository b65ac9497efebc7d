use Rattle.std.proofs.Common.{◌++◌, codes, string_bytes}
use Rattle.std.proofs.lemmas.Result.{on_ok_weaker}
use Rattle.line_text.specs.Pieces.{newline, count}
use Rattle.line_text.proofs.Chains.{joined}
use Rattle.run_report.proofs.lines.put_unread.Goals as goal

pub returns : goal.returns
returns c = on_ok_weaker c.put-2.result (λ last. joined (string_bytes c.args.page.now) (string_bytes c.put.new.page) (string_bytes c.put-2.new.page) ((count (codes "member ") c.args.member) ++ (codes " down unread")) (newline) (joined (string_bytes c.args.page.now) (string_bytes c.put_count.new.page) (string_bytes c.put.new.page) (count (codes "member ") c.args.member) (codes " down unread") c.in_ok-put_count.ensures c.in_ok-put.ensures) last) c.put-2.ensures
