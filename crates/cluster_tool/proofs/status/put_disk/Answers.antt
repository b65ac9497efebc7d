use Rattle.std.proofs.Common.{codes, string_bytes}
use Rattle.std.proofs.lemmas.Result.{on_ok_weaker}
use Rattle.line_text.specs.Pieces.{count}
use Rattle.line_text.proofs.Chains.{joined}
use Rattle.cluster_tool.proofs.status.put_disk.Goals as goal

pub returns : goal.returns
returns c = on_ok_weaker c.put.result (λ last. joined (string_bytes c.args.page.now) (string_bytes c.put_count.new.page) (string_bytes c.put.new.page) (count (codes "disk ") c.args.disk) c.args.words.now c.in_ok-put_count.ensures last) c.put.ensures
