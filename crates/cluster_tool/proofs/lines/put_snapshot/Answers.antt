use Rattle.std.proofs.Common.{string_bytes}
use Rattle.std.proofs.lemmas.Result.{on_ok_weaker}
use Rattle.cluster_tool.specs.Text.{snapshot_front, snapshot_back}
use Rattle.line_text.proofs.Chains.{joined}
use Rattle.cluster_tool.proofs.lines.put_snapshot.Goals as goal

pub returns : goal.returns
returns c =
    on_ok_weaker c.put_snapshot_back.result (λ last. joined (string_bytes c.args.page.now) (string_bytes c.put_snapshot_front.new.page) (string_bytes c.put_snapshot_back.new.page) (snapshot_front c.args.entry.now) (snapshot_back c.args.entry.now)
    c.in_ok-put_snapshot_front.ensures last) c.put_snapshot_back.ensures
