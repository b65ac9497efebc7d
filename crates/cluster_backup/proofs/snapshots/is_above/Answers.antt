use Rattle.std.proofs.Common.{◌≡◌, sym, ◌∙◌}
use Rattle.cluster_backup.proofs.Bringing.{above_some, above_none}
use Rattle.cluster_backup.proofs.snapshots.is_above.Goals as goal

pub returns-in-Some : goal.returns-in-Some
returns-in-Some c = λ kept latest. above_some kept c.args.latest c.in-Some.other c.args.position c.in-Some.is latest

pub returns-in-None : goal.returns-in-None
returns-in-None c = λ kept latest. above_none kept c.args.latest c.args.position c.in-None.is latest
