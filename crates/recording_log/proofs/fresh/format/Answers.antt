use Rattle.std.proofs.Common.{replicate}
use Rattle.recording_log.proofs.ListLemmas.{zeros_hold, fresh_is}
use Rattle.recording_log.proofs.fresh.format.Goals as goal

pub returns-in-Ok-clause-done : goal.returns-in-Ok-clause-done
returns-in-Ok-clause-done g c told none = fresh_is _ (replicate 64 0) ((g.D.Disk.state c.args.disk.now).files 1).reads none zeros_hold (c.in-Ok.ensures.done told).changed
