use Rattle.node_state.proofs.FreshLemmas.{fresh_bytes, fresh_tells, fresh_is}
use Rattle.node_state.proofs.fresh.format.Goals as goal

pub returns-in-Ok-clause-done : goal.returns-in-Ok-clause-done
returns-in-Ok-clause-done g c told none = fresh_is _ fresh_bytes ((g.D.Disk.state c.args.disk.now).files 0).reads none fresh_tells (c.in-Ok.ensures.done told).changed
