use Rattle.entry_log.proofs.Indexed.{lens_of-stop}
use Rattle.entry_log.proofs.index.LogIndex.event_len.Goals as goal

pub returns : goal.returns
returns c = lens_of-stop c.self.inside.stops.items c.args.self.now c.args.entry c.index.result.now c.self.view_is c.requires c.index.ensures
