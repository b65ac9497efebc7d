use Rattle.std.proofs.Common.{◌<◌, arith}
use Rattle.entry_log.proofs.Indexed.{end_of-stop}
use Rattle.entry_log.proofs.index.LogIndex.end_at.Goals as goal

pub returns-else-entries-eq0 : goal.returns-else-entries-eq0
returns-else-entries-eq0 c =
    let some : 0 < c.args.entries = omega (arith, c.if-entries-eq0.false) in
    end_of-stop c.self.inside.stops.items c.args.self.now c.args.entries c.index.result.now c.self.view_is c.self.invariant.ends some c.requires c.index.ensures
