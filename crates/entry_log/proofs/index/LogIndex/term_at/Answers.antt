use Rattle.std.proofs.Common.{◌<◌, ◌≡◌, ◌∙◌, arith, to_z, of_z, w64}
use Rattle.std.proofs.lemmas.Int.{ints}
use Rattle.entry_log.proofs.Indexed.{last_term_of-stop}
use Rattle.entry_log.proofs.index.LogIndex.term_at.Goals as goal

pub returns-else-entries-eq0 : goal.returns-else-entries-eq0
returns-else-entries-eq0 c =
    let some : 0 < c.args.entries = omega (arith, c.if-entries-eq0.false) in
    let z : to_z w64 (of_z w64 c.index.result.now.term) ≡ c.index.result.now.term = omega (arith, ints) in
    z ∙ last_term_of-stop c.self.inside.stops.items c.args.self.now c.args.entries c.index.result.now c.self.view_is some c.requires c.index.ensures
