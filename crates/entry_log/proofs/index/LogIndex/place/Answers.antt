use Rattle.std.proofs.Common.{◌<◌, ◌≡◌, ◌-◌, length, get_or, subst, List}
use Rattle.entry_log.specs.declared.index.Stop.{Stop}
use Rattle.entry_log.proofs.Indexed.{end_of-last}
use Rattle.entry_log.proofs.index.LogIndex.place.Goals as goal

pub returns-in-Some : goal.returns-in-Some
returns-in-Some c =
    let item = c.in-Some.ensures.item in
    let value = c.deref.ensures.value in
    let x = c.in-Some.stop.now in
    let some : 0 < length c.self.inside.stops.items = subst (λ (l : List Stop). 0 < length l) value item.3.0 in
    let last : x ≡ get_or c.self.inside.stops.items (length c.self.inside.stops.items - 1) x = subst (λ (l : List Stop). x ≡ get_or l (length l - 1) x) value item.1 in
    end_of-last c.self.inside.stops.items c.args.self.now x c.self.view_is c.self.invariant.ends some last
