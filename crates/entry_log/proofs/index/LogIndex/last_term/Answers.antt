use Rattle.std.proofs.Common.{◌<◌, ◌≡◌, ◌-◌, ◌∙◌, length, get_or, subst, List, arith, to_z, of_z, w64}
use Rattle.std.proofs.lemmas.Int.{ints}
use Rattle.entry_log.specs.declared.index.Stop.{Stop}
use Rattle.entry_log.proofs.Indexed.{last_term_of-last}
use Rattle.entry_log.proofs.index.LogIndex.last_term.Goals as goal

pub returns-in-Some : goal.returns-in-Some
returns-in-Some c =
    let item = c.in-Some.ensures.item in
    let value = c.deref.ensures.value in
    let x = c.in-Some.stop.now in
    let some : 0 < length c.self.inside.stops.items = subst (λ (l : List Stop). 0 < length l) value item.3.0 in
    let last : x ≡ get_or c.self.inside.stops.items (length c.self.inside.stops.items - 1) x = subst (λ (l : List Stop). x ≡ get_or l (length l - 1) x) value item.1 in
    let z : to_z w64 (of_z w64 x.term) ≡ x.term = omega (arith, ints) in
    z ∙ last_term_of-last c.self.inside.stops.items c.args.self.now x c.self.view_is some last
