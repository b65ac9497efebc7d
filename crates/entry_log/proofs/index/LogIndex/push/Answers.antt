use Rattle.std.proofs.Common.{◌≡◌, ◌∙◌, ap, sym, subst, arith, to_z, of_z, w64, ◌≤ℤ◌, List, ℤ}
use Rattle.std.proofs.lemmas.Int.{ints}
use Rattle.entry_log.specs.Log.{end_after}
use Rattle.entry_log.specs.Shape.{end_of, last_term_of}
use Rattle.entry_log.specs.Index.{IsIndexed}
use Rattle.entry_log.specs.declared.index.Stop.{Stop}
use Rattle.entry_log.proofs.Indexed.{IsIndexed-push}
use Rattle.entry_log.proofs.index.LogIndex.push.Goals as goal
use Rattle.entry_log.proofs.index.LogIndex.push.Goals.{in-Ok, in-Err}

pub invariant_of-self : goal.invariant_of-self
invariant_of-self c =
    let z : to_z w64 (of_z w64 c.args.term) ≡ c.args.term = omega (arith, ints) in
    let ends : c.end_after-end.result ≡ end_after (end_of c.args.self.now) c.args.event_len = c.end_after-end.ensures.end ∙ ap (λ p. end_after p c.args.event_len) c.place.ensures in
    let rises : last_term_of c.args.self.now ≤ℤ to_z w64 (of_z w64 c.args.term) = subst (λ (t : ℤ). last_term_of c.args.self.now ≤ℤ t) (sym z) c.requires.term in
    elim c.match-push.branch [
      | in-Ok w ↦ rw w.in-Ok.ensures.items (IsIndexed-push c.self.inside.stops.items c.args.self.now _ c.self.view_is c.self.invariant ends rises)
      | in-Err w ↦ subst (λ (l : List Stop). IsIndexed l) (sym w.in-Err.ensures.items) c.self.invariant
    ]
