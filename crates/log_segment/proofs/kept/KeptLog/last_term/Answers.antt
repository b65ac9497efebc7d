use Rattle.std.proofs.Common.{◌≡◌, negsuc, to_z, of_z, w64, arith, ◌∙◌, ap}
use Rattle.std.proofs.lemmas.Int.{ints}
use Rattle.entry_log.specs.Log.{Log, last}
use Rattle.entry_log.specs.Shape.{last_term_of, last_term_from-shape_of}
use Rattle.log_segment.specs.Kept.{values}
use Rattle.log_segment.proofs.kept.KeptLog.last_term.Goals as goal

pub returns : goal.returns
returns c =
    let z : to_z w64 (of_z w64 c.last_term.result) ≡ c.last_term.result = omega (arith, ints) in
    z ∙ c.last_term.ensures ∙ ap last_term_of c.self.invariant.0 ∙ last_term_from-shape_of (negsuc 0) (values c.self.inside.entries.items) ∙ ap (λ (l : Log). last l) c.self.view_is
