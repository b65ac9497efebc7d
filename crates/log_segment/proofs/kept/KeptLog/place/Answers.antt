use Rattle.std.proofs.Common.{◌≡◌, ◌%◌, ◌≤◌, sym, ◌∙◌, ap, subst}
use Rattle.entry_log.specs.Log.{Log, place}
use Rattle.entry_log.specs.Shape.{end_of, end_from-shape_of}
use Rattle.log_segment.specs.Kept.{values}
use Rattle.log_segment.proofs.KeepLemmas.{held_aligned}
use Rattle.log_segment.proofs.kept.KeptLog.place.Goals as goal

pub returns-clause-place : goal.returns-clause-place
returns-clause-place c = c.place.ensures ∙ ap end_of c.self.invariant.0 ∙ end_from-shape_of 0 (values c.self.inside.entries.items) ∙ ap (λ (l : Log). place l) c.self.view_is

pub returns-clause-high : goal.returns-clause-high
returns-clause-high c = subst (λ p. p ≤ 16777216) (sym (c.place.ensures ∙ ap end_of c.self.invariant.0 ∙ end_from-shape_of 0 (values c.self.inside.entries.items))) c.self.invariant.1.room

pub returns-clause-whole : goal.returns-clause-whole
returns-clause-whole c = subst (λ p. p % 32 ≡ 0) (sym (c.place.ensures ∙ ap end_of c.self.invariant.0 ∙ end_from-shape_of 0 (values c.self.inside.entries.items))) (held_aligned (values c.self.inside.entries.items) c.self.invariant.1)
