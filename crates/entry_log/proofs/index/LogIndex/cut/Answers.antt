use Rattle.std.proofs.Common.{sym, ap, ◌∙◌, take}
use Rattle.std.proofs.lemmas.List.{take-map}
use Rattle.entry_log.specs.Shape.{Shape}
use Rattle.entry_log.specs.Index.{stop_shape, shape_at}
use Rattle.entry_log.proofs.Indexed.{IsIndexed-take}
use Rattle.entry_log.proofs.index.LogIndex.cut.Goals as goal

pub invariant_of-self : goal.invariant_of-self
invariant_of-self c = rw c.truncate.ensures.items (IsIndexed-take c.self.inside.stops.items c.args.entries c.self.invariant)

pub returns : goal.returns
returns c =
    ap shape_at c.truncate.ensures.items ∙ sym (take-map stop_shape c.args.entries c.self.inside.stops.items) ∙ ap (λ (s : Shape). take c.args.entries s) c.self.view_is
