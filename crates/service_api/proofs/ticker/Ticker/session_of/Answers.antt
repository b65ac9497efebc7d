use Rattle.std.proofs.Common.{ap, ◌∙◌, ℤ, w64}
use Rattle.std.proofs.lemmas.Int.{to_z-of_z}
use Rattle.service_api.specs.Ticker.{Ids, session_of}
use Rattle.service_api.proofs.ticker.Ticker.session_of.Goals as goal

pub returns : goal.returns
returns c =
    c.copied.ensures ∙ c.get.ensures.value
    ∙ ap (session_of c.self.inside.ids.entries) (to_z-of_z w64 c.args.id c.ranges.id)
    ∙ ap (λ (ids : Ids). session_of ids c.args.id) c.self.view_is
