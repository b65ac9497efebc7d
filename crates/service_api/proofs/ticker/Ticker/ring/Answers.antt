use Rattle.std.proofs.Common.{◌≡◌, None, append-nil, sym, ◌∙◌}
use Rattle.std.proofs.lemmas.Int.{to_z-of_z}
use Rattle.service_api.specs.Ticker.{session_of}
use Rattle.service_api.proofs.ticker.Ticker.ring.Goals as goal

pub returns-in-None-clause-outputs : goal.returns-in-None-clause-outputs
returns-in-None-clause-outputs c =
    let fits = c.ranges.id in
    let is = simp to_z-of_z at c.session_of.ensures in
    let none : session_of c.args.self.now c.args.id ≡ None = sym is ∙ c.in-None.is in
    rw none (sym (append-nil _))
