use Rattle.std.proofs.Common.{◌≤◌, ◌^◌, sym, subst}
use Rattle.member_disk.specs.Changes.{AreNewRanged}
use Rattle.member_disk.proofs.NewTerms.{new_terms_ranged, base_ranged}
use Rattle.member_disk.proofs.durable.Durable.base_of.Goals as goal

pub returns-clause-range : goal.returns-clause-range
returns-clause-range c =
    let each = subst AreNewRanged (sym c.terms.ensures) (new_terms_ranged 0 c.self.inside.log c.index.ensures.sound.events) in
    subst (λ n. n ≤ 2 ^ 62) (sym c.base_in.ensures) (base_ranged _ c.terms.result.now each)
