-- What lies outside the range stays.
use Rattle.std.proofs.Common.{inl, inr, ⊎_elim, arith}
use Rattle.std.proofs.lemmas.Bool.{cases_lt}
use Rattle.cl_memdisk.proofs.paint.fill.Goals as goal

pub returns-clause-outside : goal.returns-clause-outside
returns-clause-outside c k apart = ⊎_elim
    (λ below. c.loop-i.invariant.outside k (inl below))
    (λ above. elim (cases_lt k c.loop-i.i) [
      | inl before ↦ c.loop-i.invariant.outside k (inl (omega (arith, above, before, c.min-i-end.ensures, c.loop-i.invariant.at_most)))
      | inr behind ↦ c.loop-i.invariant.outside k (inr behind)
    ])
    apart
