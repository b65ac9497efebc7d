use Rattle.std.proofs.Common.{◌≡◌, ⊎_elim, length, arith}
use Rattle.run_start.proofs.Taken.{all_read}
use Rattle.run_start.proofs.reading.take_all.Goals as goal

pub returns-then-n-eq0-clause-given : goal.returns-then-n-eq0-clause-given
returns-then-n-eq0-clause-given g c = (
  c.loop-n.invariant.within,
  λ t.
      let before = c.loop-n.invariant in
      let told = c.in-Ok.ensures.told (rw before.same t) in
      let none : length (g.I.Source.left c.loop-n.source) ≡ 0 = ⊎_elim (λ empty. omega (arith, before.room)) (λ none. none) (told.ends c.if-n-eq0.true) in
      all_read _ _ _ (before.all t) none,
)
