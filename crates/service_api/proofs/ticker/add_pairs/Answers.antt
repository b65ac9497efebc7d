use Rattle.std.proofs.Common.{rules, w64, FitsSigned}
use Rattle.std.proofs.lemmas.Int.{to_z-of_z}
use Rattle.service_api.specs.TickerLaws.{pairs_more}
use Rattle.service_api.proofs.ticker.add_pairs.Goals as goal

pub loop-pair-preserved : goal.loop-pair-preserved
loop-pair-preserved c =
    let id : FitsSigned w64 c.in-Some.pair.0.now = search rules in
    let session : FitsSigned w64 c.in-Some.pair.1.now = search rules in
    let a = simp to_z-of_z at c.in_ok-add_i64.ensures in
    let b = simp to_z-of_z at c.in_ok-add_i64-2.ensures in
    let goes = c.in-Some.ensures.steps in
    rw (b, a) (pairs_more _ _ _ _ _ goes c.loop-pair.invariant)
