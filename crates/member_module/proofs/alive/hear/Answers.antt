use Rattle.std.proofs.Common.{rules, ◌≡◌, to_z, of_z, w64, sym}
use Rattle.std.proofs.lemmas.Int.{to_z-of_z}
use Rattle.std.proofs.lemmas.Iterator.{YieldsList-from_slice}
use Rattle.std.proofs.lemmas.Iterator.Search.{position_from_yields_List}
use Rattle.member_module.proofs.Hearing.{heard_at, heard_last, of_session}
use Rattle.member_module.proofs.alive.hear.Goals as goal

pub returns-in-Some-clause-ok : goal.returns-in-Some-clause-ok
returns-in-Some-clause-ok c =
    let p = position_from_yields_List (of_session c.args.session) _ _ c.position.result c.position.ensures.ran (YieldsList-from_slice c.args.alive.now.items (search rules)) (λ x b q k. search rules) in
    let same : to_z w64 (of_z w64 c.args.session) ≡ c.args.session = to_z-of_z w64 c.args.session c.ranges.session in
    rw same (sym (heard_at c.args.session c.args.now c.args.alive.now.items c.position.result c.in-Some.at p c.in-Some.is))

pub returns-in-Ok-clause-ok : goal.returns-in-Ok-clause-ok
returns-in-Ok-clause-ok c =
    let p = position_from_yields_List (of_session c.args.session) _ _ c.position.result c.position.ensures.ran (YieldsList-from_slice c.args.alive.now.items (search rules)) (λ x b q k. search rules) in
    let same : to_z w64 (of_z w64 c.args.session) ≡ c.args.session = to_z-of_z w64 c.args.session c.ranges.session in
    rw (heard_last c.args.session c.args.now c.args.alive.now.items c.position.result p c.in-None.is) (simp same at c.in-Ok.ensures.items)
