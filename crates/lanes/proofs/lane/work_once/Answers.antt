use Rattle.std.proofs.Common.{◌∙◌, ap}
use Rattle.lanes.proofs.Moves.{takes, gives, gives_into}
use Rattle.lanes.proofs.lane.work_once.Goals as goal

pub try_pop_as-requires-clause-rule : goal.try_pop_as-requires-clause-rule
try_pop_as-requires-clause-rule g c = takes _ _ c.requires.works

pub push_as-requires-clause-rule : goal.push_as-requires-clause-rule
push_as-requires-clause-rule g c =
    let rule = c.in-Some.ensures.rule in
    let works = ap (λ v. v.works) rule ∙ c.requires.works in
    let has = ap (λ v. v.has) rule in
    (gives _ _ _ c.in-Some.message c.answer-back.result works has c.answer-back.ensures, gives_into _ _ c.in-Some.message c.answer-back.result works has c.answer-back.ensures)
