use Rattle.std.proofs.Common.{rules, ◌≡◌, [], ◌++◌, take, drop, length, vec_len, sym, ap, ◌∙◌, subst, arith}
use Rattle.service_phases.specs.Pairs.{Each}
use Rattle.service_phases.specs.Phases.{MayServe}
use Rattle.lanes.proofs.Lists.{none_left, none_kept, all_back}
use Rattle.lanes.proofs.member.Lanes.take_back.Goals as goal

pub invariant_of-self : goal.invariant_of-self
invariant_of-self g c =
    let empty : c.replace-jobs.new.dest.items ≡ [] = search rules in
    let len : vec_len c.replace-jobs.new.dest ≡ 0 = search rules in
    let seen : c.as_mut_slice.result.now ≡ c.self.inside.lanes.items = search rules in
    let n : c.self.inside.lanes.len ≡ length c.self.inside.lanes.items = search rules in
    let none = none_left c.self.inside.lanes.len c.self.inside.lanes.items c.take_each.new.lanes n (c.take_each.ensures.len ∙ ap length seen) c.take_each.ensures.idle in
    (subst (Each MayServe) (sym empty) tt, omega (arith, len, ap length none))

pub returns-clause-ran : goal.returns-clause-ran
returns-clause-ran g c =
    let was : c.replace-jobs.result.items ≡ c.self.inside.jobs.items = search rules in
    let seen : c.as_mut_slice.result.now ≡ c.self.inside.lanes.items = search rules in
    all_back c.self.inside.jobs.items _ _ _ _ _ c.self.inside.lanes.items _ c.self.view_is was seen c.run_each.ensures.ran c.take_each.ensures.ran c.from_vec.ensures

pub returns-clause-none : goal.returns-clause-none
returns-clause-none g c =
    let empty : c.replace-jobs.new.dest.items ≡ [] = search rules in
    let seen : c.as_mut_slice.result.now ≡ c.self.inside.lanes.items = search rules in
    let n : c.self.inside.lanes.len ≡ length c.self.inside.lanes.items = search rules in
    let new = c.take_each.new.lanes in
    let old = c.self.inside.lanes.items in
    none_kept c.replace-jobs.new.dest.items (take c.self.inside.lanes.len (new ++ drop (length new) old)) empty (none_left c.self.inside.lanes.len old new n (c.take_each.ensures.len ∙ ap length seen) c.take_each.ensures.idle)
