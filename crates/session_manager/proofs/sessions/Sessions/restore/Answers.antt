use Rattle.std.proofs.Common.{◌≡◌, ◌∷◌, ◌++◌, [], ◌<ℤ◌, List, ap, sym, ◌∙◌, subst, rules, FitsSigned, w64}
use Rattle.std.specs.List.{AllByRecursion}
use Rattle.std.proofs.lemmas.Int.{to_z-of_z}
use Rattle.session_manager.specs.declared.session.Session.{Session}
use Rattle.session_manager.specs.Sessions.{SessionTable, SessionsSeen, with_last}
use Rattle.session_manager.specs.Kept.{IsKept, Pairs, under}
use Rattle.session_manager.proofs.KeptLaws.{opened_list}
use Rattle.session_manager.proofs.RestoreLaws.{restored_kept}
use Rattle.session_manager.proofs.sessions.Sessions.restore.Goals as goal

pushed : (c : goal.After-push_reserved) → c.push_reserved.new.self.items ≡ c.self.inside.order.items ++ (c.args.s.id, c.insert_reserved-key.result) ∷ []
pushed c = let i : FitsSigned w64 c.args.s.id = search rules in simp to_z-of_z at c.push_reserved.ensures.items

same : (c : goal.After-push_reserved) → (let t : SessionTable = record { listed = under c.self.inside.slab c.self.inside.order.items; next_id = c.self.inside.next_id } in t) ≡ c.args.self.now.table
same c = ap (λ (v : SessionsSeen). v.table) c.self.view_is ∙ c.in_ok-reserve.ensures.table

pub invariant_of-self : goal.invariant_of-self
invariant_of-self c =
    let above = subst (λ (t : SessionTable). AllByRecursion (λ (r : Session). r.id <ℤ c.args.s.id) t.listed) (sym (same c)) c.requires.above in
    let below = subst (λ (t : SessionTable). c.args.s.id <ℤ t.next_id) (sym (same c)) c.requires.below in
    subst (λ (l : Pairs). IsKept c.insert_reserved-key.new.self l c.self.inside.next_id) (sym (pushed c))
    (restored_kept c.insert_reserved-key.result c.args.s c.self.inside.slab c.insert_reserved-key.new.self c.self.inside.order.items c.self.inside.next_id c.self.invariant above below c.insert_reserved-key.ensures.updates c.insert_reserved-key.ensures.was_vacant)

pub returns-clause-ok : goal.returns-clause-ok
returns-clause-ok c =
    ap (λ (l : Pairs). let t : SessionTable = record { listed = under c.insert_reserved-key.new.self l; next_id = c.self.inside.next_id } in t) (pushed c)
    ∙ ap (λ (x : List Session). let t : SessionTable = record { listed = x; next_id = c.self.inside.next_id } in t) (opened_list c.insert_reserved-key.result c.args.s c.self.inside.slab c.insert_reserved-key.new.self c.self.inside.order.items c.self.invariant.own c.insert_reserved-key.ensures.updates c.insert_reserved-key.ensures.was_vacant)
    ∙ ap (with_last c.args.s) (same c)
