use Rattle.std.proofs.Common.{◌≡◌, ◌<◌, ◌<ℤ◌, List, Some, ap, sym, ◌∙◌, subst, option_copied}
use Rattle.std.specs.List.{AllByRecursion}
use Rattle.session_manager.specs.declared.session.Session.{Session}
use Rattle.session_manager.specs.Sessions.{SessionTable, SessionsSeen, IsOrdered, session_at, with_last}
use Rattle.session_manager.proofs.RestoreLaws.{kept_ordered, above_front, all_at, front_more, is_there}
use Rattle.session_manager.proofs.sessions.Sessions.copy.Goals as goal
use Rattle.session_manager.proofs.sessions.Sessions.copy.Goals.{in-Some+in_ok-copy+in_ok-restore, in_default}

ordered : (c : goal.In_ok-copy) → IsOrdered c.args.self.now.table
ordered c = subst (λ (v : SessionsSeen). IsOrdered v.table) c.self.view_is (kept_ordered c.self.inside.slab c.self.inside.order.items c.self.inside.next_id c.self.invariant)

found : (c : goal.In_ok-copy) → session_at c.args.self.now.table.listed c.loop-place.place ≡ Some c.in_ok-copy.field-0
found c = sym c.at.ensures ∙ ap option_copied c.in-Some.is ∙ ap (λ (s : Session). Some s) (sym c.in_ok-copy.ensures)

pub restore-requires-clause-above : goal.restore-requires-clause-above
restore-requires-clause-above c =
    subst (λ (t : SessionTable). AllByRecursion (λ (r : Session). r.id <ℤ c.in_ok-copy.field-0.id) t.listed) (sym c.loop-place.invariant)
    (above_front c.args.self.now.table.listed c.loop-place.place c.in_ok-copy.field-0 (ordered c).rise (found c))

pub restore-requires-clause-below : goal.restore-requires-clause-below
restore-requires-clause-below c =
    subst (λ (t : SessionTable). c.in_ok-copy.field-0.id <ℤ t.next_id) (sym c.loop-place.invariant)
    (all_at (λ (s : Session). s.id <ℤ c.args.self.now.table.next_id) c.args.self.now.table.listed c.loop-place.place c.in_ok-copy.field-0 (ordered c).below (found c))

pub loop-place-preserved : goal.loop-place-preserved
loop-place-preserved c = elim c.match-at.branch [
  | in-Some+in_ok-copy+in_ok-restore w ↦
      let found : session_at c.args.self.now.table.listed c.loop-place.place ≡ Some w.in_ok-copy.field-0 = sym c.at.ensures ∙ ap option_copied w.in-Some.is ∙ ap (λ (s : Session). Some s) (sym w.in_ok-copy.ensures) in
      ap (λ (v : SessionsSeen). v.table) w.copies-is ∙ w.in_ok-restore.ensures.ok ∙ ap (with_last w.in_ok-copy.field-0) c.loop-place.invariant
      ∙ ap (λ (l : List Session). let t : SessionTable = record { listed = l; next_id = c.args.self.now.table.next_id } in t) (front_more c.args.self.now.table.listed c.loop-place.place w.in_ok-copy.field-0 found)
  | in_default w ↦
      let test = c.loop-place-test.true in
      absurd (is_there c.args.self.now.table.listed c.loop-place.place (subst (λ n. c.loop-place.place < n) c.open_count-place-end.ensures test) (sym c.at.ensures ∙ ap option_copied w.in_default.is))
]
