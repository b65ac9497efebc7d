use Rattle.std.proofs.Common.{◌≡◌, ◌<◌, ◌++◌, ℤ, pos, get_or, drop, ◌+◌, filter, length, FitsSigned, w64, rules, sym, subst, ◌∙◌}
use Rattle.std.proofs.lemmas.Int.{to_z-of_z}
use Rattle.std.proofs.lemmas.List.{get_or_default}
use Rattle.module_state.specs.Due.{is_quiet, rings_of}
use Rattle.module_state.proofs.LoopLaws.{not_no, not_yes, rings_yes, rings_no}
use Rattle.module_state.proofs.due.add_rings.Goals as goal
use Rattle.module_state.proofs.due.add_rings.Goals.{then-not-has_rung+in_ok-add_ring, else-not-has_rung}

pub loop-timer-preserved : goal.loop-timer-preserved
loop-timer-preserved c =
    let items = c.as_slice-timer-items.result.now in
    let test : c.loop-timer.timer-index < length items = c.loop-timer-test.true in
    let a : ℤ × ℤ = get_or items c.loop-timer.timer-index (pos 0, pos 0) in
    let same : get_or items c.loop-timer.timer-index a ≡ a = get_or_default items c.loop-timer.timer-index a (pos 0, pos 0) test in
    let f : FitsSigned w64 a.0 = search rules in
    let g : FitsSigned w64 c.args.moment.term = search rules in
    let rung = simp to_z-of_z at c.has_rung.ensures in
    elim c.if-not-has_rung.branch [
      | then-not-has_rung+in_ok-add_ring w ↦
          let pushed = simp to_z-of_z at w.in_ok-add_ring.ensures in
          rings_yes c.args.moment.term c.args.moment.now c.args.ahead.now items c.loop-timer.timer-index a c.loop-timer.found c.if-not-has_rung.found
          (c.args.found.now ++ rings_of c.args.moment.term c.args.moment.now (filter (is_quiet c.args.ahead.now) items)) test same
          (not_no (is_quiet c.args.ahead.now a) (sym rung ∙ w.if-not-has_rung.true)) (w.found-is ∙ pushed) c.loop-timer.invariant
      | else-not-has_rung w ↦
          subst (λ l. l ++ rings_of c.args.moment.term c.args.moment.now (filter (is_quiet c.args.ahead.now) (drop (c.loop-timer.timer-index + 1) items)) ≡ c.args.found.now ++ rings_of c.args.moment.term c.args.moment.now (filter (is_quiet c.args.ahead.now) items)) (sym w.found-is)
          (rings_no c.args.moment.term c.args.moment.now c.args.ahead.now items c.loop-timer.timer-index a c.loop-timer.found
          (c.args.found.now ++ rings_of c.args.moment.term c.args.moment.now (filter (is_quiet c.args.ahead.now) items)) test same
          (not_yes (is_quiet c.args.ahead.now a) (sym rung ∙ w.if-not-has_rung.false)) c.loop-timer.invariant)
    ]
