use Rattle.std.proofs.Common.{◌≡◌, ◌-◌, ◌+◌, ◌++◌, ◌∷◌, [], ℤ, List, None, Some, length, FitsSigned, w64, rules, ap, ◌∙◌, arith, sym, subst}
use Rattle.std.specs.List.{AllByRecursion}
use Rattle.std.proofs.lemmas.Int.{to_z-of_z}
use Rattle.sbe_local.specs.declared.piece.Piece.{Piece}
use Rattle.sbe_local.specs.Pieces.{HasPieceSpelling}
use Rattle.timer_service.specs.Timers.{TimerTable}
use Rattle.module_state.specs.Recorded.{take_timers, with_more}
use Rattle.module_state.specs.Reading.{left_by, first_piece, timer_in}
use Rattle.module_state.proofs.ReadLaws.{timer_some, no_more_timers, timer_armed, names_up_to, behind_spelled, last_length, taken_more, prefix_done}
use Rattle.module_state.proofs.reading.take_timers.Goals as goal

pub loop-preserved : goal.loop-preserved
loop-preserved c =
    let f : FitsSigned w64 c.in-Some.corr = search rules in
    let g : FitsSigned w64 c.in-Some.deadline = search rules in
    let test = c.loop-test.true in
    let few = c.loop.invariant.few in
    let a : ℤ × ℤ = (c.in-Some.corr, c.in-Some.deadline) in
    let is : timer_in c.loop.last (first_piece c.loop.pieces.items) ≡ Some a = sym c.take_timer.ensures.timer ∙ c.in-Some.is in
    let state = simp to_z-of_z at c.in_ok-schedule.ensures.state in
    let armed : c.schedule.new.self ≡ c.loop.timers ++ a ∷ [] = timer_armed c.loop.last c.loop.pieces.items a c.loop.timers c.schedule.new.self is c.loop.invariant.spelled c.loop.invariant.above (omega arith) state in
    let left = c.take_timer.ensures.left ∙ ap (λ r. left_by r c.loop.pieces.items) c.in-Some.is in
    let longer : length c.schedule.new.self ≡ length c.loop.timers + 1 = ap (λ (l : TimerTable). length l) armed ∙ last_length a c.loop.timers in
    simp to_z-of_z (record {
      spelled = subst (AllByRecursion HasPieceSpelling) (sym left) (behind_spelled c.loop.pieces.items c.loop.invariant.spelled);
      few = omega (arith, longer);
      above = names_up_to c.loop.last c.loop.pieces.items a c.loop.timers c.schedule.new.self is c.loop.invariant.spelled c.loop.invariant.above armed;
      so_far = taken_more c.loop.timers c.schedule.new.self a (take_timers c.loop.last (4096 - c.loop.counter) c.loop.pieces.items)
          (take_timers (Some c.in-Some.corr) (4096 - (c.loop.counter + 1)) c.take_timer.new.pieces.items) (take_timers None 4096 c.args.pieces.now.items)
          (timer_some c.loop.last (4096 - c.loop.counter) (4096 - (c.loop.counter + 1)) c.loop.pieces.items a (omega arith) is
          ∙ ap (λ (l : List Piece). with_more a (take_timers (Some c.in-Some.corr) (4096 - (c.loop.counter + 1)) l)) (sym left))
          armed c.loop.invariant.so_far;
    })

pub returns : goal.returns
returns c =
    let test = c.loop-test.false in
    prefix_done c.loop.timers c.loop.pieces.items (take_timers c.loop.last (4096 - c.loop.counter) c.loop.pieces.items) (take_timers None 4096 c.args.pieces.now.items)
    (ap (λ k. take_timers c.loop.last k c.loop.pieces.items) (omega arith) ∙ no_more_timers c.loop.last c.loop.pieces.items) c.loop.invariant.so_far
