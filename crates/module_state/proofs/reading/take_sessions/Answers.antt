use Rattle.std.proofs.Common.{◌≡◌, ◌-◌, ◌+◌, ◌++◌, ◌∷◌, [], List, None, Some, FitsSigned, w64, rules, ap, ◌∙◌, arith, sym}
use Rattle.std.proofs.lemmas.Int.{to_z-of_z}
use Rattle.sbe_local.specs.declared.piece.Piece.{Piece}
use Rattle.session_manager.specs.Sessions.{SessionTable}
use Rattle.module_state.specs.Recorded.{take_sessions, with_more}
use Rattle.module_state.specs.Reading.{left_by, first_piece, session_in}
use Rattle.module_state.proofs.ReadLaws.{session_some, no_more_sessions, session_above, up_to_more, taken_more, prefix_done}
use Rattle.module_state.proofs.reading.take_sessions.Goals as goal

pub restore-requires-clause-above : goal.restore-requires-clause-above
restore-requires-clause-above c =
    let f = c.ranges.next_id in
    let told = simp to_z-of_z at c.take_session.ensures.session in
    let is : session_in c.args.next_id c.loop.last (first_piece c.loop.pieces.items) ≡ Some c.in-Some.session = sym told ∙ c.in-Some.is in
    session_above c.args.next_id c.loop.last c.loop.pieces.items c.in-Some.session c.loop.sessions.table.listed is c.loop.invariant.above

pub loop-preserved : goal.loop-preserved
loop-preserved c =
    let f = c.ranges.next_id in
    let g : FitsSigned w64 c.in-Some.session.id = search rules in
    let test = c.loop-test.true in
    let told = simp to_z-of_z at c.take_session.ensures.session in
    let is : session_in c.args.next_id c.loop.last (first_piece c.loop.pieces.items) ≡ Some c.in-Some.session = sym told ∙ c.in-Some.is in
    let next = simp to_z-of_z at c.loop.invariant.next in
    let before = simp to_z-of_z at c.loop.invariant.so_far in
    let above = session_above c.args.next_id c.loop.last c.loop.pieces.items c.in-Some.session c.loop.sessions.table.listed is c.loop.invariant.above in
    let kept = c.in_ok-restore.ensures.ok in
    let listed : c.restore.new.self.table.listed ≡ c.loop.sessions.table.listed ++ c.in-Some.session ∷ [] = ap (λ (t : SessionTable). t.listed) kept in
    let left = c.take_session.ensures.left ∙ ap (λ r. left_by r c.loop.pieces.items) c.in-Some.is in
    simp to_z-of_z (record {
      next = ap (λ (t : SessionTable). t.next_id) kept ∙ next;
      above = up_to_more c.loop.sessions.table.listed c.restore.new.self.table.listed c.in-Some.session listed above;
      so_far = taken_more c.loop.sessions.table.listed c.restore.new.self.table.listed c.in-Some.session (take_sessions c.args.next_id c.loop.last (1024 - c.loop.counter) c.loop.pieces.items)
          (take_sessions c.args.next_id (Some c.in-Some.session.id) (1024 - (c.loop.counter + 1)) c.take_session.new.pieces.items) (take_sessions c.args.next_id None 1024 c.args.pieces.now.items)
          (session_some c.args.next_id c.loop.last (1024 - c.loop.counter) (1024 - (c.loop.counter + 1)) c.loop.pieces.items c.in-Some.session (omega arith) is
          ∙ ap (λ (l : List Piece). with_more c.in-Some.session (take_sessions c.args.next_id (Some c.in-Some.session.id) (1024 - (c.loop.counter + 1)) l)) (sym left))
          listed before;
    })

pub returns-clause-taken : goal.returns-clause-taken
returns-clause-taken c =
    let f = c.ranges.next_id in
    let before = simp to_z-of_z at c.loop.invariant.so_far in
    let test = c.loop-test.false in
    prefix_done c.loop.sessions.table.listed c.loop.pieces.items (take_sessions c.args.next_id c.loop.last (1024 - c.loop.counter) c.loop.pieces.items) (take_sessions c.args.next_id None 1024 c.args.pieces.now.items)
    (ap (λ k. take_sessions c.args.next_id c.loop.last k c.loop.pieces.items) (omega arith) ∙ no_more_sessions c.args.next_id c.loop.last c.loop.pieces.items) before
