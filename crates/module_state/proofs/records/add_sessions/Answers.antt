use Rattle.std.proofs.Common.{◌<◌, ◌++◌, length, map, arith, sym, subst}
use Rattle.std.specs.Prelude.{IfSome}
use Rattle.sbe_local.specs.Pieces.{piece_spelling_of}
use Rattle.module_state.specs.Ranges.{SessionFits}
use Rattle.module_state.specs.Recorded.{session_pieces}
use Rattle.module_state.proofs.LoopLaws.{records_more, session_if}
use Rattle.module_state.proofs.records.add_sessions.Goals as goal

pub add_session-requires : goal.add_session-requires
add_session-requires c = subst (λ o. IfSome o SessionFits) (sym c.at.ensures) (session_if SessionFits c.args.sessions.now.table.listed c.loop-place.place c.requires)

pub loop-place-preserved : goal.loop-place-preserved
loop-place-preserved c =
    let count = c.open_count-count.ensures in
    let test = c.loop-place-test.true in
    let within : c.loop-place.place < length c.args.sessions.now.table.listed = omega arith in
    records_more c.args.sessions.now.table.listed c.loop-place.place _ c.loop-place.found c.add_session.new.found (c.args.found.now ++ map piece_spelling_of (session_pieces c.args.sessions.now.table.listed))
    within c.at.ensures c.in_ok-add_session.ensures c.loop-place.invariant
