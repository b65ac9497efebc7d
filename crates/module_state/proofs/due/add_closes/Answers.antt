use Rattle.std.proofs.Common.{◌<◌, ◌++◌, length, arith}
use Rattle.module_state.specs.Due.{closes_due}
use Rattle.module_state.proofs.LoopLaws.{closes_more}
use Rattle.module_state.proofs.due.add_closes.Goals as goal

pub loop-place-preserved : goal.loop-place-preserved
loop-place-preserved c =
    let count = c.open_count-count.ensures in
    let test = c.loop-place-test.true in
    let within : c.loop-place.place < length c.args.tentative.now.table.listed = omega arith in
    closes_more c.args.consumed.now.table c.args.alive.now c.args.moment.term c.args.moment.now c.args.moment.since c.args.tentative.now.table.listed c.loop-place.place _ c.loop-place.found c.add_due_close.new.found
    (c.args.found.now ++ closes_due c.args.consumed.now.table c.args.alive.now c.args.moment.term c.args.moment.now c.args.moment.since c.args.tentative.now.table.listed)
    within c.at.ensures c.in_ok-add_due_close.ensures c.loop-place.invariant
