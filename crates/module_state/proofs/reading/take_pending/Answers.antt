use Rattle.std.proofs.Common.{◌+◌, get_or, option_map, ap, arith, subst}
use Rattle.module_state.specs.Recorded.{take_waiting, take_pending}
use Rattle.module_state.specs.Reading.{Reads}
use Rattle.module_state.proofs.FitLaws.{length_read, count_at, pending_go}
use Rattle.module_state.proofs.reading.take_pending.Goals as goal

pub restore-requires : goal.restore-requires
restore-requires c =
    let test = c.loop-count-test.true in
    let count = get_or c.args.counts.now c.loop-count.count-index (0, 0) in
    let read = subst (λ o. Reads (option_map (λ q. q.items) o) c.take_waiting.new.pieces.items (take_waiting count.1 c.loop-count.service count.0 c.loop-count.pieces.items)) c.in-Some.is c.in_ok-waiting.ensures in
    omega (arith, length_read count.1 c.loop-count.service count.0 c.loop-count.pieces.items c.take_waiting.new.pieces.items c.in-Some.waiting.items read, count_at c.args.counts.now c.loop-count.count-index (0, 0) c.requires.counts test)

pub loop-count-preserved : goal.loop-count-preserved
loop-count-preserved c =
    let test = c.loop-count-test.true in
    let count = get_or c.args.counts.now c.loop-count.count-index (0, 0) in
    let read = subst (λ o. Reads (option_map (λ q. q.items) o) c.take_waiting.new.pieces.items (take_waiting count.1 c.loop-count.service count.0 c.loop-count.pieces.items)) c.in-Some.is c.in_ok-waiting.ensures in
    record {
      number = ap (λ n. n + 1) c.loop-count.invariant.number;
      so_far = pending_go c.loop-count.service (c.loop-count.service + 1) c.loop-count.count-index c.args.counts.now (0, 0) c.loop-count.pieces.items c.take_waiting.new.pieces.items c.in-Some.waiting.items c.loop-count.pending c.restore.new.self (take_pending 0 c.args.counts.now c.args.pieces.now.items)
          test (omega arith) read c.in_ok-restore.ensures.ok c.loop-count.invariant.so_far;
    }
