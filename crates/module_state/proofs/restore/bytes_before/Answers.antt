use Rattle.std.proofs.Common.{◌+◌, ◌∙◌, ap, sym, drop, arith}
use Rattle.module_state.specs.Restored.{bytes_before, capped}
use Rattle.module_state.proofs.LoopLaws.{bytes_more, bytes_none, bytes_end}
use Rattle.std.proofs.lemmas.List.{drop_all}
use Rattle.module_state.proofs.restore.bytes_before.Goals as goal

pub returns-then-left-eq0 : goal.returns-then-left-eq0
returns-then-left-eq0 c =
    bytes_none c.loop-record.sum (drop c.loop-record.record-index c.args.records.now) (capped (bytes_before c.args.count c.args.records.now)) c.loop-record.invariant.bound
    (ap (λ n. capped (c.loop-record.sum + bytes_before n (drop c.loop-record.record-index c.args.records.now))) (sym c.if-left-eq0.true) ∙ c.loop-record.invariant.so_far)

pub loop-record-preserved : goal.loop-record-preserved
loop-record-preserved c =
    let some = c.if-left-eq0.false in
    let test = c.loop-record-test.true in
    let next = bytes_more c.loop-record.left c.loop-record.sum c.saturating_add-sum.result c.args.records.now c.loop-record.record-index c.record-item.result (capped (bytes_before c.args.count c.args.records.now))
    (omega arith) c.record-item.is (omega arith) c.loop-record.invariant.bound
    (c.saturating_add-sum.ensures ∙ ap (λ n. capped (n + c.len.result)) c.saturating_add.ensures ∙ ap (λ n. capped (capped (c.loop-record.sum + 4) + n)) c.len.ensures)
    c.loop-record.invariant.so_far in
    record { bound = next.0; so_far = next.1 }

pub returns : goal.returns
returns c =
    let test = c.loop-record-test.false in
    bytes_end c.loop-record.left c.loop-record.sum (capped (bytes_before c.args.count c.args.records.now)) c.loop-record.invariant.bound
    (ap (λ l. capped (c.loop-record.sum + bytes_before c.loop-record.left l)) (sym (drop_all c.loop-record.record-index c.args.records.now (omega arith))) ∙ c.loop-record.invariant.so_far)
