use Rattle.std.proofs.Common.{◌≡◌, Some, None, length, sym, ◌∙◌, ap, arith}
use Rattle.wire_prims.specs.Header.{bad}
use Rattle.wire_prims.specs.Strict.{strict_fault}
use Rattle.wire_prims.specs.declared.fault.BadCause.TheVariants as causes
use Rattle.wire_prims.specs.declared.strict.Tail.TheVariants.{Rest}
use Rattle.sbe_consensus.specs.Spelling.{count_of, parts_there, parts_end, events_fault}
use Rattle.sbe_consensus.proofs.Cut.{head_fault, cut_fault, head_wrong, head_there, event_wrong, end_wrong, all_right}
use Rattle.sbe_consensus.proofs.batch.batch_fault.Goals as goal

pub returns-then-is_cut : goal.returns-then-is_cut
returns-then-is_cut c = sym (cut_fault c.args.bytes.now (sym c.if-is_cut.ensures))

pub returns-in-Some : goal.returns-in-Some
returns-in-Some c =
    let head : head_fault c.args.bytes.now ≡ Some c.in-Some.bad = ap (λ rs. strict_fault rs (Rest (length c.args.bytes.now)) c.args.bytes.now) (sym c.rules.ensures.rules) ∙ sym c.in-Some.ensures in
    sym (head_wrong c.args.bytes.now (sym c.if-is_cut.ensures) c.in-Some.bad head)

pub count_of-requires : goal.count_of-requires
count_of-requires c =
    let none : head_fault c.args.bytes.now ≡ None = ap (λ rs. strict_fault rs (Rest (length c.args.bytes.now)) c.args.bytes.now) (sym c.rules.ensures.rules) ∙ sym c.in_default.ensures in
    (head_there c.args.bytes.now (sym c.if-is_cut.ensures) none).0

pub events_end-requires-clause-long : goal.events_end-requires-clause-long
events_end-requires-clause-long c =
    let none : head_fault c.args.bytes.now ≡ None = ap (λ rs. strict_fault rs (Rest (length c.args.bytes.now)) c.args.bytes.now) (sym c.rules.ensures.rules) ∙ sym c.in_default.ensures in
    (head_there c.args.bytes.now (sym c.if-is_cut.ensures) none).0

pub events_end-requires-clause-there : goal.events_end-requires-clause-there
events_end-requires-clause-there c =
    let none : head_fault c.args.bytes.now ≡ None = ap (λ rs. strict_fault rs (Rest (length c.args.bytes.now)) c.args.bytes.now) (sym c.rules.ensures.rules) ∙ sym c.in_default.ensures in
    ap (λ n. parts_there n 32 c.args.bytes.now) c.count_of.ensures ∙ (head_there c.args.bytes.now (sym c.if-is_cut.ensures) none).1

pub returns-in-Err : goal.returns-in-Err
returns-in-Err c =
    let none : head_fault c.args.bytes.now ≡ None = ap (λ rs. strict_fault rs (Rest (length c.args.bytes.now)) c.args.bytes.now) (sym c.rules.ensures.rules) ∙ sym c.in_default.ensures in
    sym (event_wrong c.args.bytes.now (sym c.if-is_cut.ensures) none c.in-Err.bad (ap (λ n. events_fault n 32 c.args.bytes.now) (sym c.count_of.ensures) ∙ c.in-Err.ensures.fault))

pub returns-in-Ok : goal.returns-in-Ok
returns-in-Ok c =
    let none : head_fault c.args.bytes.now ≡ None = ap (λ rs. strict_fault rs (Rest (length c.args.bytes.now)) c.args.bytes.now) (sym c.rules.ensures.rules) ∙ sym c.in_default.ensures in
    let free : events_fault (count_of c.args.bytes.now) 32 c.args.bytes.now ≡ None = ap (λ n. events_fault n 32 c.args.bytes.now) (sym c.count_of.ensures) ∙ c.in-Ok.ensures.free in
    let end : c.in-Ok.end ≡ parts_end (count_of c.args.bytes.now) 32 c.args.bytes.now = c.in-Ok.ensures.end ∙ ap (λ n. parts_end n 32 c.args.bytes.now) c.count_of.ensures in
    ap (λ k. Some (bad k causes.Trailing)) end ∙ sym (end_wrong c.args.bytes.now (sym c.if-is_cut.ensures) none free (omega (arith, end, c.if-end-len.true)))

pub returns-in-Ok-2 : goal.returns-in-Ok-2
returns-in-Ok-2 c =
    let none : head_fault c.args.bytes.now ≡ None = ap (λ rs. strict_fault rs (Rest (length c.args.bytes.now)) c.args.bytes.now) (sym c.rules.ensures.rules) ∙ sym c.in_default.ensures in
    let free : events_fault (count_of c.args.bytes.now) 32 c.args.bytes.now ≡ None = ap (λ n. events_fault n 32 c.args.bytes.now) (sym c.count_of.ensures) ∙ c.in-Ok.ensures.free in
    let end : c.in-Ok.end ≡ parts_end (count_of c.args.bytes.now) 32 c.args.bytes.now = c.in-Ok.ensures.end ∙ ap (λ n. parts_end n 32 c.args.bytes.now) c.count_of.ensures in
    sym (all_right c.args.bytes.now (sym c.if-is_cut.ensures) none free (omega (arith, end, c.if-end-len.false)))
