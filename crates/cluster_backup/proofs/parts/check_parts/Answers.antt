use Rattle.std.proofs.Common.{◌≡◌, Some, None, length, sym, ◌∙◌, ap, subst, arith}
use Rattle.wire_prims.specs.Header.{bad}
use Rattle.wire_prims.specs.Strict.{strict_fault}
use Rattle.wire_prims.specs.declared.fault.BadCause.TheVariants as causes
use Rattle.wire_prims.specs.declared.strict.Tail.TheVariants.{Rest}
use Rattle.sbe_consensus.specs.Spelling.{parts_there, parts_end}
use Rattle.cluster_backup.specs.Spelling.{IsFault, count_of, front, end_of, parts_fault, counted_fault}
use Rattle.cluster_backup.proofs.Cut.{head_fault, cut_fault, head_wrong, head_there, part_wrong, end_wrong, all_right, fault_through}
use Rattle.cluster_backup.proofs.parts.check_parts.Goals as goal

pub returns-then-is_cut-clause-fault : goal.returns-then-is_cut-clause-fault
returns-then-is_cut-clause-fault c = cut_fault c.args.part c.args.bytes.now (sym c.if-is_cut.ensures)

pub returns-in-Some-clause-fault : goal.returns-in-Some-clause-fault
returns-in-Some-clause-fault c =
    let head : head_fault c.args.part c.args.bytes.now ≡ Some c.in-Some.bad = ap (λ rs. strict_fault rs (Rest (length c.args.bytes.now)) c.args.bytes.now) (sym c.rules.ensures.rules) ∙ sym c.in-Some.ensures in
    head_wrong c.args.part c.args.bytes.now (sym c.if-is_cut.ensures) c.in-Some.bad head

pub count-requires : goal.count-requires
count-requires c =
    let none : head_fault c.args.part c.args.bytes.now ≡ None = ap (λ rs. strict_fault rs (Rest (length c.args.bytes.now)) c.args.bytes.now) (sym c.rules.ensures.rules) ∙ sym c.in_default.ensures in
    (head_there c.args.part c.args.bytes.now (sym c.if-is_cut.ensures) none).0

pub parts_end-requires-clause-long : goal.parts_end-requires-clause-long
parts_end-requires-clause-long c =
    let none : head_fault c.args.part c.args.bytes.now ≡ None = ap (λ rs. strict_fault rs (Rest (length c.args.bytes.now)) c.args.bytes.now) (sym c.rules.ensures.rules) ∙ sym c.in_default.ensures in
    rw c.front.ensures (head_there c.args.part c.args.bytes.now (sym c.if-is_cut.ensures) none).0

pub parts_end-requires-clause-there : goal.parts_end-requires-clause-there
parts_end-requires-clause-there c =
    let none : head_fault c.args.part c.args.bytes.now ≡ None = ap (λ rs. strict_fault rs (Rest (length c.args.bytes.now)) c.args.bytes.now) (sym c.rules.ensures.rules) ∙ sym c.in_default.ensures in
    rw (c.front.ensures, c.count.ensures) (head_there c.args.part c.args.bytes.now (sym c.if-is_cut.ensures) none).1

pub returns-in-Err-clause-fault : goal.returns-in-Err-clause-fault
returns-in-Err-clause-fault c =
    let none : head_fault c.args.part c.args.bytes.now ≡ None = ap (λ rs. strict_fault rs (Rest (length c.args.bytes.now)) c.args.bytes.now) (sym c.rules.ensures.rules) ∙ sym c.in_default.ensures in
    fault_through c.args.part c.args.bytes.now c.in-Err.fault (sym c.if-is_cut.ensures) none
    (subst (λ n. IsFault (parts_fault c.args.part n (front c.args.part) c.args.bytes.now) c.in-Err.fault) c.count.ensures (subst (λ m. IsFault (parts_fault c.args.part c.count.result m c.args.bytes.now) c.in-Err.fault) c.front.ensures c.in-Err.ensures.fault))

pub returns-in-Ok-clause-fault : goal.returns-in-Ok-clause-fault
returns-in-Ok-clause-fault c =
    let none : head_fault c.args.part c.args.bytes.now ≡ None = ap (λ rs. strict_fault rs (Rest (length c.args.bytes.now)) c.args.bytes.now) (sym c.rules.ensures.rules) ∙ sym c.in_default.ensures in
    let free : parts_fault c.args.part (count_of c.args.part c.args.bytes.now) (front c.args.part) c.args.bytes.now ≡ None = ap (λ n. parts_fault c.args.part n (front c.args.part) c.args.bytes.now) (sym c.count.ensures) ∙ ap (λ m. parts_fault c.args.part c.count.result m c.args.bytes.now) (sym c.front.ensures) ∙ c.in-Ok.ensures.free in
    let end : c.in-Ok.end ≡ end_of c.args.part c.args.bytes.now = c.in-Ok.ensures.end ∙ ap (λ m. parts_end c.count.result m c.args.bytes.now) c.front.ensures ∙ ap (λ n. parts_end n (front c.args.part) c.args.bytes.now) c.count.ensures in
    end_wrong c.args.part c.args.bytes.now (sym c.if-is_cut.ensures) none free (omega (arith, end, c.if-end-len.true)) ∙ ap (λ m. Some (bad m causes.Trailing)) (sym end)

pub returns-in-Ok-2-clause-free : goal.returns-in-Ok-2-clause-free
returns-in-Ok-2-clause-free c =
    let none : head_fault c.args.part c.args.bytes.now ≡ None = ap (λ rs. strict_fault rs (Rest (length c.args.bytes.now)) c.args.bytes.now) (sym c.rules.ensures.rules) ∙ sym c.in_default.ensures in
    let free : parts_fault c.args.part (count_of c.args.part c.args.bytes.now) (front c.args.part) c.args.bytes.now ≡ None = ap (λ n. parts_fault c.args.part n (front c.args.part) c.args.bytes.now) (sym c.count.ensures) ∙ ap (λ m. parts_fault c.args.part c.count.result m c.args.bytes.now) (sym c.front.ensures) ∙ c.in-Ok.ensures.free in
    let end : c.in-Ok.end ≡ end_of c.args.part c.args.bytes.now = c.in-Ok.ensures.end ∙ ap (λ m. parts_end c.count.result m c.args.bytes.now) c.front.ensures ∙ ap (λ n. parts_end n (front c.args.part) c.args.bytes.now) c.count.ensures in
    all_right c.args.part c.args.bytes.now (sym c.if-is_cut.ensures) none free (omega (arith, end, c.if-end-len.false))
