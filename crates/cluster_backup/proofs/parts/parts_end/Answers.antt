use Rattle.std.proofs.Common.{◌≡◌, ◌+◌, ◌-◌, ◌<◌, ◌≤◌, ◌^◌, Some, None, length, take, drop, sym, ◌∙◌, ap, subst, arith}
use Rattle.std.proofs.lemmas.List.{length-take, length-drop}
use Rattle.wire_prims.specs.Fields.{u32_at}
use Rattle.wire_prims.specs.declared.fault.Bad.{Bad}
use Rattle.wire_prims.specs.declared.fault.DecodeFault.{DecodeFault}
use Rattle.wire_prims.specs.declared.fault.DecodeFault.TheVariants as faults
use Rattle.sbe_consensus.specs.Spelling.{part_at, part_end}
use Rattle.sbe_consensus.proofs.Parts.{first_there, part_slice, end_on}
use Rattle.cluster_backup.specs.Spelling.{IsFault, part_fault}
use Rattle.cluster_backup.proofs.PartLists.{fault_on, fault_passed}
use Rattle.cluster_backup.proofs.Places.{part_within}
use Rattle.cluster_backup.proofs.parts.parts_end.Goals as goal

pub counted_from-requires : goal.counted_from-requires
counted_from-requires c = λ b is.
    let here : IsFault (part_fault c.args.part (take (c.loop.at + 4 + c.get_u32-len.result - (c.loop.at + 4)) (drop (c.loop.at + 4) c.args.bytes.now))) c.in-Err.fault = c.in-Err.ensures.fault in
    let there = subst (λ e. IsFault (part_fault c.args.part (take (c.loop.at + 4 + c.get_u32-len.result - (c.loop.at + 4)) (drop (c.loop.at + 4) c.args.bytes.now))) e) is here in
    let within = part_within c.args.part (take (c.loop.at + 4 + c.get_u32-len.result - (c.loop.at + 4)) (drop (c.loop.at + 4) c.args.bytes.now)) b there in
    let first = first_there c.args.count c.loop.counter c.loop.at c.args.bytes.now c.loop-test.true c.loop.invariant.there in
    omega (arith, within, first.0, length-take (c.loop.at + 4 + c.get_u32-len.result - (c.loop.at + 4)) (drop (c.loop.at + 4) c.args.bytes.now), length-drop (c.loop.at + 4) c.args.bytes.now)

pub returns-in-Err-clause-fault : goal.returns-in-Err-clause-fault
returns-in-Err-clause-fault c =
    let this = part_slice c.loop.at c.get_u32-len.result c.args.bytes.now c.get_u32-len.ensures in
    let here : IsFault (part_fault c.args.part (part_at c.loop.at c.args.bytes.now)) c.in-Err.fault = subst (λ l. IsFault (part_fault c.args.part l) c.in-Err.fault) this c.in-Err.ensures.fault in
    fault_passed c.args.part c.args.count c.loop.counter c.loop.at c.args.bytes.now c.counted_from.result _ c.loop-test.true (c.counted_from.ensures (part_fault c.args.part (part_at c.loop.at c.args.bytes.now)) here) c.loop.invariant.fault

pub loop-preserved : goal.loop-preserved
loop-preserved c =
    let next = c.loop.at + (4 + c.get_u32-len.result) in
    let e : next ≡ part_end c.loop.at c.args.bytes.now = omega (arith, c.get_u32-len.ensures) in
    let first = first_there c.args.count c.loop.counter c.loop.at c.args.bytes.now c.loop-test.true c.loop.invariant.there in
    let this = part_slice c.loop.at c.get_u32-len.result c.args.bytes.now c.get_u32-len.ensures in
    let free : part_fault c.args.part (part_at c.loop.at c.args.bytes.now) ≡ None = ap (part_fault c.args.part) (sym this) ∙ c.in-Ok.ensures.free in
    record {
      within = omega (arith, e, first.0);
      there = rw e first.1;
      end = end_on c.args.count c.loop.counter c.loop.at next c.args.bytes.now _ c.loop-test.true e c.loop.invariant.end;
      fault = fault_on c.args.part c.args.count c.loop.counter c.loop.at next c.args.bytes.now _ c.loop-test.true e free c.loop.invariant.fault;
    }
