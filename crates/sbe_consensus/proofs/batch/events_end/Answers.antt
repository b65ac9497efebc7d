use Rattle.std.proofs.Common.{◌≡◌, ◌+◌, ◌-◌, Some, None, take, drop, sym, ◌∙◌, ap, arith}
use Rattle.std.proofs.lemmas.List.{length-take}
use Rattle.sbe_events.specs.Spelling as events
use Rattle.sbe_consensus.specs.Spelling.{part_end, part_at}
use Rattle.sbe_consensus.proofs.Parts.{first_there, part_slice, end_on, fault_on, fault_here}
use Rattle.sbe_consensus.proofs.Places.{place_within}
use Rattle.sbe_consensus.proofs.batch.events_end.Goals as goal

pub overflow_add-result-in-Some : goal.overflow_add-result-in-Some
overflow_add-result-in-Some c =
    let bytes = c.args.bytes.now in
    let at = c.loop.at in
    let len = c.get_u32-len.result in
    let first = first_there c.args.count c.loop.counter c.loop.at c.args.bytes.now c.loop-test.true c.loop.invariant.there in
    let place = place_within (take (c.loop.at + 4 + c.get_u32-len.result - (c.loop.at + 4)) (drop (c.loop.at + 4) c.args.bytes.now)) c.in-Some.bad (sym c.in-Some.ensures) in
    let short = length-take (c.loop.at + 4 + c.get_u32-len.result - (c.loop.at + 4)) (drop (c.loop.at + 4) c.args.bytes.now) in
    record { fits = omega (arith, first.0, place, short, c.get_u32-len.ensures) }

pub returns-in-Some-clause-fault : goal.returns-in-Some-clause-fault
returns-in-Some-clause-fault c =
    let here : events.first_fault (part_at c.loop.at c.args.bytes.now) ≡ Some c.in-Some.bad = sym (ap events.first_fault (part_slice c.loop.at c.get_u32-len.result c.args.bytes.now c.get_u32-len.ensures)) ∙ sym c.in-Some.ensures in
    fault_here c.args.count c.loop.counter c.loop.at c.args.bytes.now c.in-Some.bad _ c.loop-test.true here c.loop.invariant.fault

pub loop-preserved : goal.loop-preserved
loop-preserved c =
    let next = c.loop.at + (4 + c.get_u32-len.result) in
    let e : next ≡ part_end c.loop.at c.args.bytes.now = omega (arith, c.get_u32-len.ensures) in
    let first = first_there c.args.count c.loop.counter c.loop.at c.args.bytes.now c.loop-test.true c.loop.invariant.there in
    let here : events.first_fault (part_at c.loop.at c.args.bytes.now) ≡ None = sym (ap events.first_fault (part_slice c.loop.at c.get_u32-len.result c.args.bytes.now c.get_u32-len.ensures)) ∙ sym c.in_default.ensures in
    record {
      within = omega (arith, e, first.0);
      there = rw e first.1;
      end = end_on c.args.count c.loop.counter c.loop.at next c.args.bytes.now _ c.loop-test.true e c.loop.invariant.end;
      fault = fault_on c.args.count c.loop.counter c.loop.at next c.args.bytes.now _ c.loop-test.true e here c.loop.invariant.fault;
    }
