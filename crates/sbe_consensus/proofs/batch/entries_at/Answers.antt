use Rattle.std.proofs.Common.{◌≡◌, ◌+◌, arith}
use Rattle.sbe_consensus.specs.Spelling.{part_end, part_at}
use Rattle.sbe_consensus.proofs.Parts.{first_there, part_slice, part_free, spells_one, entry_is, grown}
use Rattle.sbe_consensus.proofs.batch.entries_at.Goals as goal

pub entry_of-requires : goal.entry_of-requires
entry_of-requires c =
    let free = part_free c.args.count c.loop.counter c.loop.at c.args.bytes.now c.loop-test.true c.loop.invariant.free in
    rw (part_slice c.loop.at c.get_u32-len.result c.args.bytes.now c.get_u32-len.ensures) (spells_one (part_at c.loop.at c.args.bytes.now) free.0)

pub loop-preserved : goal.loop-preserved
loop-preserved c =
    let next = c.loop.at + (4 + c.get_u32-len.result) in
    let e : next ≡ part_end c.loop.at c.args.bytes.now = omega (arith, c.get_u32-len.ensures) in
    let first = first_there c.args.count c.loop.counter c.loop.at c.args.bytes.now c.loop-test.true c.loop.invariant.there in
    let free = part_free c.args.count c.loop.counter c.loop.at c.args.bytes.now c.loop-test.true c.loop.invariant.free in
    let this = entry_is c.loop.at c.args.bytes.now _ c.in_ok-entry.entry.term c.in_ok-entry.entry.bytes (part_slice c.loop.at c.get_u32-len.result c.args.bytes.now c.get_u32-len.ensures) c.in_ok-entry.ensures.0 c.in_ok-entry.ensures.1 in
    record {
      within = omega (arith, e, first.0);
      there = rw e first.1;
      free = rw e free.1;
      same = rw c.in_ok-push.ensures.ok (grown c.loop.entries c.in_ok-entry.entry c.args.count c.loop.counter c.loop.at next c.args.bytes.now _ c.loop-test.true e this c.loop.invariant.same);
    }
