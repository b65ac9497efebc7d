use Rattle.std.proofs.Common.{◌≡◌, ◌+◌, sym, ◌∙◌, arith}
use Rattle.sbe_consensus.specs.Spelling.{part_end}
use Rattle.sbe_consensus.proofs.Parts.{first_there, part_slice}
use Rattle.cluster_backup.proofs.PartLists.{grown}
use Rattle.cluster_backup.proofs.parts.parts_at.Goals as goal

pub loop-preserved : goal.loop-preserved
loop-preserved c =
    let next = c.loop.at + (4 + c.get_u32-len.result) in
    let e : next ≡ part_end c.loop.at c.args.bytes.now = omega (arith, c.get_u32-len.ensures) in
    let first = first_there c.args.count c.loop.counter c.loop.at c.args.bytes.now c.loop-test.true c.loop.invariant.there in
    let this = c.in_ok-part.ensures ∙ part_slice c.loop.at c.get_u32-len.result c.args.bytes.now c.get_u32-len.ensures in
    record {
      within = omega (arith, e, first.0);
      there = rw e first.1;
      same = rw c.in_ok-push.ensures.ok (grown c.loop.parts c.in_ok-part.part c.args.count c.loop.counter c.loop.at next c.args.bytes.now _ c.loop-test.true e this c.loop.invariant.same);
    }
