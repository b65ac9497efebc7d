use Rattle.std.proofs.Common.{◌≡◌, ◌+◌, ◌≤◌, length, arith}
use Rattle.sbe_consensus.specs.Spelling.{part_end}
use Rattle.sbe_consensus.proofs.Parts.{there_on}
use Rattle.cluster_backup.proofs.parts.parts_there.Goals as goal

pub loop-preserved : goal.loop-preserved
loop-preserved c =
    let next = c.loop.at + (4 + c.get_u32-len.result) in
    let e : next ≡ part_end c.loop.at c.args.bytes.now = omega (arith, c.get_u32-len.ensures) in
    let inside : part_end c.loop.at c.args.bytes.now ≤ length c.args.bytes.now = omega arith in
    record {
      within = omega arith;
      same = there_on c.args.count c.loop.counter c.loop.at next c.args.bytes.now _ c.loop-test.true e inside c.loop.invariant.same;
    }
