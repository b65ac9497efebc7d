use Rattle.std.proofs.Common.{◌≡◌, ◌+◌, arith}
use Rattle.sbe_client.specs.Reading.{variable_end}
use Rattle.sbe_client.proofs.Variables.{goes_on}
use Rattle.sbe_client.proofs.check.has_variables.Goals as goal

pub loop-preserved : goal.loop-preserved
loop-preserved c =
    let next = c.loop.at + (4 + c.get_u32-len.result) in
    let e : next ≡ variable_end c.loop.at c.args.bytes.now = omega (arith, c.get_u32-len.ensures) in
    record {
      within = omega arith;
      same = goes_on c.args.count c.loop.counter c.loop.at next c.args.bytes.now _ c.loop-test.true (omega arith) (omega arith) e c.loop.invariant.same;
    }
