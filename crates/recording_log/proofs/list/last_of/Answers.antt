use Rattle.std.proofs.Common.{arith}
use Rattle.std.specs.Int.{w32}
use Rattle.std.proofs.lemmas.Int.{to_z-of_z}
use Rattle.std.proofs.lemmas.Bool.{iff_false}
use Rattle.recording_log.proofs.ListLemmas.{last_here, none_below}
use Rattle.recording_log.proofs.list.last_of.Goals as goal

pub returns-then-is_part : goal.returns-then-is_part
returns-then-is_part c =
    last_here c.args.entries.now c.args.of.term c.args.of.position _ c.args.service c.loop-i.i c.loop-i-test.true c.loop-i.invariant.within (to_z-of_z w32 c.args.service c.ranges.service) (c.is_part.ensures.0 c.if-is_part.true) c.loop-i.invariant.none

pub loop-i-preserved : goal.loop-i-preserved
loop-i-preserved c = record {
  within = let within = c.loop-i.invariant.within in omega (arith, within);
  none = none_below c.args.entries.now c.args.of.term c.args.of.position _ c.loop-i.i c.loop-i-test.true c.loop-i.invariant.within (iff_false c.is_part.ensures c.if-is_part.false) c.loop-i.invariant.none;
}
