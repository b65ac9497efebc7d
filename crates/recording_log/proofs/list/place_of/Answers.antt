use Rattle.std.proofs.Common.{arith}
use Rattle.recording_log.proofs.PutLemmas.{place_here}
use Rattle.recording_log.proofs.list.place_of.Goals as goal

pub returns-then-is_before : goal.returns-then-is_before
returns-then-is_before c = place_here c.args.sets.now c.args.set _ c.loop-place.place c.requires c.loop-place.invariant.within c.loop-place.invariant.from (omega arith) (c.is_before.ensures.0 c.if-is_before.true)
