use Rattle.std.proofs.Common.{◌≤◌, length}
use Rattle.recording_log.specs.Sets.{IsSoFar}
use Rattle.recording_log.proofs.sets.latest_index.Given as goal

abbrev pub invariant-loop-i : goal.invariant-loop-i
invariant-loop-i l = (l.i ≤ length l.entries) × IsSoFar l.services l.entries l.i l.latest

abbrev pub decreases-loop-i : goal.decreases-loop-i
decreases-loop-i l = l.i
