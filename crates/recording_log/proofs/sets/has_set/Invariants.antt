use Rattle.std.proofs.Common.{ℕ, ◌<◌, pos, List}
use Rattle.recording_log.specs.declared.entry.RecEntry.{RecEntry}
use Rattle.recording_log.specs.Sets.{HasPart}
use Rattle.recording_log.specs.Parts.{Tells}
use Rattle.recording_log.proofs.sets.has_set.Given as goal

abbrev pub invariant-loop-s : goal.invariant-loop-s
invariant-loop-s l = (entries : List RecEntry) → Tells l.parts entries → (k : ℕ) → k < l.s → HasPart entries l.of.term l.of.position (pos k)
