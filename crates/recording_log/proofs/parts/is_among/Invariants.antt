use Rattle.std.proofs.Common.{◌≡◌, ℕ, ◌<◌, slice_get, Some}
use Rattle.recording_log.specs.declared.entry.RecEntry.{RecEntry}
use Rattle.recording_log.specs.Sets.{IsPart}
use Rattle.recording_log.proofs.parts.is_among.Given as goal

abbrev pub invariant-loop-e : goal.invariant-loop-e
invariant-loop-e l = (j : ℕ) (d : RecEntry) → j < l.e-index → slice_get l.entries j ≡ Some d → IsPart l.of.term l.of.position l.service d → ⊥
