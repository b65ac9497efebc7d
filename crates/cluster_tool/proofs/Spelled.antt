-- Lines of lists.
use Rattle.std.proofs.Common.{◌≡◌, refl}
use denote.Ref.{Bor}
use Rattle.recording_log.specs.declared.entry.RecEntry.{RecEntry}
use Rattle.recording_log.specs.declared.entry.SnapshotAt.{SnapshotAt}
use Rattle.run_report.specs.Text.{set_line}
use Rattle.cluster_tool.specs.declared.line.Line.TheVariants as line
use Rattle.cluster_tool.specs.Text.{line_text, recorded_line}

pub set_is : (s : Bor SnapshotAt) → line_text (line.Set s) ≡ set_line s.now
unfolding line_text
set_is s = refl

pub recorded_is : (e : Bor RecEntry) → line_text (line.Recorded e) ≡ recorded_line e.now
unfolding line_text
recorded_is e = refl
