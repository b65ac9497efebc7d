use Rattle.std.proofs.Common.{◌≡◌, ℕ, ◌+◌, ◌-◌, ◌<◌, ◌++◌, IsTrue, false}
use Rattle.entry_log.specs.Log.{Log, place}
use Rattle.log_segment.specs.Segment.{EntriesIn, LogIs}
use Rattle.log_segment.specs.Held.{IsHeld}
use Rattle.log_segment.proofs.LookLemmas.{AsRead}
use Rattle.log_segment.proofs.segments.Segments.mount.Given as goal

abbrev pub invariant-entries : goal.invariant-entries
invariant-entries g l = record {
  seen : AsRead g.D.Disk.fault_count g.D.Disk.tells g.D.Disk.is_honest g.D.Disk.state g.D.Disk.moment g.D.Disk.left_since l.fn.disk l.disk;
  alive : IsTrue (g.D.Disk.tells l.fn.disk) → 0 < place l.log → (g.D.Disk.state l.fn.disk).burnt ≡ false;
  stands : IsTrue (g.D.Disk.tells l.fn.disk) → (s : ℕ) → s < 256 → EntriesIn s ((g.D.Disk.state l.fn.disk).files (2 + s)).reads 0 l.log;
  exact : IsTrue (g.D.Disk.tells l.fn.disk) → (log : Log) → IsHeld log → LogIs log (λ f. ((g.D.Disk.state l.fn.disk).files f).reads) → (rest : Log) × (log ≡ l.log ++ rest);
}

abbrev pub decreases-entries : goal.decreases-entries
decreases-entries g l = 16777216 - place l.log
