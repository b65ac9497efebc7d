-- A batch that is spelled, and what its append changes.
use Rattle.std.specs.Prelude.{◌≡◌, ◌≢◌, ℕ, ◌+◌, ◌/◌, ◌%◌, ◌<◌, ◌≤◌, ◌==◌, ◌&&◌, nat_lt, Bool, true, false, if◌then◌else◌, List, ◌++◌, length, replicate}
use Rattle.cl_base.specs.Disk.{FileState}
use Rattle.cl_base.specs.Runs.{EachImage}
use Rattle.entry_log.specs.Log.{Log, place}
use Rattle.log_segment.specs.Segment.{LogIs}
use Rattle.log_segment.specs.Batch.{IsBatch, first_begin, frames_of}
use Rattle.log_segment.specs.Held.{IsHeld}
use Rattle.log_segment.specs.declared.batch.Batch.{Batch}

-- how many zeros follow a batch, which ends its segment or not
abbrev pub zeros_behind : Bool → ℕ
zeros_behind true = 0
zeros_behind false = 32

-- the frames of these entries, written at place p, with a closed gate behind them where they don't end their segment
pub record IsSpelled (p : ℕ) (entries : Log) (b : Batch) : Type 0 where
  pub place : b.place ≡ p
  pub begin : b.begin ≡ first_begin p entries
  pub low : b.begin < 16777216
  pub aligned : p % 32 ≡ 0
  pub frames : List ℕ
  pub spells : IsBatch b.begin entries frames
  pub some : 32 ≤ length frames
  pub whole : length frames % 32 ≡ 0
  pub within : b.begin % 65536 + length frames ≤ 65536
  pub bytes : b.bytes.items ≡ frames ++ replicate (zeros_behind b.fills) 0
  pub fills_is : b.fills ≡ (b.begin % 65536 + length frames == 65536)
  pub behind_pad : b.begin ≢ p → length frames + 32 ≤ 65536

-- how many calls of the disk the append of these entries at place p has: behind a pad, to a segment's end before another
-- segment, or else
abbrev pub append_calls : ℕ → Log → ℕ
append_calls p entries = if first_begin p entries == p then (if (p % 65536 + frames_of entries == 65536) && nat_lt (p / 65536) 255 then 7 else 5) else 6

-- the same, of a batch that is spelled
abbrev pub write_calls : Batch → ℕ
write_calls b = if b.begin == b.place then (if b.fills && nat_lt (b.place / 65536) 255 then 7 else 5) else 6

-- each image stands for a log that a member may hold, and these entries are spelled behind it
pub record CanWrite (log entries : Log) (b : Batch) (files : ℕ → FileState) : Type 0 where
  pub sound : IsHeld log
  pub spelled : IsSpelled (place log) entries b
  pub stands : EachImage (LogIs log) files
