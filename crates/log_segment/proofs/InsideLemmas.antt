-- What a gated write makes of a segment.
use Rattle.std.specs.Prelude.{◌&&◌, if◌then◌else◌}
use Rattle.std.proofs.Common.{◌≡◌, ℕ, ◌+◌, ◌<◌, ◌==◌, Bool, true, false, List, [], ◌∷◌, ◌++◌, length}
use Rattle.cl_base.specs.Disk.{FileState, DiskState, ChangesFile, settled_file, overwritten, left_by}
use Rattle.cl_base.specs.Every.{EveryImage, FileIs, takes}
use Rattle.cl_base.specs.EveryRun.{every_settled}
use Rattle.cl_base.specs.Gated.{GatedImage, GatedLeft, IsOne, shut, open_byte, is_open_byte, gated_each, gated_run, gated_after, gated_fuse}
use Rattle.entry_log.specs.Log.{Log}
use Rattle.log_segment.specs.Segment.{SegmentIs}
use Rattle.log_segment.specs.Batch.{IsAppend, SegmentIsOne, AppendLeft}
use Rattle.log_segment.proofs.AppendLemmas.{append_keeps, append_flips, shut_before, gate_within}

module _ (log batch : Log) (s at : ℕ) (bytes head tail : List ℕ) (is : IsAppend log batch s at bytes head tail) (low : s < 256) (size : length head ≡ 31)
    (f0 : ℕ → FileState) (every : EveryImage (2 + s) (SegmentIs s log) f0 f0) (read : SegmentIs s log (f0 (2 + s)).reads) where
  abbrev Before : List ℕ → Type 0
  Before = SegmentIs s log

  abbrev After : List ℕ → Type 0
  After = SegmentIs s (log ++ batch)

  abbrev reads : List ℕ
  reads = (f0 (2 + s)).reads

  abbrev Gated : List ℕ → Type 0
  Gated = GatedImage at head (at + 31) tail (f0 (2 + s))

  pub appended_all : (f1 : ℕ → FileState) → ChangesFile (2 + s) f0 f1 (settled_file (overwritten (at + 31) (open_byte ∷ []) (shut at head (at + 31) tail reads))) → EveryImage (2 + s) After f0 f1
  appended_all f1 ch = every_settled (2 + s) After f0 (overwritten (at + 31) (open_byte ∷ []) (shut at head (at + 31) tail reads)) f1 ch.changed ch.others
      (gated_after Before After (2 + s) at head (at + 31) tail f0 (append_keeps log batch s at bytes head tail is low size) (append_flips log batch s at bytes head tail is low size reads read) every
      (shut_before log batch s at bytes head tail is low size reads read) (gate_within log batch s at bytes head tail is low size reads read))

  pub appended_each : (f1 : ℕ → FileState) → EveryImage (2 + s) Gated f0 f1 → EveryImage (2 + s) (SegmentIsOne s log (log ++ batch)) f0 f1
  appended_each f1 each = gated_each Before After (2 + s) at head (at + 31) tail f0 (append_keeps log batch s at bytes head tail is low size) (append_flips log batch s at bytes head tail is low size reads read) every f1 each

  pub appended_moment : (c : ℕ → List ℕ) → FileIs (2 + s) Gated f0 c → FileIs (2 + s) (SegmentIsOne s log (log ++ batch)) f0 c
  appended_moment c now = gated_run Before After (2 + s) at head (at + 31) tail f0 (append_keeps log batch s at bytes head tail is low size) (append_flips log batch s at bytes head tail is low size reads read) every c now

  pick : (b : Bool) (c : List ℕ) → IsOne Before After b c → SegmentIs s (if b then log ++ batch else log) c
  pick true c one = one
  pick false c one = one

  pub appended_fuse : (left : DiskState) (k : ℕ) → k < 5 → GatedLeft (2 + s) at head (at + 31) tail (f0 (2 + s)) left k → AppendLeft s log (log ++ batch) left k
  appended_fuse left k few is_left choice = pick ((k == 4) && takes is_open_byte choice) (left_by choice (left.files (2 + s)))
      (gated_fuse Before After (2 + s) at head (at + 31) tail f0 (append_keeps log batch s at bytes head tail is low size) (append_flips log batch s at bytes head tail is low size reads read) every
      (shut_before log batch s at bytes head tail is low size reads read) (gate_within log batch s at bytes head tail is low size reads read) left k few is_left choice)
