-- What is read of a disk, as that of a disk where nothing is left to sync.
use Rattle.std.proofs.Common.{◌≡◌, ◌≢◌, ℕ, ◌+◌, ◌*◌, ◌<◌, List, [], ◌∷◌, ◌++◌, length, replicate, refl, sym, ap, subst, arith}
use Rattle.cl_base.specs.Disk.{FileState, IsImage, ChangesFile, settled_file, overwritten}
use Rattle.cl_base.specs.Images.{settled_sound}
use Rattle.cl_base.specs.Torn.{Torn, settled_image}
use Rattle.cl_base.specs.Places.{torn_overwritten}
use Rattle.cl_base.specs.Gated.{shut, open_byte}
use Rattle.cl_base.specs.Runs.{EachImage, TornIn}
use Rattle.entry_log.specs.Log.{Log, place}
use Rattle.log_segment.specs.Segment.{IsShut, SegmentIs, LogIs}
use Rattle.log_segment.specs.Batch.{IsAppend}
use Rattle.log_segment.specs.Whole.{IsReady, IsPadded}
use Rattle.log_segment.specs.Cuts.{IsCut}
use Rattle.log_segment.proofs.InsideLemmas.{appended_all}
use Rattle.log_segment.proofs.WholeLemmas.{every_before, each_after, torn_beyond, zeros_shut}
use Rattle.log_segment.proofs.PadLemmas.{pad_after}
use Rattle.log_segment.proofs.CutLemmas.{cut_after}

abbrev still : (ℕ → FileState) → ℕ → FileState
still files g = settled_file (files g).reads

abbrev pub reads_of : (ℕ → FileState) → ℕ → List ℕ
reads_of files g = (files g).reads

reads_still : (files : ℕ → FileState) (g : ℕ) → IsImage (still files g) (still files g).reads
reads_still files g = (settled_sound (files g).reads).reads

pub log_same : (log : Log) (c d : ℕ → List ℕ) → ((g : ℕ) → d g ≡ c g) → LogIs log c → LogIs log d
log_same log c d same is s low = subst (SegmentIs s log) (sym (same (2 + s))) (is s low)

each_still : (log : Log) (files : ℕ → FileState) → LogIs log (reads_of files) → EachImage (LogIs log) (still files)
each_still log files is c image = log_same log (reads_of files) c (λ g. settled_image (files g).reads (c g) (image g)) is

from_still : (log : Log) (files : ℕ → FileState) → EachImage (LogIs log) (still files) → LogIs log (reads_of files)
from_still log files each = each (reads_of files) (reads_still files)

still_same : (a b : FileState) → a ≡ b → settled_file a.reads ≡ settled_file b.reads
still_same a b is = ap (λ (x : FileState). settled_file x.reads) is

module _ (log batch : Log) (s at : ℕ) (bytes head tail : List ℕ) (f0 f1 : ℕ → FileState) (stands : LogIs log (reads_of f0)) where
  pub append_reads : IsAppend log batch s at bytes head tail → s < 256 → length head ≡ 31 → IsReady s at bytes (reads_of f0)
      → ChangesFile (2 + s) f0 f1 (settled_file (overwritten (at + 31) (open_byte ∷ []) (shut at head (at + 31) tail (f0 (2 + s)).reads))) → LogIs (log ++ batch) (reads_of f1)
  append_reads is low size ready changes =
      let g0 = still f0 in
      let g1 = still f1 in
      let each = each_still log f0 stands in
      let every = every_before log batch s at bytes head tail is g0 (reads_still f0) each low in
      let changed : ChangesFile (2 + s) g0 g1 (settled_file (overwritten (at + 31) (open_byte ∷ []) (shut at head (at + 31) tail (g0 (2 + s)).reads))) = record {
        changed = still_same (f1 (2 + s)) (settled_file (overwritten (at + 31) (open_byte ∷ []) (shut at head (at + 31) tail (f0 (2 + s)).reads))) changes.changed;
        others = λ g ne. still_same (f1 g) (f0 g) (changes.others g ne);
      } in
      let after = appended_all log batch s at bytes head tail is low size g0 every (stands s low) g1 changed in
      let ready_each : EachImage (IsReady s at bytes) g0 = λ c image full next. subst (IsShut 0) (sym (settled_image (f0 (2 + (s + 1))).reads (c (2 + (s + 1))) (image (2 + (s + 1))))) (ready full next) in
      from_still (log ++ batch) f1 (each_after log batch s at bytes head tail is g0 (reads_still f0) each ready_each g1 after)

  pub pad_reads : IsPadded log batch s at bytes head tail → s < 255 → length head ≡ 31 → f1 (2 + s) ≡ settled_file (overwritten (at + 31) (open_byte ∷ []) (overwritten at head (f0 (2 + s)).reads))
      → f1 (3 + s) ≡ settled_file (overwritten 0 tail (f0 (3 + s)).reads) → ((g : ℕ) → g ≢ 2 + s → g ≢ 3 + s → f1 g ≡ f0 g) → LogIs (log ++ batch) (reads_of f1)
  pad_reads is low size first second others =
      from_still (log ++ batch) f1
      (pad_after log batch s at bytes head tail is low size (still f0) (reads_still f0) (each_still log f0 stands) (still f1)
      (still_same (f1 (2 + s)) (settled_file (overwritten (at + 31) (open_byte ∷ []) (overwritten at head (f0 (2 + s)).reads))) first)
      (still_same (f1 (3 + s)) (settled_file (overwritten 0 tail (f0 (3 + s)).reads)) second) (λ g ne far. still_same (f1 g) (f0 g) (others g ne far)))

  -- 32 zeros at the next segment's front leave the log
  pub shut_next : IsAppend log batch s at bytes head tail → ChangesFile (3 + s) f0 f1 (settled_file (overwritten 0 (replicate 32 0) (f0 (3 + s)).reads)) → LogIs log (reads_of f1) × IsReady s at bytes (reads_of f1)
  shut_next is changes =
      let zeros = replicate {A = ℕ} 32 0 in
      let number : 2 + (1 + s) ≡ 3 + s = omega arith in
      let next : (f1 (3 + s)).reads ≡ overwritten 0 zeros (f0 (3 + s)).reads = ap (λ (x : FileState). x.reads) changes.changed in
      let torn : TornIn (3 + s) 0 32 (reads_of f0) (reads_of f1) = record {
        this = subst (λ l. Torn 0 32 (f0 (3 + s)).reads l) (sym next) (torn_overwritten 0 zeros (f0 (3 + s)).reads (omega arith));
        others = λ g ne. ap (λ (x : FileState). x.reads) (changes.others g ne);
      } in
      let past : place log < (1 + s) * 65536 = (let in_s = is.segment in omega arith) in (
        torn_beyond log (1 + s) 32 0 is.laid past (reads_of f0) (reads_of f1) stands (subst (λ k. TornIn k 0 32 (reads_of f0) (reads_of f1)) (sym number) torn),
        λ full low.
            let at_next : 2 + (s + 1) ≡ 3 + s = omega arith in
            subst (λ k. IsShut 0 (f1 k).reads) (sym at_next) (subst (IsShut 0) (sym next) (zeros_shut zeros (f0 (3 + s)).reads refl refl)),
      )

pub cut_reads : (log kept : Log) (s at : ℕ) (f0 f1 : ℕ → FileState) → IsCut log kept s at → s < 256 → LogIs log (reads_of f0) → ChangesFile (2 + s) f0 f1 (settled_file (overwritten (at + 31) (0 ∷ []) (f0 (2 + s)).reads)) → LogIs kept (reads_of f1)
cut_reads log kept s at f0 f1 is low stands changes =
    from_still kept f1
    (cut_after log kept s at is low (still f0) (reads_still f0) (each_still log f0 stands) (still f1)
    (still_same (f1 (2 + s)) (settled_file (overwritten (at + 31) (0 ∷ []) (f0 (2 + s)).reads)) changes.changed) (λ g ne. still_same (f1 g) (f0 g) (changes.others g ne)))
