-- What files stand for after some of them have changed.
use Rattle.std.proofs.Common.{◌≡◌, ◌≢◌, ◌⊎◌, inl, ℕ, ◌+◌, ◌<◌, ◌≤◌, List, sym, subst, arith}
use Rattle.cl_base.specs.Disk.{FileState, OthersStay}
use Rattle.node_state.specs.Node.{Node, Tells}
use Rattle.recording_log.specs.declared.entry.RecEntry.{RecEntry}
use Rattle.recording_log.specs.Entries.{Holds}
use Rattle.entry_log.specs.Log.{Log}
use Rattle.log_segment.specs.Segment.{SegmentIs, LogIs}
use Rattle.member_disk.specs.Kept.{Kept, ReadsAs}

-- the log of the segments, which stay
pub log_stays : (log : Log) (f0 f1 : ℕ → FileState) → ((s : ℕ) → s < 256 → f1 (2 + s) ≡ f0 (2 + s)) → LogIs log (λ f. (f0 f).reads) → LogIs log (λ f. (f1 f).reads)
log_stays log f0 f1 same is s below = subst (λ (x : FileState). SegmentIs s log x.reads) (sym (same s below)) (is s below)

node_stays : (node : Node) (f0 f1 : ℕ → FileState) → f1 0 ≡ f0 0 → Tells node (f0 0).reads → Tells node (f1 0).reads
node_stays node f0 f1 same is = subst (λ (x : FileState). Tells node x.reads) (sym same) is

entries_stay : (entries : List RecEntry) (f0 f1 : ℕ → FileState) → f1 1 ≡ f0 1 → Holds entries (f0 1).reads → Holds entries (f1 1).reads
entries_stay entries f0 f1 same is = subst (λ (x : FileState). Holds entries x.reads) (sym same) is

pub one_ne : ◌≢◌ {A = ℕ} 1 0
one_ne is = absurd (omega arith)

pub none_ne : ◌≢◌ {A = ℕ} 0 1
none_ne is = absurd (omega arith)

module _ (kept : Kept) (f0 f1 : ℕ → FileState) (reads : ReadsAs kept f0) where
  pub after_node : (node : Node) → OthersStay 0 f0 f1 → Tells node (f1 0).reads → ReadsAs (record kept { node = node }) f1
  after_node node others now = record {
    node = now;
    entries = entries_stay kept.entries f0 f1 (others 1 one_ne) reads.entries;
    log = log_stays kept.log f0 f1 (λ s below. others (2 + s) (λ is. absurd (omega arith))) reads.log;
  }

  pub after_entries : (entries : List RecEntry) → OthersStay 1 f0 f1 → Holds entries (f1 1).reads → ReadsAs (record kept { entries = entries }) f1
  after_entries entries others now = record {
    node = node_stays kept.node f0 f1 (others 0 none_ne) reads.node;
    entries = now;
    log = log_stays kept.log f0 f1 (λ s below. others (2 + s) (λ is. absurd (omega arith))) reads.log;
  }

  pub after_log : (log : Log) → ((g : ℕ) → (g < 2) ⊎ (258 ≤ g) → f1 g ≡ f0 g) → LogIs log (λ f. (f1 f).reads) → ReadsAs (record kept { log = log }) f1
  after_log log others now = record {
    node = node_stays kept.node f0 f1 (others 0 (inl (omega arith))) reads.node;
    entries = entries_stay kept.entries f0 f1 (others 1 (inl (omega arith))) reads.entries;
    log = now;
  }

  -- a change of a snapshot's file
  pub after_snapshot : (file : ℕ) → 258 ≤ file → OthersStay file f0 f1 → ReadsAs kept f1
  after_snapshot file past others = record {
    node = node_stays kept.node f0 f1 (others 0 (λ is. absurd (omega arith))) reads.node;
    entries = entries_stay kept.entries f0 f1 (others 1 (λ is. absurd (omega arith))) reads.entries;
    log = log_stays kept.log f0 f1 (λ s below. others (2 + s) (λ is. absurd (omega arith))) reads.log;
  }

  pub after_look : ((g : ℕ) → f1 g ≡ f0 g) → ReadsAs kept f1
  after_look same = record {
    node = node_stays kept.node f0 f1 (same 0) reads.node;
    entries = entries_stay kept.entries f0 f1 (same 1) reads.entries;
    log = log_stays kept.log f0 f1 (λ s below. same (2 + s)) reads.log;
  }
