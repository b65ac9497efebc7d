-- What a crash leaves of a disk that a fault cut.
use Rattle.std.proofs.Common.{◌≡◌, ℕ, ◌+◌, ◌≤◌, List, [], ◌∷◌, refl, sym, ap, ◌∙◌, subst, arith}
use Rattle.cl_base.specs.Disk.{FileState, DiskState, IsImage, IsImageOf, CrashLeaves, left_by, settled_file}
use Rattle.cl_base.specs.Images.{IsSound, left_is_image, left_by-settled}
use Rattle.cl_base.specs.Torn.{settled_image}
use Rattle.cl_base.specs.declared.disk.Choice.{Choice}
use Rattle.entry_log.specs.Durable.{Durable, SnapshotEntry}
use Rattle.entry_log.specs.Log.{Log}
use Rattle.log_segment.specs.Held.{IsHeld}
use Rattle.recording_log.specs.declared.entry.RecEntry.{RecEntry}
use Rattle.node_state.specs.Node.{Node}
use Rattle.member_disk.specs.Kept.{Kept, ReadsLike, IsSettled}
use Rattle.member_disk.specs.CutWell.{IsDurable, snapshots_of}
use Rattle.consensus_core.specs.declared.change.Change.{Change}
use Rattle.consensus_core.specs.declared.change.Change.TheVariants as changes
use Rattle.consensus_core.specs.Member.{changed, changed_log}
use Rattle.service_phases.specs.Pairs.{Each, Each2}
use Rattle.run_orders.specs.Kept.{HasBase, IsStored, IsStateOf, IsMountable}
use Rattle.consensus_agent.specs.Disks.{changed_kept}

-- ---- snapshots whose files stay

stored-on : (f g : ℕ → FileState) → ((n : ℕ) → 258 ≤ n → g n ≡ f n) → (e : RecEntry) (s : SnapshotEntry) → IsStored f e s → IsStored g e s
stored-on f g same e s is = record {
  recording = is.recording;
  service = is.service;
  term = is.term;
  position = is.position;
  stamp = is.stamp;
  pieces = same (258 + s.recording) (omega arith) ∙ is.pieces;
}

pub all-stored-on : (f g : ℕ → FileState) → ((n : ℕ) → 258 ≤ n → g n ≡ f n) → (es : List RecEntry) (ss : List SnapshotEntry) → Each2 (IsStored f) es ss → Each2 (IsStored g) es ss
all-stored-on f g same [] [] each = each
all-stored-on f g same [] (s ∷ ss) each = absurd each
all-stored-on f g same (e ∷ es) [] each = absurd each
all-stored-on f g same (e ∷ es) (s ∷ ss) each = (stored-on f g same e s each.0, all-stored-on f g same es ss each.1)

stored-left : (choice : Choice) (f g : ℕ → FileState) → ((n : ℕ) → g n ≡ settled_file (left_by choice (f n))) → (e : RecEntry) (s : SnapshotEntry) → IsStored f e s → IsStored g e s
stored-left choice f g left e s is = record {
  recording = is.recording;
  service = is.service;
  term = is.term;
  position = is.position;
  stamp = is.stamp;
  pieces = left (258 + s.recording) ∙ ap (λ (t : FileState). settled_file (left_by choice t)) is.pieces ∙ ap settled_file (left_by-settled choice _);
}

pub all-stored-left : (choice : Choice) (f g : ℕ → FileState) → ((n : ℕ) → g n ≡ settled_file (left_by choice (f n))) → (es : List RecEntry) (ss : List SnapshotEntry) → Each2 (IsStored f) es ss → Each2 (IsStored g) es ss
all-stored-left choice f g left [] [] each = each
all-stored-left choice f g left [] (s ∷ ss) each = absurd each
all-stored-left choice f g left (e ∷ es) [] each = absurd each
all-stored-left choice f g left (e ∷ es) (s ∷ ss) each = (stored-left choice f g left e s each.0, all-stored-left choice f g left es ss each.1)

-- ---- what a change leaves alone

pub entries-stay : (c : Change) (k : Kept) → (changed_kept c k).entries ≡ k.entries
entries-stay changes.Nothing k = refl
entries-stay (changes.Raise term voted) k = refl
entries-stay (changes.Append entries) k = refl
entries-stay (changes.Cut n) k = refl

pub services-stay : (c : Change) (k : Kept) → (changed_kept c k).services ≡ k.services
services-stay changes.Nothing k = refl
services-stay (changes.Raise term voted) k = refl
services-stay (changes.Append entries) k = refl
services-stay (changes.Cut n) k = refl

pub log-changes : (c : Change) (k : Kept) → (changed_kept c k).log ≡ changed_log c k.log
log-changes changes.Nothing k = refl
log-changes (changes.Raise term voted) k = refl
log-changes (changes.Append entries) k = refl
log-changes (changes.Cut n) k = refl

-- what is kept with these SNAPSHOT entries, after a change, is the durable state after it
pub state-after : (c : Change) (k l : Kept) (f g : ℕ → FileState) (d : Durable) → l.node ≡ (changed_kept c k).node → l.log ≡ (changed_kept c k).log → Each2 (IsStored g) (snapshots_of l.entries) d.snapshots → IsStateOf k f d → IsStateOf l g (changed c d)
state-after changes.Nothing k l f g d node log snaps is = record { candidate = is.candidate ∙ ap (λ (n : Node). n.term) (sym node); voted = is.voted ∙ ap (λ (n : Node). n.voted) (sym node); log = is.log ∙ sym log; snapshots = snaps }
state-after (changes.Raise term voted) k l f g d node log snaps is = record { candidate = ap (λ (n : Node). n.term) (sym node); voted = ap (λ (n : Node). n.voted) (sym node); log = is.log ∙ sym log; snapshots = snaps }
state-after (changes.Append entries) k l f g d node log snaps is = record {
  candidate = is.candidate ∙ ap (λ (n : Node). n.term) (sym node);
  voted = is.voted ∙ ap (λ (n : Node). n.voted) (sym node);
  log = ap (changed_log (changes.Append entries)) is.log ∙ sym log;
  snapshots = snaps;
}
state-after (changes.Cut n) k l f g d node log snaps is = record {
  candidate = is.candidate ∙ ap (λ (m : Node). m.term) (sym node);
  voted = is.voted ∙ ap (λ (m : Node). m.voted) (sym node);
  log = ap (changed_log (changes.Cut n)) is.log ∙ sym log;
  snapshots = snaps;
}

-- ---- a crash by any choice

-- what is left of a disk an image of which is durable so
pub record IsLeft (services : ℕ) (d : Durable) (files : ℕ → FileState) : Type 0 where
  pub kept : Kept
  pub mountable : IsMountable services kept
  pub settled : IsSettled files
  pub reads : ReadsLike kept files
  pub durable : IsStateOf kept files d

module _ (choice : Choice) (old new : DiskState) (crash : CrashLeaves choice old new) (sound : (f : ℕ) → IsSound (old.files f)) where
  file-reads : (f : ℕ) → (new.files f).reads ≡ left_by choice (old.files f)
  file-reads f = ap (λ (t : FileState). t.reads) (crash.files f)

  pub left-image : IsImageOf old.files (λ f. (new.files f).reads)
  left-image f = subst (IsImage (old.files f)) (sym (file-reads f)) (left_is_image choice (old.files f) (sound f))

  at-rest : IsSettled new.files
  at-rest c image f low =
      let here : IsImage (settled_file (left_by choice (old.files f))) (c f) = subst (λ (t : FileState). IsImage t (c f)) (crash.files f) (image f) in
      settled_image (left_by choice (old.files f)) (c f) here ∙ sym (file-reads f)

  -- k is what was kept with the change c made or not made
  pub durable-left : (c : Change) (k : Kept) (services : ℕ) (was : ℕ → FileState) (d : Durable) → ((g : ℕ) → 258 ≤ g → old.files g ≡ was g) → IsMountable services k → IsHeld (changed_log c k.log) → Each (HasBase (changed_log c k.log)) (snapshots_of k.entries) → IsStateOf k was d
      → IsDurable (changed_kept c k) (λ f. (new.files f).reads) → IsLeft services (changed c d) new.files
  durable-left c k services was d same mountable held bases is dur =
      let l : Kept = record { node = (changed_kept c k).node; entries = dur.entries; log = (changed_kept c k).log; services = (changed_kept c k).services } in
      let snaps : snapshots_of dur.entries ≡ snapshots_of k.entries = dur.snapshots ∙ ap snapshots_of (entries-stay c k) in
      let stored : Each2 (IsStored new.files) (snapshots_of dur.entries) d.snapshots =
      subst (λ (es : List RecEntry). Each2 (IsStored new.files) es d.snapshots) (sym snaps)
      (all-stored-left choice old.files new.files crash.files (snapshots_of k.entries) d.snapshots (all-stored-on was old.files same (snapshots_of k.entries) d.snapshots is.snapshots)) in
      record {
        kept = l;
        mountable = record {
          count = services-stay c k ∙ mountable.count;
          held = subst IsHeld (sym (log-changes c k)) held;
          terms = dur.terms;
          bases = subst (λ (g : Log). Each (HasBase g) (snapshots_of dur.entries)) (sym (log-changes c k)) (subst (Each (HasBase (changed_log c k.log))) (sym snaps) bases);
        };
        settled = at-rest;
        reads = record { node = dur.node.0; entries = dur.holds; log = dur.log };
        durable = state-after c k l was new.files d refl refl stored is;
      }
