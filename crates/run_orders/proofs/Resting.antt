-- A fuse that is set, and a stop, on both sides.
use Rattle.std.proofs.Common.{◌≡◌, ℕ, ◌+◌, Bool, List, [], ◌∷◌, length, Some, refl, sym, ap, ◌∙◌, subst}
use Rattle.cl_base.specs.Disk.{FileState, DiskState, IsImage, IsImageOf, CrashLeaves, settled_file}
use Rattle.cl_base.specs.Torn.{settled_image}
use Rattle.cl_base.specs.declared.disk.Choice.{Choice}
use Rattle.cl_base.specs.declared.disk.Choice.TheVariants.{Keep}
use Rattle.entry_log.specs.Durable.{SnapshotEntry}
use Rattle.recording_log.specs.declared.entry.RecEntry.{RecEntry}
use Rattle.service_api.specs.declared.shipped.Kind.{Kind}
use Rattle.service_phases.specs.Pairs.{Each2}
use Rattle.member_disk.specs.Kept.{Kept, EachStands, ReadsLike, IsSettled}
use Rattle.run_world.specs.Seat.{Seat, fused, rested}
use Rattle.member_disk.specs.CutWell.{snapshots_of}
use Rattle.run_orders.specs.Kept.{IsStored, IsStateOf, IsMountable, HasFaults}
use Rattle.run_orders.specs.Stands.{HomeSeen, UpSeen, Up, Down, SeatSeen, IsUp, IsDown, IsHome, IsSeat, disk_of, with_disk}

module _ {D : Type 0} (state : D → DiskState) (kinds : List Kind) where
  home-fused : (h : HomeSeen D) (d : D) (calls : ℕ) (choice : Choice) (s : Seat) → (state d).files ≡ (state (disk_of h)).files → IsHome state kinds h s → IsHome state kinds (with_disk d h) (fused calls choice s)
  home-fused (Up u going) d calls choice s files is = record {
    up = is.up;
    values = is.values;
    whole = is.whole;
    mountable = is.mountable;
    each = subst (EachStands u.disk.kept) (sym files) is.each;
    durable = subst (λ (fs : ℕ → FileState). IsStateOf u.disk.kept fs s.member.durable) (sym files) is.durable;
    has_module = record {
      applied = is.has_module.applied;
      state = is.has_module.state;
      entries = is.has_module.entries;
      events = is.has_module.events;
      coming = is.has_module.coming;
      alive = is.has_module.alive;
      since = is.has_module.since;
    };
    first = is.first;
    within = is.within;
    inputs = is.inputs;
    phase = is.phase;
  }
  home-fused (Down e) d calls choice s files is = record {
    kept = is.kept;
    mountable = is.mountable;
    settled = subst IsSettled (sym files) is.settled;
    reads = subst (ReadsLike is.kept) (sym files) is.reads;
    durable = subst (λ (fs : ℕ → FileState). IsStateOf is.kept fs s.member.durable) (sym files) is.durable;
    member = is.member;
    run = is.run;
    applied = is.applied;
    phase = is.phase;
    alive = is.alive;
    since = is.since;
  }

  disk-there : (h : HomeSeen D) (d : D) → disk_of (with_disk d h) ≡ d
  disk-there (Up u going) d = refl
  disk-there (Down e) d = refl

  pub seat-fused : (x : SeatSeen D) (s : Seat) (d : D) (calls : ℕ) (choice : Choice) → IsSeat state kinds x s → state d ≡ record (state (disk_of x.home)) { lets = Some calls }
      → IsSeat state kinds (record { home = with_disk d x.home; choice = choice; ended = x.ended }) (fused calls choice s)
  seat-fused x s d calls choice is told = record {
    home = home-fused x.home d calls choice s (ap (λ (t : DiskState). t.files) told) is.home;
    faults = subst (λ (e : D). HasFaults (state e) choice (fused calls choice s).faults) (sym (disk-there x.home d)) (record {
      lets = sym (ap (λ (t : DiskState). t.lets) told);
      left = refl;
      own = is.faults.own ∙ sym (ap (λ (t : DiskState). t.own_faults) told);
      alive = ap (λ (t : DiskState). t.burnt) told ∙ is.faults.alive;
    });
    ended = is.ended;
  }

  -- ---- a stop

  module _ (old : D) (new : D) (crash : CrashLeaves Keep (state old) (state new)) (sound : (f : ℕ) → IsImage ((state old).files f) ((state old).files f).reads) where
    file-reads : (f : ℕ) → ((state new).files f).reads ≡ ((state old).files f).reads
    file-reads f = ap (λ (t : FileState). t.reads) (crash.files f)

    reads-image : IsImageOf (state old).files (λ f. ((state new).files f).reads)
    reads-image f = subst (IsImage ((state old).files f)) (sym (file-reads f)) (sound f)

    at-rest : IsSettled (state new).files
    at-rest c image f low =
        let here : IsImage (settled_file ((state old).files f).reads) (c f) = subst (λ (t : FileState). IsImage t (c f)) (crash.files f) (image f) in
        settled_image ((state old).files f).reads (c f) here ∙ sym (file-reads f)

    stored : (e : RecEntry) (s : SnapshotEntry) → IsStored (state old).files e s → IsStored (state new).files e s
    stored e s is = record {
      recording = is.recording;
      service = is.service;
      term = is.term;
      position = is.position;
      stamp = is.stamp;
      pieces = crash.files (258 + s.recording) ∙ ap (λ (t : FileState). settled_file t.reads) is.pieces;
    }

    all-stored : (es : List RecEntry) (ss : List SnapshotEntry) → Each2 (IsStored (state old).files) es ss → Each2 (IsStored (state new).files) es ss
    all-stored [] [] each = each
    all-stored [] (s ∷ ss) each = absurd each
    all-stored (e ∷ es) [] each = absurd each
    all-stored (e ∷ es) (s ∷ ss) each = (stored e s each.0, all-stored es ss each.1)

    pub rest-down : (kept : Kept) (s : Seat) (own : ℕ) → IsMountable (length kinds) kept → EachStands kept (state old).files → IsStateOf kept (state old).files s.member.durable → IsDown state kinds new (rested own s)
    rest-down kept s own mountable each durable =
        let there = each (λ f. ((state new).files f).reads) reads-image in
        record {
          kept = kept;
          mountable = mountable;
          settled = at-rest;
          reads = record { node = there.node.0; entries = there.entries; log = there.log };
          durable = record { candidate = durable.candidate; voted = durable.voted; log = durable.log; snapshots = all-stored (snapshots_of kept.entries) s.member.durable.snapshots durable.snapshots };
          member = refl;
          run = refl;
          applied = refl;
          phase = refl;
          alive = refl;
          since = refl;
        }

  pub up-rests : (u : UpSeen D) (going : Bool) (s : Seat) (own : ℕ) (new : D) → ((f : ℕ) → IsImage ((state u.disk.disk).files f) ((state u.disk.disk).files f).reads) → CrashLeaves Keep (state u.disk.disk) (state new)
      → IsUp state kinds u going s → IsDown state kinds new (rested own s)
  up-rests u going s own new sound crash is = rest-down u.disk.disk new crash sound u.disk.kept s own is.mountable is.each is.durable
