-- What a crash leaves of a disk, and a member that stops, on both sides.
use Rattle.std.proofs.Common.{◌≡◌, ℕ, suc, ◌<◌, ◌≤◌, Bool, true, false, ◌&&◌, List, [], ◌∷◌, ◌++◌, length, map, take, drop, refl, sym, ap, ◌∙◌, subst, arith, if◌then◌else◌}
use Rattle.std.specs.Prelude.{nat_lt}
use Rattle.std.proofs.Math.Seq.{drop-append_seam}
use Rattle.std.proofs.lemmas.Bool.Decides.{nat_tests}
use Rattle.std.proofs.lemmas.List.{append_assoc, append-nil, length-take-le}
use Rattle.cl_base.specs.Disk.{FileState, DiskState, CrashLeaves, IsImage}
use Rattle.cl_base.specs.Images.{IsSound}
use Rattle.cl_base.specs.declared.disk.Choice.{Choice}
use Rattle.entry_log.specs.Durable.{Durable}
use Rattle.entry_log.specs.Log.{Log}
use Rattle.log_segment.specs.Held.{IsHeld}
use Rattle.recording_log.specs.declared.entry.RecEntry.{RecEntry}
use Rattle.service_api.specs.declared.shipped.Kind.{Kind}
use Rattle.service_container.specs.Held.{Held as ContainerHeld}
use Rattle.service_phases.specs.Pairs.{Each, Each2}
use Rattle.member_disk.specs.Kept.{Kept}
use Rattle.member_disk.specs.CutWell.{IsDurable, snapshots_of}
use Rattle.consensus_core.specs.declared.change.Change.TheVariants as changes
use Rattle.consensus_core.specs.Member.{Run}
use Rattle.run_world.specs.Seat.{Seat, rested}
use Rattle.run_world.specs.RunWorld.{Fails, RunWorld, Stops, does, is_up, put, seat}
use Rattle.run_orders.specs.Kept.{HasBase, IsStored, IsStateOf}
use Rattle.run_orders.specs.Stands.{EndedSeen, HaveInputs, IsDown, IsEnded, IsSeat, IsUp, RunSeen, Stands, UpSeen, containers_of, parts_of, seen_put}
use Rattle.run_orders.proofs.Standing.{put-stands}
use Rattle.member_rows.specs.Places.{stopped_seat, run_ended, running_seat}
use Rattle.member_rows.proofs.Images.{IsLeft, durable-left, left-image}

-- ---- what a crash leaves, of a disk an image of which is durable so

module _ (choice : Choice) (old new : DiskState) (crash : CrashLeaves choice old new) (sound : (f : ℕ) → IsSound (old.files f)) where
  pub kept-left : (k : Kept) (services : ℕ) (was : ℕ → FileState) (d : Durable) → ((g : ℕ) → 258 ≤ g → old.files g ≡ was g) → k.services ≡ services → IsHeld k.log → Each (HasBase k.log) (snapshots_of k.entries) → IsStateOf k was d
      → IsDurable k (λ f. (new.files f).reads) → IsLeft services d new.files
  kept-left k services was d same count held bases is dur =
      let l : Kept = record { node = k.node; entries = dur.entries; log = k.log; services = k.services } in
      let there : Each (HasBase k.log) (snapshots_of dur.entries) = subst (Each (HasBase k.log)) (sym dur.snapshots) bases in
      durable-left choice old new crash sound changes.Nothing l services was d same (record { count = count; held = held; terms = dur.terms; bases = there }) held there
      (record { candidate = is.candidate; voted = is.voted; log = is.log; snapshots = subst (λ (es : List RecEntry). Each2 (IsStored was) es d.snapshots) (sym dur.snapshots) is.snapshots })
      (record { node = dur.node; entries = dur.entries; holds = dur.holds; snapshots = refl; terms = dur.terms; log = dur.log })

-- ---- what the services of a run that ends consumed

each-append : {A B : Type 0} (R : A → B → Type 0) (as' : List A) (bs : List B) (cs : List A) (ds : List B) → Each2 R as' bs → Each2 R cs ds → Each2 R (as' ++ cs) (bs ++ ds)
each-append R [] [] cs ds e f = f
each-append R [] (b ∷ bs) cs ds e f = absurd e
each-append R (a ∷ as') [] cs ds e f = absurd e
each-append R (a ∷ as') (b ∷ bs) cs ds e f = (e.0, each-append R as' bs cs ds e.1 f)

parts-more : (rs : List Run) (r : Run) → parts_of (rs ++ r ∷ []) ≡ parts_of rs ++ map (λ (xs : Log). (r.first, xs)) r.inputs
parts-more [] r = append-nil (map (λ (xs : Log). (r.first, xs)) r.inputs)
parts-more (q ∷ rs) r =
    ap (λ (ps : List (ℕ × Log)). map (λ (xs : Log). (q.first, xs)) q.inputs ++ ps) (parts-more rs r)
    ∙ sym (append_assoc (map (λ (xs : Log). (q.first, xs)) q.inputs) (parts_of rs) (map (λ (xs : Log). (r.first, xs)) r.inputs))

abbrev seen : ℕ → ContainerHeld → EndedSeen
seen base c = record { from = base; inputs = c.inputs }

past : (base : ℕ) (log : Log) (xs inputs : Log) → base ≤ length log → xs ≡ take base log ++ inputs → inputs ≡ drop base xs
past base log xs inputs within is =
    sym (drop-append_seam (take base log) inputs)
    ∙ ap (λ (n : ℕ). drop n (take base log ++ inputs)) (length-take-le base log within)
    ∙ ap (drop base) (sym is)

each-ended : (kinds : List Kind) (base first : ℕ) (log : Log) (number : ℕ) (cs : List ContainerHeld) (xss : List Log) → base ≡ first → base ≤ length log → HaveInputs kinds base log number cs xss
    → Each2 IsEnded (map (seen base) cs) (map (λ (xs : Log). (first, xs)) xss)
each-ended [] base first log number [] [] same within have = tt
each-ended [] base first log number [] (xs ∷ xss) same within have = absurd have
each-ended [] base first log number (c ∷ cs) xss same within have = absurd have
each-ended (kind ∷ kinds) base first log number [] xss same within have = absurd have
each-ended (kind ∷ kinds) base first log number (c ∷ cs) [] same within have = absurd have
each-ended (kind ∷ kinds) base first log number (c ∷ cs) (xs ∷ xss) same within have =
    (record { from = same; inputs = past base log xs c.inputs within have.0.inputs }, each-ended kinds base first log (suc number) cs xss same within have.1)

up-true : (a b : Bool) → a ≡ true → b ≡ true → (a && b) ≡ true
up-true true true a b = refl
up-true true false a b = absurd (cc)
up-true false b a c = absurd (cc)

-- ---- a member that stops

module _ {D : Type 0} (state : D → DiskState) (kinds : List Kind) (u : UpSeen D) (going : Bool) (choice : Choice) (ended : List EndedSeen) where
  module _ (s : Seat) (e d : D) (is : IsSeat state kinds (running_seat choice ended u going) s) (sound : (f : ℕ) → IsSound ((state u.disk.disk).files f))
      (same : (f : ℕ) → (state e).files f ≡ (state u.disk.disk).files f) (left : Choice) (crash : CrashLeaves left (state e) (state d)) where
    up : IsUp state kinds u going s
    up = is.home

    abbrev image : ℕ → List ℕ
    image f = ((state d).files f).reads

    sound-there : (f : ℕ) → IsSound ((state e).files f)
    sound-there f = subst IsSound (sym (same f)) (sound f)

    image-there : (f : ℕ) → IsImage ((state u.disk.disk).files f) (image f)
    image-there f = subst (λ (t : FileState). IsImage t (image f)) (same f) (left-image left (state e) (state d) crash sound-there f)

    is-left : IsLeft (length kinds) s.member.durable (state d).files
    is-left =
        let there = up.each image image-there in
        kept-left left (state e) (state d) crash sound-there u.disk.kept (length kinds) (state u.disk.disk).files s.member.durable (λ g high. same g) up.mountable.count up.mountable.held up.mountable.bases up.durable
        (record { node = there.node; entries = u.disk.kept.entries; holds = there.entries; snapshots = refl; terms = up.mountable.terms; log = there.log })

    is-down : (own : ℕ) → IsDown state kinds d (rested own s)
    is-down own = record {
      kept = is-left.kept;
      mountable = is-left.mountable;
      settled = is-left.settled;
      reads = is-left.reads;
      durable = is-left.durable;
      member = refl;
      run = refl;
      applied = refl;
      phase = refl;
      alive = refl;
      since = refl;
    }

    all-ended : Each2 IsEnded (ended ++ run_ended u going) (parts_of (s.ended ++ s.run ∷ []))
    all-ended =
        subst (λ (ps : List (ℕ × Log)). Each2 IsEnded (ended ++ run_ended u going) ps) (sym (parts-more s.ended s.run))
        (each-append IsEnded ended (parts_of s.ended) (run_ended u going) (map (λ (xs : Log). (s.run.first, xs)) s.run.inputs) is.ended
        (each-ended kinds u.base s.run.first s.member.durable.log 0 (containers_of going u.lending) s.run.inputs up.first up.within up.inputs))

    pub rests-so : (own : ℕ) → own ≡ (state e).own_faults → IsSeat state kinds (stopped_seat ended u going d) (rested own s)
    rests-so own many = record {
      home = is-down own;
      faults = record { lets = sym crash.lets; left = refl; own = many ∙ sym crash.own; alive = crash.burnt };
      ended = all-ended;
    }

  pub stop-rests : (s : Seat) (e d : D) → IsSeat state kinds (running_seat choice ended u going) s → ((f : ℕ) → IsSound ((state u.disk.disk).files f)) → (state e).own_faults ≡ (state u.disk.disk).own_faults
      → ((f : ℕ) → (state e).files f ≡ (state u.disk.disk).files f) → (left : Choice) → CrashLeaves left (state e) (state d) → IsSeat state kinds (stopped_seat ended u going d) (rested s.faults.own s)
  stop-rests s e d is sound own same left crash = rests-so s e d is sound same left crash s.faults.own (is.faults.own ∙ sym own)

  module _ (x : RunSeen D) (w : RunWorld) (m : ℕ) (stands : Stands state kinds x w) (low : m < length w.seats) (is : IsSeat state kinds (running_seat choice ended u going) (seat w m)) where
    there : IsUp state kinds u going (seat w m)
    there = is.home

    is-up : is_up w m ≡ true
    is-up = up-true (nat_lt m (length w.seats)) (seat w m).member.up (grind (arith, nat_tests, low)) there.up

    put-so : (own : ℕ) (d : D) → IsSeat state kinds (stopped_seat ended u going d) (rested own (seat w m))
        → Stands state kinds (seen_put m (stopped_seat ended u going d) [] [] x) (if is_up w m then put m (rested own (seat w m)) [] w else w)
    put-so own d here =
        subst (λ (b : Bool). Stands state kinds (seen_put m (stopped_seat ended u going d) [] [] x) (if b then put m (rested own (seat w m)) [] w else w)) (sym is-up)
        (put-stands D state kinds x w m (stopped_seat ended u going d) (rested own (seat w m)) [] stands here)

    pub stop-stands : (d : D) → ((f : ℕ) → IsSound ((state u.disk.disk).files f)) → (left : Choice) → CrashLeaves left (state u.disk.disk) (state d)
        → Stands state kinds (seen_put m (stopped_seat ended u going d) [] [] x) (does kinds w (Stops m))
    stop-stands d sound left crash = put-so (seat w m).faults.own d (stop-rests (seat w m) u.disk.disk d is sound refl (λ f. refl) left crash)

    pub fail-stands : (e d : D) → ((f : ℕ) → IsSound ((state u.disk.disk).files f)) → ((f : ℕ) → (state e).files f ≡ (state u.disk.disk).files f) → (left : Choice) → CrashLeaves left (state e) (state d)
        → Stands state kinds (seen_put m (stopped_seat ended u going d) [] [] x) (does kinds w (Fails m (state e).own_faults))
    fail-stands e d sound same left crash = put-so (state e).own_faults d (rests-so (seat w m) e d is sound same left crash (state e).own_faults refl)
