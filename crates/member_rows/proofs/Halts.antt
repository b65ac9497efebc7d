-- A row that a fault cut, and a crash behind it, on both sides.
use Rattle.std.proofs.Common.{◌≡◌, ◌⊎◌, inl, inr, ℕ, suc, ◌≤◌, Bool, true, false, ◌&&◌, List, [], ◌∷◌, ◌++◌, length, map, take, drop, None, refl, sym, ap, ◌∙◌, subst, arith, if◌then◌else◌}
use Rattle.std.specs.Prelude.{IsTrue, not}
use Rattle.std.proofs.Math.Seq.{drop-append_seam}
use Rattle.std.proofs.lemmas.List.{append_assoc, append-nil, length-take-le}
use Rattle.cl_base.specs.Disk.{DiskState, CrashLeaves}
use Rattle.cl_base.specs.Images.{IsSound}
use Rattle.cl_base.specs.declared.disk.Choice.{Choice}
use Rattle.entry_log.specs.Durable.{Durable}
use Rattle.entry_log.specs.Log.{Log}
use Rattle.log_segment.specs.Held.{IsHeld}
use Rattle.service_api.specs.declared.shipped.Kind.{Kind}
use Rattle.service_container.specs.Held.{Held as ContainerHeld}
use Rattle.service_phases.specs.Pairs.{Each, Each2}
use Rattle.service_phases.specs.Phases.{Lending}
use Rattle.member_disk.specs.CutWell.{IsDurableOne, snapshots_of}
use Rattle.consensus_core.specs.declared.change.Change.TheVariants as changes
use Rattle.consensus_core.specs.declared.row.Row.{Row}
use Rattle.consensus_core.specs.Member.{Cut, Run, Before, After, changed, changed_log, is_ready, stopped}
use Rattle.consensus_agent.specs.Disks.{IsRight, changed_kept}
use Rattle.run_world.specs.Seat.{Seat, Fate, halted as stops_so}
use Rattle.run_orders.specs.Kept.{HasBase}
use Rattle.run_orders.specs.Stands.{EndedSeen, HaveInputs, IsDown, IsEnded, IsSeat, IsUp, UpSeen, containers_of, parts_of}
use Rattle.member_rows.specs.Calls.{RowCut}
use Rattle.member_rows.specs.Places.{ActedCut, stopped_seat, run_ended, running_seat}
use Rattle.member_rows.proofs.Handed.{Ready}
use Rattle.member_rows.proofs.Images.{IsLeft, durable-left, left-image}
use Rattle.member_rows.proofs.Logs.{Keeps, held_after, keeps_of}

-- ---- what the services consumed

each-append : {A B : Type 0} (R : A → B → Type 0) (as' : List A) (bs : List B) (cs : List A) (ds : List B) → Each2 R as' bs → Each2 R cs ds → Each2 R (as' ++ cs) (bs ++ ds)
each-append R [] [] cs ds e f = f
each-append R [] (b ∷ bs) cs ds e f = absurd e
each-append R (a ∷ as') [] cs ds e f = absurd e
each-append R (a ∷ as') (b ∷ bs) cs ds e f = (e.0, each-append R as' bs cs ds e.1 f)

parts-more : (rs : List Run) (r : Run) → parts_of (rs ++ r ∷ []) ≡ parts_of rs ++ map (λ (xs : Log). (r.first, xs)) r.inputs
parts-more [] r = append-nil (map (λ (xs : Log). (r.first, xs)) r.inputs)
parts-more (q ∷ rs) r =
    ap (λ (ps : List (ℕ × Log)). map (λ (xs : Log). (q.first, xs)) q.inputs ++ ps) (parts-more rs r)
    ∙ sym (append_assoc (map (λ (xs : Log). (q.first, xs)) q.inputs) (parts_of rs) (map (λ (xs : Log). (r.first, xs)) r.inputs))

abbrev seen : ℕ → ContainerHeld → EndedSeen
seen base c = record { from = base; inputs = c.inputs }

past : (base : ℕ) (log : Log) (xs inputs : Log) → base ≤ length log → xs ≡ take base log ++ inputs → inputs ≡ drop base xs
past base log xs inputs within is =
    sym (drop-append_seam (take base log) inputs)
    ∙ ap (λ (n : ℕ). drop n (take base log ++ inputs)) (length-take-le base log within)
    ∙ ap (drop base) (sym is)

each-ended : (kinds : List Kind) (base first : ℕ) (log : Log) (number : ℕ) (cs : List ContainerHeld) (xss : List Log) → base ≡ first → base ≤ length log → HaveInputs kinds base log number cs xss
    → Each2 IsEnded (map (seen base) cs) (map (λ (xs : Log). (first, xs)) xss)
each-ended [] base first log number [] [] same within have = tt
each-ended [] base first log number [] (xs ∷ xss) same within have = absurd have
each-ended [] base first log number (c ∷ cs) xss same within have = absurd have
each-ended (kind ∷ kinds) base first log number [] xss same within have = absurd have
each-ended (kind ∷ kinds) base first log number (c ∷ cs) [] same within have = absurd have
each-ended (kind ∷ kinds) base first log number (c ∷ cs) (xs ∷ xss) same within have =
    (record { from = same; inputs = past base log xs c.inputs within have.0.inputs }, each-ended kinds base first log (suc number) cs xss same within have.1)

-- of a run that ends, behind those that ended before
pub run-ends : {D : Type 0} (state : D → DiskState) (kinds : List Kind) (u v : UpSeen D) (going : Bool) (s : Seat) (ended : List EndedSeen) → v.base ≡ u.base → v.lending ≡ u.lending → IsUp state kinds u going s → Each2 IsEnded ended (parts_of s.ended)
    → Each2 IsEnded (ended ++ run_ended v going) (parts_of (s.ended ++ s.run ∷ []))
run-ends state kinds u v going s ended base lending up each =
    subst (λ (ps : List (ℕ × Log)). Each2 IsEnded (ended ++ run_ended v going) ps) (sym (parts-more s.ended s.run))
    (each-append IsEnded ended (parts_of s.ended) (run_ended v going) (map (λ (xs : Log). (s.run.first, xs)) s.run.inputs) each
    (subst (λ (b : ℕ). Each2 IsEnded (map (seen b) (containers_of going v.lending)) (map (λ (xs : Log). (s.run.first, xs)) s.run.inputs)) (sym base)
    (subst (λ (l : Lending). Each2 IsEnded (map (seen u.base) (containers_of going l)) (map (λ (xs : Log). (s.run.first, xs)) s.run.inputs)) (sym lending)
    (each-ended kinds u.base s.run.first s.member.durable.log 0 (containers_of going u.lending) s.run.inputs up.first up.within up.inputs))))

-- a member that stopped, and the disk that is left
pub left-down : {D : Type 0} (state : D → DiskState) (kinds : List Kind) (disk : D) (e : Durable) (own : ℕ) (t : Seat) → IsLeft (length kinds) e (state disk).files → IsDown state kinds disk (stops_so (stopped e) own t)
left-down state kinds disk e own t l = record {
  kept = l.kept;
  mountable = l.mountable;
  settled = l.settled;
  reads = l.reads;
  durable = l.durable;
  member = refl;
  run = refl;
  applied = refl;
  phase = refl;
  alive = refl;
  since = refl;
}

-- ---- the member

module _ {D : Type 0} (state : D → DiskState) (is_told is_honest : D → Bool) (kinds : List Kind) (row : Row) (now : ℕ) (u v : UpSeen D) (going : Bool) (s : Seat) (choice : Choice) (ended : List EndedSeen) (disk : D)
    (is : IsSeat state kinds (running_seat choice ended u going) s) (honest : IsTrue (is_honest u.disk.disk)) (ready : Ready row s.member) (bases : Each (HasBase (changed_log row.change s.member.durable.log)) (snapshots_of u.disk.kept.entries)) (d : RowCut state is_told is_honest row u v)
    (sound : (f : ℕ) → IsSound ((state v.disk.disk).files f)) (crash : CrashLeaves choice (state v.disk.disk) (state disk)) where
  up : IsUp state kinds u going s
  up = is.home

  right : IsRight state is_told is_honest u.disk
  right = record { honest = honest; each = up.each; terms = up.mountable.terms }

  was-held : IsHeld s.member.durable.log
  was-held = subst IsHeld (sym up.durable.log) up.mountable.held

  keeps : Keeps row.change 0 s.member.durable.log
  keeps = keeps_of row.change s.member.values row.values s.member.durable.log 0 ready.fits.can (omega arith)

  is-held : IsHeld (changed_log row.change u.disk.kept.log)
  is-held = subst (λ (l : Log). IsHeld (changed_log row.change l)) up.durable.log (held_after row.change 0 s.member.durable.log keeps was-held)

  abbrev image : ℕ → List ℕ
  image f = ((state disk).files f).reads

  -- before the change, or after it
  left : IsDurableOne u.disk.kept (changed_kept row.change u.disk.kept) image → IsLeft (length kinds) s.member.durable (state disk).files ⊎ IsLeft (length kinds) (changed row.change s.member.durable) (state disk).files
  left (inl dur) = inl (durable-left choice (state v.disk.disk) (state disk) crash sound changes.Nothing u.disk.kept (length kinds) (state u.disk.disk).files s.member.durable (d.went.files right) up.mountable up.mountable.held up.mountable.bases up.durable dur)
  left (inr dur) = inr (durable-left choice (state v.disk.disk) (state disk) crash sound row.change u.disk.kept (length kinds) (state u.disk.disk).files s.member.durable (d.went.files right) up.mountable is-held (subst (λ (l : Log). Each (HasBase (changed_log row.change l)) (snapshots_of u.disk.kept.entries)) up.durable.log bases) up.durable dur)

  ends : Each2 IsEnded (ended ++ run_ended v going) (parts_of (s.ended ++ s.run ∷ []))
  ends = run-ends state kinds u v going s ended d.rest.base d.rest.services up is.ended

  abbrev fate : Cut → Fate
  fate cut = record { cut = cut; lets = None; own = (state v.disk.disk).own_faults }

  rests : (e : Durable) (t : Seat) → t.ended ≡ s.ended → t.run ≡ s.run → IsLeft (length kinds) e (state disk).files → IsSeat state kinds (stopped_seat ended v going disk) (stops_so (stopped e) (state v.disk.disk).own_faults t)
  rests e t same run l = record {
    home = left-down state kinds disk e (state v.disk.disk).own_faults t l;
    faults = record { lets = sym crash.lets; left = refl; own = sym crash.own; alive = crash.burnt };
    ended =
        subst (λ (rs : List Run). Each2 IsEnded (ended ++ run_ended v going) (parts_of (rs ++ t.run ∷ []))) (sym same)
        (subst (λ (r : Run). Each2 IsEnded (ended ++ run_ended v going) (parts_of (s.ended ++ r ∷ []))) (sym run) ends);
  }

  by-reign : (b : Bool) (e : Durable) → IsLeft (length kinds) e (state disk).files → IsSeat state kinds (stopped_seat ended v going disk) (stops_so (stopped e) (state v.disk.disk).own_faults (if b then record s { alive = []; since = now } else s))
  by-reign true e l = rests e (record s { alive = []; since = now }) refl refl l
  by-reign false e l = rests e s refl refl l

  abbrev begins : Bool
  begins = is_ready row.values.election.state && not (is_ready s.member.values.election.state)

  cut-by : IsLeft (length kinds) s.member.durable (state disk).files ⊎ IsLeft (length kinds) (changed row.change s.member.durable) (state disk).files → ActedCut state kinds row now s (stopped_seat ended v going disk)
  cut-by (inl l) = record { fate = fate Before; cut = inl refl; seat = by-reign begins s.member.durable l }
  cut-by (inr l) = record { fate = fate After; cut = inr refl; seat = by-reign begins (changed row.change s.member.durable) l }

  pub seat-cut : ActedCut state kinds row now s (stopped_seat ended v going disk)
  seat-cut = cut-by (left (d.went.each right image (left-image choice (state v.disk.disk) (state disk) crash sound)))
