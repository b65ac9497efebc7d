-- A member that stopped in a phase, at rest.
use Rattle.std.proofs.Common.{◌≡◌, ℕ, suc, ◌≤◌, Bool, List, [], ◌∷◌, ◌++◌, length, map, take, drop, refl, sym, ap, ◌∙◌, subst}
use Rattle.std.proofs.Math.Seq.{drop-append_seam}
use Rattle.std.proofs.lemmas.List.{append_assoc, append-nil, length-take-le}
use Rattle.cl_base.specs.Disk.{CrashLeaves, DiskState}
use Rattle.cl_base.specs.declared.disk.Choice.{Choice}
use Rattle.entry_log.specs.Durable.{Durable}
use Rattle.entry_log.specs.Log.{Log}
use Rattle.service_api.specs.declared.shipped.Kind.{Kind}
use Rattle.service_container.specs.Held.{Held as ContainerHeld}
use Rattle.service_phases.specs.Pairs.{Each2}
use Rattle.consensus_core.specs.Member.{Run, stopped}
use Rattle.run_world.specs.Seat.{Seat, halted}
use Rattle.run_orders.specs.Stands.{EndedSeen, HaveInputs, IsEnded, IsSeat, UpSeen, containers_of, parts_of}
use Rattle.member_rows.specs.Places.{run_ended, stopped_seat}
use Rattle.member_rows.proofs.Images.{IsLeft}
use Rattle.member_phases.proofs.Owed.{each-append}

-- ---- what the services consumed

pub parts-more : (rs : List Run) (r : Run) → parts_of (rs ++ r ∷ []) ≡ parts_of rs ++ map (λ (xs : Log). (r.first, xs)) r.inputs
parts-more [] r = append-nil (map (λ (xs : Log). (r.first, xs)) r.inputs)
parts-more (q ∷ rs) r =
    ap (λ (ps : List (ℕ × Log)). map (λ (xs : Log). (q.first, xs)) q.inputs ++ ps) (parts-more rs r)
    ∙ sym (append_assoc (map (λ (xs : Log). (q.first, xs)) q.inputs) (parts_of rs) (map (λ (xs : Log). (r.first, xs)) r.inputs))

abbrev pub seen : ℕ → ContainerHeld → EndedSeen
seen base c = record { from = base; inputs = c.inputs }

pub behind-base : (base : ℕ) (log : Log) (xs inputs : Log) → base ≤ length log → xs ≡ take base log ++ inputs → inputs ≡ drop base xs
behind-base base log xs inputs within is =
    sym (drop-append_seam (take base log) inputs)
    ∙ ap (λ (n : ℕ). drop n (take base log ++ inputs)) (length-take-le base log within)
    ∙ ap (drop base) (sym is)

each-ended : (kinds : List Kind) (base first : ℕ) (log : Log) (number : ℕ) (cs : List ContainerHeld) (xss : List Log) → base ≡ first → base ≤ length log → HaveInputs kinds base log number cs xss
    → Each2 IsEnded (map (seen base) cs) (map (λ (xs : Log). (first, xs)) xss)
each-ended [] base first log number [] [] same within have = tt
each-ended [] base first log number [] (xs ∷ xss) same within have = absurd have
each-ended [] base first log number (c ∷ cs) xss same within have = absurd have
each-ended (kind ∷ kinds) base first log number [] xss same within have = absurd have
each-ended (kind ∷ kinds) base first log number (c ∷ cs) [] same within have = absurd have
each-ended (kind ∷ kinds) base first log number (c ∷ cs) (xs ∷ xss) same within have =
    (record { from = same; inputs = behind-base base log xs c.inputs within have.0.inputs }, each-ended kinds base first log (suc number) cs xss same within have.1)

-- of containers of which some may not be whole
pub each-dropped : (base first : ℕ) (log : Log) (cs : List ContainerHeld) → base ≡ first → base ≤ length log → Each2 IsEnded (map (seen base) cs) (map (λ (xs : Log). (first, xs)) (map (λ (c : ContainerHeld). take base log ++ c.inputs) cs))
each-dropped base first log [] same within = tt
each-dropped base first log (c ∷ cs) same within = (record { from = same; inputs = behind-base base log (take base log ++ c.inputs) c.inputs within refl }, each-dropped base first log cs same within)

-- ---- the seat of a member that stopped, with what its services had consumed

module _ {D : Type 0} (state : D → DiskState) (kinds : List Kind) (choice : Choice) (v : UpSeen D) (going : Bool) (ended : List EndedSeen) (disk : D) (crash : CrashLeaves choice (state v.disk.disk) (state disk)) where
  pub rested-stands : (e : Durable) (t : Seat) → IsLeft (length kinds) e (state disk).files → Each2 IsEnded (run_ended v going) (map (λ (xs : Log). (t.run.first, xs)) t.run.inputs)
      → Each2 IsEnded ended (parts_of t.ended) → IsSeat state kinds (stopped_seat ended v going disk) (halted (stopped e) (state v.disk.disk).own_faults t)
  rested-stands e t l own was = record {
    home = record {
      kept = l.kept;
      mountable = l.mountable;
      settled = l.settled;
      reads = l.reads;
      durable = l.durable;
      member = refl;
      run = refl;
      applied = refl;
      phase = refl;
      alive = refl;
      since = refl;
    };
    faults = record { lets = sym crash.lets; left = refl; own = sym crash.own; alive = crash.burnt };
    ended =
        subst (Each2 IsEnded (ended ++ run_ended v going)) (sym (parts-more t.ended t.run))
        (each-append IsEnded ended (run_ended v going) (parts_of t.ended) (map (λ (xs : Log). (t.run.first, xs)) t.run.inputs) was own);
  }

  pub stopped-stands : (e : Durable) (t : Seat) (log : Log) → IsLeft (length kinds) e (state disk).files → v.base ≡ t.run.first → v.base ≤ length log → HaveInputs kinds v.base log 0 (containers_of going v.lending) t.run.inputs
      → Each2 IsEnded ended (parts_of t.ended) → IsSeat state kinds (stopped_seat ended v going disk) (halted (stopped e) (state v.disk.disk).own_faults t)
  stopped-stands e t log l same within have was = rested-stands e t l (each-ended kinds v.base t.run.first log 0 (containers_of going v.lending) t.run.inputs same within have) was
