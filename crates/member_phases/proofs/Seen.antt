-- A phase, in all that the driver has.
use Rattle.std.proofs.Common.{false, ◌≡◌, ℕ, zero, suc, Bool, true, List, [], ◌∷◌, ◌++◌, set, refl, sym, ap, ◌∙◌, subst, if◌then◌else◌}
use Rattle.std.specs.Prelude.{is_some}
use Rattle.std.specs.List.{filter, fold}
use Rattle.std.proofs.lemmas.List.Elements.{filter-append}
use Rattle.cl_base.specs.Disk.{DiskState}
use Rattle.cl_base.specs.declared.disk.Choice.{Choice}
use Rattle.commit_counter.specs.Ends.{Fed}
use Rattle.egress.specs.declared.sent.Sent.{Sent}
use Rattle.egress.specs.Streams.{StreamSeen}
use Rattle.member_disk.specs.Kept.{Held as DiskHeld}
use Rattle.service_api.specs.declared.shipped.Kind.{Kind}
use Rattle.service_phases.specs.Pairs.{Each2}
use Rattle.service_runs.specs.Hosts.{Output}
use Rattle.consensus_core.specs.Member.{Run}
use Rattle.run_world.specs.RunWorld.{RunWorld, seat, with_records}
use Rattle.run_world.specs.Seat.{Seat}
use Rattle.run_orders.specs.Kept.{HasFaults}
use Rattle.run_orders.specs.Stands.{AreRecords, EndedSeen, IsEnded, IsRecord, IsSeat, RunSeen, SeatSeen, Stands, UpSeen, has_entry, more_sent, parts_of}
use Rattle.member_rows.specs.Places.{running_seat}
use Rattle.member_phases.specs.Frees.{EndsSo, GoesOnSo}
use Rattle.member_phases.specs.Phases.{IsPhase, phase_seen}
use Rattle.member_phases.specs.Seats.{with_seat}
use Rattle.member_phases.proofs.Owed.{each-append}

-- each record has its entry
have-entries : (os : List Output) (sent : List Sent) → Each2 IsRecord os sent → filter has_entry sent ≡ sent
have-entries [] [] each = refl
have-entries [] (s ∷ sent) each = absurd each
have-entries (o ∷ os) [] each = absurd each
have-entries (o ∷ os) (s ∷ sent) each =
    let there : has_entry s ≡ true = ap is_some each.0.entry in
    ap (λ (b : Bool). if b then s ∷ filter has_entry sent else filter has_entry sent) there ∙ ap (λ (l : List Sent). s ∷ l) (have-entries os sent each.1)

fold-append : (streams : List StreamSeen) (xs ys : List Sent) → fold more_sent streams (xs ++ ys) ≡ fold more_sent (fold more_sent streams xs) ys
fold-append streams [] ys = refl
fold-append streams (x ∷ xs) ys = fold-append (more_sent streams x) xs ys

pub more-records : (streams : List StreamSeen) (os more : List Output) (sent : List Sent) → AreRecords streams os → Each2 IsRecord more sent → AreRecords (fold more_sent streams sent) (os ++ more)
more-records streams os more sent are each = record {
  all = are.all ++ sent;
  stand = ap (λ (l : List StreamSeen). fold more_sent l sent) are.stand ∙ sym (fold-append [] are.all sent);
  each = subst (Each2 IsRecord (os ++ more)) (sym (filter-append has_entry are.all sent ∙ ap (λ (l : List Sent). filter has_entry are.all ++ l) (have-entries more sent each)))
      (each-append IsRecord os more (filter has_entry are.all) sent are.each each);
}

pub each-set : {A B : Type 0} (R : A → B → Type 0) (xs : List A) (ys : List B) (i : ℕ) (x : A) (y : B) → Each2 R xs ys → R x y → Each2 R (set xs i x) (set ys i y)
each-set R [] [] i x y each is = each
each-set R [] (b ∷ ys) i x y each is = absurd each
each-set R (a ∷ xs) [] i x y each is = absurd each
each-set R (a ∷ xs) (b ∷ ys) zero x y each is = (is, each.1)
each-set R (a ∷ xs) (b ∷ ys) (suc i) x y each is = (each.0, each-set R xs ys i x y each.1 is)

module _ {D : Type 0} (state : D → DiskState) (kinds : List Kind) where
  pub phase-stands : (x : RunSeen D) (w : RunWorld) (m : ℕ) (u v : UpSeen D) (sent : List Sent) (choice : Choice) (ended : List EndedSeen) → Stands state kinds x w → IsSeat state kinds (running_seat choice ended u false) (seat w m)
      → (p : IsPhase state kinds m u v sent w) → Stands state kinds (phase_seen m (running_seat choice ended v false) sent x) (with_records p.records (with_seat m p.after w))
  phase-stands x w m u v sent choice ended stands is p = record {
    now = stands.now;
    seats = each-set (IsSeat state kinds) x.seats w.seats m (running_seat choice ended v false) p.after stands.seats (record {
      home = p.up;
      faults = p.faults choice is.faults;
      ended = subst (λ (l : List Run). Each2 IsEnded ended (parts_of l)) (sym p.ended) is.ended;
    });
    net = stands.net;
    records = more-records x.streams w.records p.records sent stands.records p.each;
    printed = stands.printed;
  }

  -- a phase that a fault cut
  pub cut-stands : (x : RunSeen D) (w : RunWorld) (m : ℕ) (y : SeatSeen D) (after : Seat) → Stands state kinds x w → IsSeat state kinds y after → Stands state kinds (phase_seen m y [] x) (with_seat m after w)
  cut-stands x w m y after stands is = record {
    now = stands.now;
    seats = each-set (IsSeat state kinds) x.seats w.seats m y after stands.seats is;
    net = stands.net;
    records = stands.records;
    printed = stands.printed;
  }

  -- a phase that goes on
  pub going-stands : (x : RunSeen D) (w : RunWorld) (m : ℕ) (u v : UpSeen D) (going : Bool) (feeds : List Fed) (choice : Choice) (ended : List EndedSeen) → Stands state kinds x w → IsSeat state kinds (running_seat choice ended u going) (seat w m) → v.disk ≡ u.disk
      → (p : GoesOnSo state kinds m v feeds w) → Stands state kinds (phase_seen m (running_seat choice ended v true) [] x) (with_seat m p.after w)
  going-stands x w m u v going feeds choice ended stands is same p = cut-stands x w m (running_seat choice ended v true) p.after stands (record {
    home = p.up;
    faults = subst (HasFaults (state v.disk.disk) choice) (sym p.faults) (subst (λ (h : DiskHeld D). HasFaults (state h.disk) choice (seat w m).faults) (sym same) is.faults);
    ended = subst (λ (l : List Run). Each2 IsEnded ended (parts_of l)) (sym p.ended) is.ended;
  })

  -- one that ended
  pub ends-stands : (x : RunSeen D) (w : RunWorld) (m : ℕ) (u v : UpSeen D) (sent : List Sent) (choice : Choice) (ended : List EndedSeen) → Stands state kinds x w → IsSeat state kinds (running_seat choice ended u true) (seat w m)
      → (p : EndsSo state kinds m u v sent w) → Stands state kinds (phase_seen m (running_seat choice ended v false) sent x) (with_records p.records (with_seat m p.after w))
  ends-stands x w m u v sent choice ended stands is p = record {
    now = stands.now;
    seats = each-set (IsSeat state kinds) x.seats w.seats m (running_seat choice ended v false) p.after stands.seats (record {
      home = p.up;
      faults = p.faults choice is.faults;
      ended = subst (λ (l : List Run). Each2 IsEnded ended (parts_of l)) (sym p.ended) is.ended;
    });
    net = stands.net;
    records = more-records x.streams w.records p.records sent stands.records p.each;
    printed = stands.printed;
  }
