-- A phase that goes on: it begins, it is fed, and its member's rows go on beside it.
use Rattle.std.proofs.Common.{◌≡◌, ℕ, ◌≤◌, Bool, true, false, List, [], ◌∷◌, ◌++◌, length, map, take, refl, sym, ap, ◌∙◌, subst, arith}
use Rattle.std.specs.Prelude.{IsTrue}
use Rattle.cl_base.specs.Disk.{DiskState}
use Rattle.commit_counter.specs.Ends.{Fed}
use Rattle.entry_log.specs.Log.{Log}
use Rattle.member_disk.specs.Kept.{Held as DiskHeld, EachStands}
use Rattle.member_module.specs.Held.{Held as ModuleHeld}
use Rattle.commit_counter.specs.declared.role.Role.{Role}
use Rattle.consensus_core.specs.Fit.{Held as CoreHeld}
use Rattle.service_api.specs.declared.shipped.Kind.{Kind}
use Rattle.service_container.specs.Held.{Held}
use Rattle.service_container.specs.declared.container.Served.{Served}
use Rattle.service_phases.specs.Pairs.{Each, Each2}
use Rattle.service_phases.specs.Phases.{IsWithin, Lending, forgetting}
use Rattle.service_phases.specs.Stages.{IsLent, Stage}
use Rattle.run_phases.specs.Grown.{GoesOn}
use Rattle.run_phases.specs.Logs.{FeedsLog, HoldsLog}
use Rattle.run_phases.proofs.Fronts.{all_hold}
use Rattle.run_world.specs.Lawful.{Lawful}
use Rattle.run_world.specs.Seat.{Goes, Seat, opened}
use Rattle.run_world.specs.RunWorld.{Begins, RunWorld, seat}
use Rattle.run_orders.specs.Kept.{IsMountable, IsStateOf}
use Rattle.run_orders.specs.Stands.{HasModule, HaveInputs, IsUp, UpSeen, term_led, with_phase}
use Rattle.run_orders.proofs.Opening.{up-opens}
use Rattle.member_phases.specs.Calls.{commit_of, stage_of}
use Rattle.member_phases.specs.Frees.{FreeBegun, FreeFed, GoesOnSo, HaveOutputs, PhaseRuns}
use Rattle.member_phases.proofs.Ended.{entries-at, same-commit, within}
use Rattle.member_phases.proofs.Ending.{begins}
use Rattle.member_phases.proofs.Fed.{some-taken}
use Rattle.member_phases.proofs.Lent.{all-again, all-begun, all-further, all-lent, all-out, consumed_by, lent-whole}
use Rattle.member_phases.proofs.Phased.{all-within, inputs-count, role-is}
use Rattle.member_phases.proofs.Phasing.{takes-act}
use Rattle.member_phases.proofs.Takes.{each-front, with_inputs}
use Rattle.member_phases.proofs.Worlds.{IsFront, front-is, inputs-front}
use Rattle.member_phases.proofs.Written.{each-has}

fed-holds : (log : Log) (t : Stage) (feeds : List Fed) → FeedsLog log t feeds → HoldsLog log t feeds
fed-holds log t feeds h = record { lent = h.lent; fed = all_hold log t.commit t.lending.begun feeds h.fed }

module _ {D : Type 0} (state : D → DiskState) (kinds : List Kind) (n : ℕ) (w : RunWorld) (m : ℕ) (five : n ≤ 5) (three : length kinds ≤ 3) (lawful : Lawful n kinds w) (u v : UpSeen D) where
  abbrev s : Seat
  s = seat w m

  abbrev past : Log
  past = s.member.durable.log

  abbrev first : ℕ
  first = u.module_held.consumed

  -- ---- it begins

  module _ (feeds : List Fed) (jobs : List Served) (up : IsUp state kinds u false (seat w m)) (d : FreeBegun u v feeds jobs) where
    lending : v.lending ≡ record { kept = []; lent = map forgetting u.lending.kept; begun = feeds }
    lending = d.begins.began.lending

    is-phase : v ≡ with_phase v.role feeds u
    is-phase = λ i. record { core = d.core i; disk = d.disk i; module_held = d.held i; lending = lending i; role = v.role; base = d.base i; over = d.begins.over i }

    same-begun : commit_of u ≡ s.member.values.rest.commit
    same-begun = same-commit state kinds n w m five three lawful u false up

    begun-up : IsUp state kinds v true (opened s)
    begun-up = subst (λ (z : UpSeen D). IsUp state kinds z true (opened s)) (sym is-phase) (up-opens state kinds u s v.role feeds (ap term_led d.role ∙ role-is s.member u.core.values up.values) up)

    begun-log : FeedsLog past (stage_of v) feeds
    begun-log =
        let low = within state kinds n w m five three lawful u false up in
        let same = same-begun in
        let a = d.was.sound.consumed in
        let due : first ≤ s.member.values.rest.commit = omega (arith, a, same) in
        let fronts : Each (IsFront s.member) s.run.inputs = each-front s.member s.run.inputs (λ xs has. inputs-front n kinds w m xs lawful up.up has) in
        d.log past (omega (arith, low, due))
        (subst (λ (k : ℕ). Each (IsWithin past k) u.lending.kept) (sym same) (all-within s.member u.base first up.within due kinds 0 u.lending.kept s.run.inputs up.inputs d.was.idle.kept fronts))

    begun-runs : PhaseRuns kinds v feeds (opened s)
    begun-runs = record {
      lent = subst (λ (l : Lending). Each (IsLent v.module_held.consumed) l.lent) (sym lending) (subst (λ (h : ModuleHeld). Each (IsLent h.consumed) (map forgetting u.lending.kept)) (sym d.held)
          (all-lent first u.lending.kept (let a = d.was.sound.consumed in let b = d.was.idle.bound in omega (arith, a, b)) d.was.idle.kept));
      kept = ap (λ (l : Lending). l.kept) lending;
      out = subst (λ (l : Lending). HaveOutputs kinds s.applied l.lent s.run.inputs) (sym lending) (subst (λ (k : ℕ). HaveOutputs kinds k (map forgetting u.lending.kept) s.run.inputs) up.has_module.applied
          (all-begun kinds u.base first past 0 u.lending.kept s.run.inputs up.within up.inputs d.was.idle.kept));
      fed = λ on. begun-log;
      holds = fed-holds past (stage_of v) feeds begun-log;
    }

    pub free-begins : GoesOnSo state kinds m v feeds w
    free-begins = record {
      after = opened s;
      acted = record { acts = Begins m ∷ []; phases = (refl, tt); becomes = sym (begins n kinds w m lawful up.up up.phase (inputs-count kinds u.base past 0 u.lending.kept s.run.inputs up.inputs)) };
      up = begun-up;
      runs = begun-runs;
      ended = refl;
      faults = refl;
    }

  -- ---- it is fed

  module _ (feeds next : List Fed) (up : IsUp state kinds u true (seat w m)) (runs : PhaseRuns kinds u feeds (seat w m)) (d : FreeFed u v feeds next) where
    same-fed : commit_of v ≡ s.member.values.rest.commit
    same-fed = ap (λ (c : CoreHeld). c.values.rest.commit) d.core ∙ same-commit state kinds n w m five three lawful u true up

    grew : Each2 GoesOn u.lending.lent v.lending.lent
    grew = subst (λ (l : List Held). Each2 GoesOn u.lending.lent (l ++ v.lending.lent)) d.kept d.grew

    next-log : v.over ≡ false → FeedsLog past (stage_of v) next
    next-log on = d.log past (entries-at state kinds n w m five three lawful u true up) (runs.fed (sym d.over ∙ on))

    -- where the phase is over nothing was fed
    same-stage : v.lending ≡ u.lending → stage_of v ≡ stage_of u
    same-stage l = λ i. record { lending = l i; first = (d.held i).consumed; commit = (d.core i).values.rest.commit; over = d.over i }

    next-holds : HoldsLog past (stage_of v) next
    next-holds = by v.over refl
      where
        by : (b : Bool) → v.over ≡ b → HoldsLog past (stage_of v) next
        by false on = fed-holds past (stage_of v) next (next-log on)
        by true over =
            let same = d.stays (sym d.over ∙ over) in
            subst (HoldsLog past (stage_of v)) (sym same.0) (subst (λ (t : Stage). HoldsLog past t feeds) (sym (same-stage same.1)) runs.holds)

    whole : Each (λ (c : Held). c.whole ≡ true) v.lending.lent
    whole = lent-whole v.module_held.consumed v.lending.lent d.lent

    abbrev goal : List Log
    goal = map (consumed_by u.base past) v.lending.lent

    abbrev after : Seat
    after = with_inputs s goal

    fed-up : IsUp state kinds v true after
    fed-up = record {
      up = up.up;
      values = ap (λ (c : CoreHeld). c.values) d.core ∙ up.values;
      whole = subst (λ (h : DiskHeld D). IsTrue h.whole) (sym d.disk) up.whole;
      mountable = subst (λ (h : DiskHeld D). IsMountable (length kinds) h.kept) (sym d.disk) up.mountable;
      each = subst (λ (h : DiskHeld D). EachStands h.kept (state h.disk).files) (sym d.disk) up.each;
      durable = subst (λ (h : DiskHeld D). IsStateOf h.kept (state h.disk).files s.member.durable) (sym d.disk) up.durable;
      has_module = subst (λ (h : ModuleHeld). HasModule kinds h after) (sym d.held) (record {
        applied = up.has_module.applied;
        state = up.has_module.state;
        entries = up.has_module.entries;
        events = up.has_module.events;
        coming = up.has_module.coming;
        alive = up.has_module.alive;
        since = up.has_module.since;
      });
      first = d.base ∙ up.first;
      within = (let a = d.base in let b = up.within in omega (arith, a, b));
      inputs = subst (λ (b : ℕ). HaveInputs kinds b past 0 v.lending.lent goal) (sym d.base) (all-again past u.base s.applied s.member.values.rest.commit up.within kinds 0 u.lending.lent v.lending.lent s.run.inputs up.inputs grew whole);
      phase = subst (λ (r : Role). s.phase ≡ Goes (term_led r) v.over) (sym d.role) (subst (λ (b : Bool). s.phase ≡ Goes (term_led u.role) b) (sym d.over) up.phase);
    }

    fed-runs : PhaseRuns kinds v next after
    fed-runs = record {
      lent = d.lent;
      kept = d.kept;
      out = all-out past u.base s.applied s.member.values.rest.commit up.within kinds 0 u.lending.lent v.lending.lent s.run.inputs up.inputs grew whole runs.out;
      fed = next-log;
      holds = next-holds;
    }

    pub free-feeds : GoesOnSo state kinds m v next w
    free-feeds =
        let fronts : Each (λ (xs : Log). xs ≡ take (length xs) past) s.run.inputs = each-has (λ (xs : Log). xs ≡ take (length xs) past) s.run.inputs (λ xs has. front-is xs past (inputs-front n kinds w m xs lawful up.up has).0) in
        let in-log : Each (IsWithin past s.member.values.rest.commit) v.lending.lent = subst (λ (k : ℕ). Each (IsWithin past k) v.lending.lent) same-fed next-holds.lent in
        let further = all-further past u.base s.applied s.member.values.rest.commit up.within kinds 0 u.lending.lent v.lending.lent s.run.inputs up.inputs grew fronts in-log in
        let fed = some-taken n kinds w m (term_led u.role) u.over goal lawful up.up up.phase (inputs-count kinds u.base past 0 u.lending.lent s.run.inputs up.inputs) further in
        record {
          after = after;
          acted = takes-act kinds m fed.0 w _ (sym fed.1);
          up = fed-up;
          runs = fed-runs;
          ended = refl;
          faults = refl;
        }
