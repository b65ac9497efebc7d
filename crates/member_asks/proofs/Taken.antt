-- What was decided on is done in the world.
use Rattle.std.proofs.Common.{◌≡◌, ℕ, ℤ, ◌≤◌, inl, inr, Bool, true, List, [], ◌∷◌, ◌++◌, length, None, refl, sym, ap, ◌∙◌, subst, arith}
use Rattle.std.specs.Prelude.{IsTrue}
use Rattle.std.proofs.lemmas.List.{length-map}
use Rattle.cl_base.specs.Disk.{DiskState, CrashLeaves}
use Rattle.cl_base.specs.Images.{IsSound as IsSoundFile}
use Rattle.cl_base.specs.declared.disk.Choice.{Choice}
use Rattle.wire_prims.specs.Fields.{IsBytes}
use Rattle.election.specs.declared.member.State.{State}
use Rattle.election.specs.declared.member.State.TheVariants.{LeaderReady}
use Rattle.entry_log.specs.Durable.{Durable}
use Rattle.entry_log.specs.Log.{Log}
use Rattle.entry_log.specs.Shape.{entry_shape}
use Rattle.sbe_events.specs.Spelling.{HasSpelling, content_of}
use Rattle.sbe_events.specs.declared.event.Event.{Event}
use Rattle.service_api.specs.declared.shipped.Kind.{Kind}
use Rattle.service_phases.specs.Pairs.{Each}
use Rattle.ingress.specs.declared.decision.Decided.{Decided}
use Rattle.ingress.specs.declared.decision.Decided.TheVariants as decisions
use Rattle.ingress.specs.declared.outcome.Outcome.{Outcome}
use Rattle.ingress.specs.declared.view.View.{View}
use Rattle.ingress.specs.Decisions.{Admits, IsAdmitted}
use Rattle.log_segment.specs.Held.{IsHeld}
use Rattle.member_disk.specs.CutWell.{IsDurable, IsDurableOne, snapshots_of}
use Rattle.member_module.specs.Held.{at_end}
use Rattle.module_state.specs.Entries.{IsSpellable}
use Rattle.module_state.specs.Module.{Module}
use Rattle.consensus_core.specs.declared.change.Change.{Change}
use Rattle.consensus_core.specs.declared.change.Change.TheVariants as changes
use Rattle.consensus_core.specs.declared.values.Values.{Values}
use Rattle.consensus_core.specs.Member.{changed, changed_log, is_ready, stopped}
use Rattle.consensus_core.specs.Reign.{entry_of}
use Rattle.consensus_agent.specs.Accepted.{HasMore, IsAppended, IsDone, IsView, Leaves, OnNothingNew}
use Rattle.consensus_agent.specs.Disks.{IsRight, Went, changed_kept}
use Rattle.run_world.specs.Seat.{Seat, halted}
use Rattle.run_world.specs.RunWorld.{may_ask, view_at}
use Rattle.run_orders.specs.Kept.{HasBase}
use Rattle.run_orders.proofs.Bases.{all-more}
use Rattle.run_orders.specs.Stands.{EndedSeen, SeatSeen, IsSeat, IsUp, UpSeen}
use Rattle.run_orders.proofs.Standing.{sees-end}
use Rattle.consensus_agent.specs.Accepted.{Adds, OnAppend}
use Rattle.member_rows.specs.Calls.{GoesOn}
use Rattle.member_rows.specs.Places.{running_seat, stopped_seat}
use Rattle.member_rows.proofs.Halts.{left-down, run-ends}
use Rattle.member_rows.proofs.Images.{IsLeft, durable-left, left-image}
use Rattle.member_asks.specs.Clauses.{Stays}
use Rattle.member_asks.specs.Made.{Accepts, Falls, Makes}
use Rattle.member_asks.proofs.Asking.{may-ask, ready, room}
use Rattle.member_asks.proofs.Calm.{heard-seat, nothing-new, refused}
use Rattle.member_asks.proofs.Grown.{held-grown, module-grown, up-grown}
use Rattle.member_asks.proofs.Rowed.{acted-after, acted-before, acted-whole, fate_after, fate_before, longer_by, whole_fate}

leads-there : (s : State) → is_ready s ≡ true → s ≡ LeaderReady
leads-there LeaderReady lead = refl
leads-there _ lead = absurd (cc)

module _ {D : Type 0} (state : D → DiskState) (is_told is_honest : D → Bool) (kinds : List Kind) where
  -- ---- what a decision to append is in the world

  module _ (u : UpSeen D) (going : Bool) (s : Seat) (is : IsUp state kinds u going s) (now : ℕ) (w : View) (e : Event) (view : IsView w u.core.values u.disk.kept.log (at_end u.module_held)) (ad : IsAdmitted w (at_end u.module_held).counts.actions now e) where
    seen : IsView w s.member.values s.member.durable.log (view_at kinds s)
    seen =
        subst (λ (t : Module). IsView w s.member.values s.member.durable.log t) (sees-end kinds u.module_held s is.has_module)
        (subst (λ (l : Log). IsView w s.member.values l (at_end u.module_held)) (sym is.durable.log) (subst (λ (v : Values). IsView w v u.disk.kept.log (at_end u.module_held)) is.values view))

    let-in : IsAdmitted w (view_at kinds s).counts.actions now e
    let-in = subst (λ (t : Module). IsAdmitted w t.counts.actions now e) (sees-end kinds u.module_held s is.has_module) ad

    may : may_ask kinds s now e ≡ true
    may = may-ask kinds s now w e seen let-in

    lead : is_ready s.member.values.election.state ≡ true
    lead = ready w s.member.values s.member.durable.log (view_at kinds s) (view_at kinds s).counts.actions now e seen let-in

    -- the log stays one that a member can hold
    held : GoesOn u → HasSpelling e → IsHeld (u.disk.kept.log ++ entry_of e ∷ [])
    held sound spelled =
        let leads : is_ready u.core.values.election.state ≡ true = ready w u.core.values u.disk.kept.log (at_end u.module_held) (at_end u.module_held).counts.actions now e view ad in
        let last = sound.standing.leads (leads-there u.core.values.election.state leads) in
        held-grown u.disk.kept.log e is.mountable.held spelled (last ∙ sym (ad.term ∙ view.term)) (room w u.core.values u.disk.kept.log (at_end u.module_held) (at_end u.module_held).counts.actions now e view ad)

    right : IsTrue (is_honest u.disk.disk) → IsRight state is_told is_honest u.disk
    right honest = record { honest = honest; each = is.each; terms = is.mountable.terms }

    low : GoesOn u → s.applied ≤ length s.member.durable.log
    low sound =
        let a = is.has_module.applied in
        let b = sound.consumed in
        let c = sound.standing.commit in
        let d = length-map u.disk.kept.log entry_shape in
        let f = ap length is.durable.log in
        omega (arith, a, b, c, d, f)

    -- the event was appended
    pub accepted : (v : UpSeen D) (choice : Choice) (ended : List EndedSeen) → IsTrue (is_honest u.disk.disk) → Stays u v → GoesOn u → GoesOn v → IsBytes (content_of e) → IsAppended (length u.disk.kept.log) e u.disk.kept v.disk.kept → HasMore e u.module_held v.module_held
        → Adds state is_told is_honest e u.disk v.disk → IsSeat state kinds (running_seat choice ended u going) s → Accepts state kinds now s e (running_seat choice ended v going)
    accepted v choice ended honest stays sound whole fit appended more adds seat =
        let f = whole_fate (state v.disk.disk).lets (state v.disk.disk).own_faults in
        let r = right honest in
        let has = module-grown kinds u.module_held v.module_held s e f (low sound) appended.spelled more is.has_module in
        let home = up-grown state kinds u v going s e f stays whole.disk appended.kept adds.went.kept (held sound appended.spelled) (adds.done.stands r) (adds.went.files r) has is in
        record {
          may = may;
          fits = (appended.spelled, fit);
          fate = f;
          cut = refl;
          seat = subst (IsSeat state kinds (running_seat choice ended v going)) (sym (acted-whole s e now (state v.disk.disk).lets (state v.disk.disk).own_faults lead))
              (record { home = home; faults = record { lets = refl; left = seat.faults.left; own = refl; alive = (adds.done.passed r seat.faults.alive).burnt }; ended = seat.ended });
        }

    -- the disk failed at it, and the member stopped
    module _ (v : UpSeen D) (choice : Choice) (ended : List EndedSeen) (d : D) (files : (x : D) → IsTrue (is_honest x) → (g : ℕ) → IsSoundFile ((state x).files g)) (honest : IsTrue (is_honest u.disk.disk)) (stays : Stays u v) (sound : GoesOn u)
        (fits : IsSpellable e) (went : Went state is_told is_honest (changes.Append (entry_of e ∷ [])) u.disk v.disk) (crash : CrashLeaves choice (state v.disk.disk) (state d)) (seat : IsSeat state kinds (running_seat choice ended u going) s) where
      abbrev own : ℕ
      own = (state d).own_faults

      abbrev rest : SeatSeen D
      rest = stopped_seat ended v going d

      abbrev image : ℕ → List ℕ
      image g = ((state d).files g).reads

      sound-files : (g : ℕ) → IsSoundFile ((state v.disk.disk).files g)
      sound-files = files v.disk.disk (subst IsTrue (sym went.honest) honest)

      -- it is at rest, with this on its disk
      rests : (x : Durable) → IsLeft (length kinds) x (state d).files → IsSeat state kinds rest (halted (stopped x) own s)
      rests x l = record {
        home = left-down state kinds d x own s l;
        faults = record { lets = sym crash.lets; left = refl; own = refl; alive = crash.burnt };
        ended = run-ends state kinds u v going s ended stays.base stays.services is seat.ended;
      }

      left-by : (c : Change) → IsHeld (changed_log c u.disk.kept.log) → Each (HasBase (changed_log c u.disk.kept.log)) (snapshots_of u.disk.kept.entries) → IsDurable (changed_kept c u.disk.kept) image → IsLeft (length kinds) (changed c s.member.durable) (state d).files
      left-by c held bases there =
          durable-left choice (state v.disk.disk) (state d) crash sound-files c u.disk.kept (length kinds) (state u.disk.disk).files s.member.durable (went.files (right honest)) is.mountable held bases is.durable there

      -- before its change, or after it
      one : IsDurableOne u.disk.kept (changed_kept (changes.Append (entry_of e ∷ [])) u.disk.kept) image → Falls state kinds now s e rest
      one (inl there) = record {
        may = may;
        fits = fits;
        fate = fate_before None own;
        cut = inl refl;
        seat = subst (IsSeat state kinds rest) (sym (acted-before s e now None own lead)) (rests s.member.durable (left-by changes.Nothing is.mountable.held is.mountable.bases there));
      }
      one (inr there) = record {
        may = may;
        fits = fits;
        fate = fate_after None own;
        cut = inr refl;
        seat = subst (IsSeat state kinds rest) (sym (acted-after s e now None own lead))
            (rests (longer_by e s.member.durable) (left-by (changes.Append (entry_of e ∷ [])) (held sound fits.0) (all-more u.disk.kept.log (entry_of e ∷ []) (snapshots_of u.disk.kept.entries) is.mountable.bases) there));
      }

      pub fallen : Falls state kinds now s e rest
      fallen = one (went.each (right honest) image (left-image choice (state v.disk.disk) (state d) crash sound-files))

  -- ---- what was decided on is done

  pub made : (u v : UpSeen D) (going : Bool) (choice : Choice) (ended : List EndedSeen) (s : Seat) (now : ℕ) (o : Outcome) (term : ℤ) (w : View) (decision : Decided) → IsSeat state kinds (running_seat choice ended u going) s → IsTrue (is_honest u.disk.disk)
      → Stays u v → GoesOn u → GoesOn v → OnNothingNew o (v.disk ≡ u.disk) → Leaves o term u.disk.kept v.disk.kept → IsView w u.core.values u.disk.kept.log (at_end u.module_held) → Admits w (at_end u.module_held).counts.actions now decision
      → OnAppend decision (λ e. IsBytes (content_of e)) → OnAppend decision (λ e. Adds state is_told is_honest e u.disk v.disk) → IsDone decision now o u.disk.kept v.disk.kept u.module_held v.module_held → Makes state kinds decision now s (running_seat choice ended v going)
  made u v going choice ended s now o term w (decisions.Refuse refusal) seat honest stays sound whole untouched leaves view ad fit adds done =
      refused state kinds u v going choice ended s stays (nothing-new (v.disk ≡ u.disk) o term u.disk.kept v.disk.kept leaves done.1 untouched) done.2 seat
  made u v going choice ended s now o term w (decisions.Alive session) seat honest stays sound whole untouched leaves view ad fit adds done =
      heard-seat state kinds u v going choice ended s session now stays (nothing-new (v.disk ≡ u.disk) o term u.disk.kept v.disk.kept leaves done.1 untouched) done.2 seat
  made u v going choice ended s now o term w (decisions.Append e) seat honest stays sound whole untouched leaves view ad fit adds done =
      accepted u going s seat.home now w e view ad v choice ended honest stays sound whole fit done.1 done.2 adds seat
