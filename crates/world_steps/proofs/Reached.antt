-- A step of a world that is reached leads to one that is reached, and what its calls need is so.
use Rattle.std.proofs.Common.{◌≡◌, ℕ, ◌<◌, ◌≤◌, ◌^◌, Bool, true, false, ◌&&◌, List, [], ◌∷◌, ◌++◌, length, Option, Some, None, refl, sym, ap, ◌∙◌, subst, arith, ℤ, if◌then◌else◌, get_or-set_same}
use Rattle.std.specs.Prelude.{Contains, nat_le, slice_get, slice_index_or, unwrap_or}
use Rattle.std.proofs.lemmas.Option.{slice_get_within, unwrap_or-slice_get}
use Rattle.entry_log.specs.Log.{Log}
use Rattle.entry_log.specs.Shape.{shape_of}
use Rattle.sbe_events.specs.declared.event.Event.{Event}
use Rattle.service_api.specs.declared.shipped.Kind.{Kind}
use Rattle.consensus_core.specs.Fit.{IsSound}
use Rattle.consensus_core.specs.Member.{Member, Sent, Cut, Whole, stopped, after, changed, changed_log, is_ready, row_of_packet, row_of_duty, row_of_client}
use Rattle.consensus_core.specs.declared.change.Change.{Change}
use Rattle.consensus_core.specs.declared.change.Change.TheVariants as changes
use Rattle.entry_log.specs.Durable.{Durable, fresh}
use Rattle.consensus_core.specs.declared.row.Row.{Row}
use Rattle.consensus_core.proofs.Fitting.{receives_fit, duty_fits}
use Rattle.world.specs.World.{World, Passes, Client, member, acts, step, comes, is_running, are_of}
use Rattle.world.proofs.Effects.{if-cases}
use Rattle.world.proofs.Kept.{Inv}
use Rattle.world.proofs.Rows.{and_true}
use Rattle.world.proofs.Runs.{runs}
use Rattle.agreement.proofs.Second.{Fits}
use Rattle.service_runs.specs.Hosts.{printed_by}
use Rattle.service_runs.proofs.Held.{up-below}
use Rattle.one_log.specs.Led.{Led, turns, led}
use Rattle.one_log.specs.Ruled.{rules_of}
use Rattle.one_log.proofs.Formed.{Formed}
use Rattle.one_log.proofs.Turns.{Stays, stays, turn-stays}
use Rattle.run_world.specs.Lawful.{IsSpelled, IsLeader}
use Rattle.run_world.proofs.Rows.{turns-more}
use Rattle.run_world.proofs.Spelled.{row-spelled}
use Rattle.run_world.proofs.Towards.{IsTowards, packet-towards, duty-towards}
use Rattle.world_steps.specs.Fit.{Runs, Speaks}
use Rattle.world_steps.specs.Members.{cut_of}
use Rattle.world_steps.specs.Steps.{Seen, IsQuiet, Stands, IsReached, IsGiven, still, due_at, is_asked, step_of, turn_of}
use Rattle.world_steps.specs.declared.cut.Cut.{Cut as CodeCut}
use Rattle.world_steps.specs.declared.cut.Cut.TheVariants as cuts
use Rattle.world_steps.specs.declared.step.Step.{Step as CodeStep}
use Rattle.world_steps.specs.declared.step.Step.TheVariants as steps
use Rattle.world_steps.proofs.Facts.{runs-here}
use Rattle.world_steps.proofs.Keeping.{Keeps, acts-members, quiet-noted, fresh-row, fresh-same, start-keeps, stop-keeps, pass-keeps}
use Rattle.world_steps.proofs.Turned.{seen_of, noted_led, turn-is}

both : (a b : Bool) → a ≡ true → b ≡ true → (a && b) ≡ true
both true b e f = f
both false b e f = e

-- the world with its services and modules that a reached world stands for
pub record Known (n : ℕ) (kinds : List Kind) (l : Led) : Type 0 where
  pub five : n ≤ 5
  pub three : length kinds ≤ 3
  pub stays : Stays n kinds (rules_of kinds) l
  pub quiet : IsQuiet l
  pub spelled : IsSpelled l.hosted.world

-- ---- rows

-- a running member's row over its log
pub record IsRow (n : ℕ) (w : World) (m : ℕ) (row : Row) : Type 0 where
  pub within : m < length w.members
  pub up : (member w m).up ≡ true
  pub sound : IsSound row.values row.plan
  pub towards : IsTowards n row

-- the world after a step that the code may make
abbrev pub next_world : List Kind → Led → CodeStep → World
next_world kinds l c = step l.hosted.world (step_of (seen_of kinds l) c)

pub next-stays : (n : ℕ) (kinds : List Kind) (l : Led) (c : CodeStep) → IsGiven c → Known n kinds l → Stays n kinds (rules_of kinds) (noted_led (rules_of kinds) l (next_world kinds l c))
next-stays n kinds l c g k =
    subst (Stays n kinds (rules_of kinds)) (turn-is kinds l c g k.quiet) (turn-stays n kinds (rules_of kinds) l (turn_of (seen_of kinds l) c g) k.five k.three k.stays)

-- where the whole step is this row
row-stays : (n : ℕ) (kinds : List Kind) (l : Led) (c : CodeStep) (m : ℕ) (row : Row) → IsGiven c → Known n kinds l → next_world kinds l c ≡ acts l.hosted.world m row Whole
    → Inv n (acts l.hosted.world m row Whole) × Fits n (acts l.hosted.world m row Whole) × Formed kinds (acts l.hosted.world m row Whole)
row-stays n kinds l c m row g k e =
    let st = next-stays n kinds l c g k in
    (subst (Inv n) e st.held.inv, subst (Fits n) e st.held.fits, subst (Formed kinds) e st.formed)

pub row-keeps : (n : ℕ) (kinds : List Kind) (l : Led) (c : CodeStep) (m : ℕ) (row : Row) (cut : Cut) → IsGiven c → Known n kinds l → next_world kinds l c ≡ acts l.hosted.world m row Whole → IsRow n l.hosted.world m row → Keeps l.hosted.world (acts l.hosted.world m row cut)
row-keeps n kinds l c m row cut g k e is =
    let w = l.hosted.world in
    let st = row-stays n kinds l c m row g k e in
    record {
      fresh = fresh-row w m row cut is.within is.up k.quiet.bare;
      spelled = row-spelled n kinds w m row cut is.within st.0 st.1 st.2 is.sound (subst (λ (j : ℕ). IsTowards j row) (sym k.stays.held.inv.count) is.towards) k.spelled;
    }

changed-log : (c : Change) (d : Durable) → (changed c d).log ≡ changed_log c d.log
changed-log changes.Nothing d = refl
changed-log (changes.Raise term voted) d = refl
changed-log (changes.Append entries) d = refl
changed-log (changes.Cut n) d = refl

-- what the row says can be spelled
pub row-speaks : (n : ℕ) (kinds : List Kind) (l : Led) (c : CodeStep) (m : ℕ) (row : Row) → IsGiven c → Known n kinds l → next_world kinds l c ≡ acts l.hosted.world m row Whole → IsRow n l.hosted.world m row
    → Speaks row.values row.plan (changed_log row.change (member l.hosted.world m).durable.log)
row-speaks n kinds l c m row g k e is =
    let w = l.hosted.world in
    let x = member w m in
    let v = acts w m row Whole in
    let st = row-stays n kinds l c m row g k e in
    let kept = (row-keeps n kinds l c m row Whole g k e is).spelled in
    let here : member v m ≡ after row Whole x = ap (λ (xs : List Member). slice_index_or xs m (stopped fresh)) (acts-members w m row Whole) ∙ get_or-set_same w.members m (after row Whole x) (stopped fresh) is.within in
    let log : (member v m).durable.log ≡ changed_log row.change x.durable.log = ap (λ (y : Member). y.durable.log) here ∙ changed-log row.change x.durable in
    let values : (member v m).values ≡ row.values = ap (λ (y : Member). y.values) here in
    let runs = runs-here n kinds v m st.1 st.2 (kept.kept m) in
    record {
      runs = subst (λ (z : Log). Runs row.values z) log (subst (λ u. Runs u (member v m).durable.log) values runs);
      sound = is.sound;
    }

-- a running member runs over its log
pub known-runs : (n : ℕ) (kinds : List Kind) (l : Led) (m : ℕ) → Known n kinds l → Runs (member l.hosted.world m).values (member l.hosted.world m).durable.log
known-runs n kinds l m k = runs-here n kinds l.hosted.world m k.stays.held.fits k.stays.formed (k.spelled.kept m)

-- ---- the rows of steps

member-known : (n : ℕ) (kinds : List Kind) (l : Led) (m : ℕ) → Known n kinds l → (member l.hosted.world m).up ≡ true
    → ((member l.hosted.world m).values.election.members ≡ n) × ((member l.hosted.world m).values.election.id < n) × IsLeader n (member l.hosted.world m).values.election.leader
member-known n kinds l m k up =
    let w = l.hosted.world in
    let inside = up-below w m up in
    let count = k.stays.held.inv.count in
    let low : m < n = omega (arith, inside, count) in
    let known = (k.stays.held.inv.members m low).known up in
    let id = known.id in
    (known.members, omega (arith, id, low), subst (λ (j : ℕ). IsLeader j (member w m).values.election.leader) count (k.spelled.leads m up))

pub packet-row : (n : ℕ) (kinds : List Kind) (l : Led) (s : Sent) → Known n kinds l → Contains l.hosted.world.sent s → is_running l.hosted.world s.to ≡ true → IsRow n l.hosted.world s.to (row_of_packet (member l.hosted.world s.to) s.packet l.hosted.world.now)
packet-row n kinds l s k has on =
    let w = l.hosted.world in
    let x = member w s.to in
    let p = runs w s.to on in
    let known = member-known n kinds l s.to k p.1 in
    record {
      within = p.0;
      up = p.1;
      sound = receives_fit x.values (shape_of x.durable.log) s.packet w.now (k.spelled.sent s has) (k.spelled.fit s.to p.1);
      towards = subst (λ (j : ℕ). IsTowards j (row_of_packet x s.packet w.now)) known.0 (packet-towards x.values (shape_of x.durable.log) s.packet w.now (subst (λ (j : ℕ). IsLeader j x.values.election.leader) (sym known.0) known.2));
    }

pub duty-row : (n : ℕ) (kinds : List Kind) (l : Led) (m : ℕ) (due : List Event) → Known n kinds l → is_running l.hosted.world m ≡ true → IsRow n l.hosted.world m (row_of_duty (member l.hosted.world m) due l.hosted.world.now)
duty-row n kinds l m due k on =
    let w = l.hosted.world in
    let x = member w m in
    let p = runs w m on in
    let known = member-known n kinds l m k p.1 in
    record {
      within = p.0;
      up = p.1;
      sound = duty_fits x.values (shape_of x.durable.log) due w.now (k.spelled.fit m p.1);
      towards = duty-towards n x.values (shape_of x.durable.log) due w.now known.1 known.2;
    }

pub client-row : (n : ℕ) (kinds : List Kind) (l : Led) (m : ℕ) (e : Event) → Known n kinds l → is_running l.hosted.world m ≡ true → IsRow n l.hosted.world m (row_of_client (member l.hosted.world m) e)
client-row n kinds l m e k on =
    let w = l.hosted.world in
    let x = member w m in
    let p = runs w m on in
    let known = member-known n kinds l m k p.1 in
    let fit = k.spelled.fit m p.1 in
    record {
      within = p.0;
      up = p.1;
      sound = if-cases (λ (row : Row). IsSound row.values row.plan) (is_ready x.values.election.state) _ _ (λ b. record { fit = fit; plan = tt }) (λ b. record { fit = fit; plan = tt });
      towards = if-cases (IsTowards n) (is_ready x.values.election.state) _ _ (λ b. (known.2, tt)) (λ b. (known.2, tt));
    }

-- ---- what each step keeps

-- the k-th packet was sent
pub sent-there : (xs : List Sent) (k : ℕ) (s : Sent) → slice_get xs k ≡ Some s → Contains xs s
sent-there xs k s e = (k, slice_get_within xs k s e, sym (unwrap_or-slice_get xs k s) ∙ ap (λ (o : Option Sent). unwrap_or o s) e)

same-keeps : (n : ℕ) (kinds : List Kind) (l : Led) → Known n kinds l → Keeps l.hosted.world l.hosted.world
same-keeps n kinds l k = record { fresh = fresh-same l.hosted.world l.hosted.world refl k.quiet.bare; spelled = k.spelled }

-- where its guard holds, a whole duty, delivery or client's event is this row
pub duty-is : (kinds : List Kind) (l : Led) (m : ℕ) (alive : List (ℤ × ℕ)) (since : ℕ) (cut : CodeCut)
    → (is_running l.hosted.world m && are_of (member l.hosted.world m).values.election.term (due_at (seen_of kinds l) m alive since)) ≡ true
    → next_world kinds l (steps.Duty m alive since cut) ≡ acts l.hosted.world m (row_of_duty (member l.hosted.world m) (due_at (seen_of kinds l) m alive since) l.hosted.world.now) (cut_of cut)
duty-is kinds l m alive since cut b =
    ap (λ (z : Bool). if z then acts l.hosted.world m (row_of_duty (member l.hosted.world m) (due_at (seen_of kinds l) m alive since) l.hosted.world.now) (cut_of cut) else l.hosted.world) b

pub delivery-is : (kinds : List Kind) (l : Led) (which : ℕ) (s : Sent) (cut : CodeCut) → slice_get l.hosted.world.sent which ≡ Some s → is_running l.hosted.world s.to ≡ true
    → next_world kinds l (steps.Delivers which cut) ≡ acts l.hosted.world s.to (row_of_packet (member l.hosted.world s.to) s.packet l.hosted.world.now) (cut_of cut)
delivery-is kinds l which s cut e b =
    ap (λ (o : Option Sent). comes l.hosted.world o (cut_of cut)) e
    ∙ ap (λ (z : Bool). if z then acts l.hosted.world s.to (row_of_packet (member l.hosted.world s.to) s.packet l.hosted.world.now) (cut_of cut) else l.hosted.world) b

pub client-is : (kinds : List Kind) (l : Led) (m : ℕ) (e : Event) (cut : CodeCut) → is_asked (seen_of kinds l) m e ≡ true
    → (is_running l.hosted.world m && are_of (member l.hosted.world m).values.election.term (e ∷ [])) ≡ true
    → next_world kinds l (steps.Client m e cut) ≡ acts l.hosted.world m (row_of_client (member l.hosted.world m) e) (cut_of cut)
client-is kinds l m e cut a b =
    ap (λ (z : Bool). step l.hosted.world (if z then Client m e (cut_of cut) else still)) a
    ∙ ap (λ (z : Bool). if z then acts l.hosted.world m (row_of_client (member l.hosted.world m) e) (cut_of cut) else l.hosted.world) b

pub step-keeps : (n : ℕ) (kinds : List Kind) (l : Led) (c : CodeStep) → IsGiven c → Known n kinds l → Keeps l.hosted.world (next_world kinds l c)
step-keeps n kinds l (steps.Passes now) g k = at (nat_le now (2 ^ 60))
  where
    at : (b : Bool) → Keeps l.hosted.world (step l.hosted.world (if b then Passes now else still))
    at true = pass-keeps l.hosted.world now k.quiet.bare k.spelled
    at false = pass-keeps l.hosted.world 0 k.quiet.bare k.spelled
step-keeps n kinds l (steps.Starts m) g k =
    let count = k.stays.held.inv.count in
    let five = k.five in
    start-keeps l.hosted.world m (length kinds) (omega (arith, count, five)) k.quiet.bare k.spelled
step-keeps n kinds l (steps.Stops m) g k = stop-keeps l.hosted.world m k.quiet.bare k.spelled
step-keeps n kinds l (steps.Duty m alive since cut) g k =
    let w = l.hosted.world in
    let due = due_at (seen_of kinds l) m alive since in
    let row = row_of_duty (member w m) due w.now in
    if-cases (Keeps w) (is_running w m && are_of (member w m).values.election.term due) (acts w m row (cut_of cut)) w
    (λ b. row-keeps n kinds l (steps.Duty m alive since cuts.Whole) m row (cut_of cut) tt k (duty-is kinds l m alive since cuts.Whole b) (duty-row n kinds l m due k (and_true (is_running w m) (are_of (member w m).values.election.term due) b).0))
    (λ b. same-keeps n kinds l k)
step-keeps n kinds l (steps.Delivers which cut) g k = at (slice_get l.hosted.world.sent which) refl
  where
    w : World
    w = l.hosted.world

    at : (o : Option Sent) → slice_get w.sent which ≡ o → Keeps w (comes w o (cut_of cut))
    at None e = same-keeps n kinds l k
    at (Some s) e =
        let row = row_of_packet (member w s.to) s.packet w.now in
        if-cases (Keeps w) (is_running w s.to) (acts w s.to row (cut_of cut)) w
        (λ b. row-keeps n kinds l (steps.Delivers which cuts.Whole) s.to row (cut_of cut) tt k (delivery-is kinds l which s cuts.Whole e b) (packet-row n kinds l s k (sent-there w.sent which s e) b))
        (λ b. same-keeps n kinds l k)
step-keeps n kinds l (steps.Client m e cut) g k = at (is_asked (seen_of kinds l) m e) refl
  where
    w : World
    w = l.hosted.world

    row : Row
    row = row_of_client (member w m) e

    at : (z : Bool) → is_asked (seen_of kinds l) m e ≡ z → Keeps w (step w (if z then Client m e (cut_of cut) else still))
    at true a =
        if-cases (Keeps w) (is_running w m && are_of (member w m).values.election.term (e ∷ [])) (acts w m row (cut_of cut)) w
        (λ b. row-keeps n kinds l (steps.Client m e cuts.Whole) m row (cut_of cut) g k (client-is kinds l m e cuts.Whole a b) (client-row n kinds l m e k (and_true (is_running w m) (are_of (member w m).values.election.term (e ∷ [])) b).0))
        (λ b. same-keeps n kinds l k)
    at false a = pass-keeps w 0 k.quiet.bare k.spelled

-- ---- worlds that are reached

abbrev pub led_of : (s : Seen) → IsReached s → Led
led_of s q = turns s.kinds (rules_of s.kinds) (led q.members) q.taken

pub known-of : (s : Seen) (q : IsReached s) → Known q.members s.kinds (led_of s q)
known-of s q = record {
  five = q.five;
  three = q.three;
  stays = stays q.members s.kinds (rules_of s.kinds) q.taken q.five q.three;
  quiet = q.stands.quiet;
  spelled = subst IsSpelled (sym q.stands.world) q.spelled;
}

pub same-seen : (s : Seen) (q : IsReached s) → seen_of s.kinds (led_of s q) ≡ s
same-seen s q = λ i. record { kinds = s.kinds; world = q.stands.world i; printed = q.stands.printed i }

-- what code sees after a step
abbrev pub after_step : Seen → CodeStep → Seen
after_step s c = record { kinds = s.kinds; world = step s.world (step_of s c); printed = printed_by (length (step s.world (step_of s c)).members) (step s.world (step_of s c)) s.printed }

pub reached-step : (s : Seen) (c : CodeStep) → IsGiven c → IsReached s → IsReached (after_step s c)
reached-step s c g q =
    let kinds = s.kinds in
    let r = rules_of kinds in
    let l = led_of s q in
    let k = known-of s q in
    let t = turn_of (seen_of kinds l) c g in
    let v = next_world kinds l c in
    let keeps = step-keeps q.members kinds l c g k in
    let more : turns kinds r (led q.members) (q.taken ++ t ∷ []) ≡ noted_led r l v = turns-more kinds r (led q.members) q.taken t ∙ turn-is kinds l c g k.quiet in
    let here : IsReached (after_step (seen_of kinds l) c) = record {
      members = q.members;
      count = (next-stays q.members kinds l c g k).held.inv.count;
      five = q.five;
      three = q.three;
      taken = q.taken ++ t ∷ [];
      stands = subst (λ (z : Led). Stands z (after_step (seen_of kinds l) c)) (sym more) (record { world = refl; printed = refl; quiet = quiet-noted r l v k.quiet keeps.fresh });
      spelled = keeps.spelled;
    } in
    subst (λ (z : Seen). IsReached (after_step z c)) (same-seen s q) here

pub now_low : (s : Seen) → IsReached s → s.world.now ≤ 2 ^ 60
now_low s q = subst (λ (w : World). w.now ≤ 2 ^ 60) q.stands.world (known-of s q).stays.formed.moment

pub runs_now : (s : Seen) (m : ℕ) → IsReached s → Runs (member s.world m).values (member s.world m).durable.log
runs_now s m q = subst (λ (w : World). Runs (member w m).values (member w m).durable.log) q.stands.world (known-runs q.members s.kinds (led_of s q) m (known-of s q))
