-- A row that the code ran at a member is the protocol's step, and what it says can be spelled.
use Rattle.std.proofs.Common.{◌≡◌, ℕ, zero, suc, ◌<◌, get_or, pos, arith, Bool, true, false, ◌&&◌, List, [], ◌∷◌, length, Option, Some, refl, sym, ap, ◌∙◌, subst, ℤ, if◌then◌else◌}
use Rattle.std.specs.Prelude.{slice_get, slice_index_or}
use Rattle.std.proofs.lemmas.Option.{slice_get-get_or}
use Rattle.std.proofs.lemmas.List.{get_or_read}
use Rattle.entry_log.specs.Durable.{fresh}
use Rattle.entry_log.specs.Shape.{Shape, shape_of}
use Rattle.election.specs.declared.member.State.{State}
use Rattle.election.specs.declared.member.State.TheVariants.{Init, Canvass, Nominate, CandidateBallot, FollowerBallot, LeaderInit, LeaderReady, FollowerLogReplication, FollowerReady, Closed}
use Rattle.sbe_events.specs.declared.event.Event.{Event}
use Rattle.sbe_consensus.specs.Spelling.{HasSpelling as IsPacket}
use Rattle.sbe_consensus.specs.declared.packet.Packet.TheVariants as packets
use Rattle.service_api.specs.declared.shipped.Kind.{Kind}
use Rattle.module_state.specs.Entries.{IsSpellable}
use Rattle.consensus_core.specs.Member.{Member, Sent, Cut, stopped, after, sent_by, is_ready, row_of_packet, row_of_duty, row_of_client}
use Rattle.consensus_core.specs.Reign.{duty_at}
use Rattle.consensus_core.specs.declared.row.Row.{Row}
use Rattle.consensus_core.specs.declared.values.Values.{Values}
use Rattle.world.specs.World.{World, Raise, Reign, member, acts, step, is_running, are_of, raises_by}
use Rattle.one_log.specs.Led.{Led}
use Rattle.one_log.proofs.Turns.{due-passes, asked-passes}
use Rattle.world.proofs.Runs.{runs}
use Rattle.world_steps.specs.Fit.{Runs, SpeaksBy}
use Rattle.world_steps.specs.Members.{cut_of, reign_term, reigns_from}
use Rattle.world_steps.specs.Steps.{Seen, IsReached, due_at as due_here, due_if_ready, is_asked, noting, sent_at, step_of}
use Rattle.world_steps.specs.declared.cut.Cut.{Cut as CodeCut}
use Rattle.world_steps.specs.declared.cut.Cut.TheVariants as cuts
use Rattle.world_steps.specs.declared.step.Step.TheVariants as steps
use Rattle.world_steps.proofs.Noting.{with_member, noting-acts}
use Rattle.world_steps.proofs.Reached.{Known, led_of, known-of, same-seen, row-speaks, duty-row, packet-row, client-row, duty-is, delivery-is, client-is, sent-there, runs_now}
use Rattle.world_steps.proofs.Turned.{seen_of, due-same, asked-same}

-- ---- what the code notes

-- the values of a row that the code ran and what it notes of it are those of the row
record IsNoted (w : World) (m : ℕ) (row : Row) (cut : Cut) (x : Member) (reigned : Option ℤ) (raises : List Raise) (sent : List Sent) (reigns : List Reign) : Type 0 where
  pub within : m < length w.members
  pub member_is : x ≡ after row cut (stopped (member w m).durable)
  pub reigned_is : reigned ≡ reign_term (member w m)
  pub raises_are : raises ≡ raises_by m (member w m).durable.log row.change cut
  pub sent_is : sent ≡ sent_by row cut (stopped (member w m).durable)
  pub reigns_are : reigns ≡ reigns_from m (member w m).values.election.state row (member w m).durable.log cut

row-noted : (w : World) (m : ℕ) (row : Row) (cut : Cut) (x : Member) (reigned : Option ℤ) (raises : List Raise) (sent : List Sent) (reigns : List Reign) → IsNoted w m row cut x reigned raises sent reigns
    → noting (with_member w m x) m reigned raises sent reigns ≡ acts w m row cut
row-noted w m row cut x reigned raises sent reigns n =
    (λ i. noting (with_member w m (n.member_is i)) m (n.reigned_is i) (n.raises_are i) (n.sent_is i) (n.reigns_are i)) ∙ noting-acts w m row cut n.within

-- ---- duties

-- a member that doesn't lead looks at nothing that is due
row-same-at : (s : State) (v : Values) (xs : Shape) (due : List Event) (now : ℕ) → duty_at s v xs (if is_ready s then due else []) now ≡ duty_at s v xs due now
row-same-at LeaderReady v xs due now = refl
row-same-at Init v xs due now = refl
row-same-at Canvass v xs due now = refl
row-same-at Nominate v xs due now = refl
row-same-at CandidateBallot v xs due now = refl
row-same-at FollowerBallot v xs due now = refl
row-same-at LeaderInit v xs due now = refl
row-same-at FollowerLogReplication v xs due now = refl
row-same-at FollowerReady v xs due now = refl
row-same-at Closed v xs due now = refl

duty-same : (s : Seen) (m : ℕ) (alive : List (ℤ × ℕ)) (since : ℕ) (es : List Event) → es ≡ due_if_ready s m alive since
    → row_of_duty (member s.world m) es s.world.now ≡ row_of_duty (member s.world m) (due_here s m alive since) s.world.now
duty-same s m alive since es e =
    let x = member s.world m in
    ap (λ (ds : List Event). row_of_duty x ds s.world.now) e ∙ row-same-at x.values.election.state x.values (shape_of x.durable.log) (due_here s m alive since) s.world.now

both : (a b : Bool) → a ≡ true → b ≡ true → (a && b) ≡ true
both true b p q = q
both false b p q = p

duty-guard : (n : ℕ) (kinds : List Kind) (l : Led) (m : ℕ) (alive : List (ℤ × ℕ)) (since : ℕ) → Known n kinds l → is_running l.hosted.world m ≡ true
    → (is_running l.hosted.world m && are_of (member l.hosted.world m).values.election.term (due_here (seen_of kinds l) m alive since)) ≡ true
duty-guard n kinds l m alive since k on =
    let t = (member l.hosted.world m).values.election.term in
    both (is_running l.hosted.world m) (are_of t (due_here (seen_of kinds l) m alive since)) on
    (subst (λ (ds : List Event). are_of t ds ≡ true) (due-same kinds l m alive since k.quiet) (due-passes kinds l m alive since))

-- the row of a duty of a running member is its step, and what it says can be spelled
pub record IsDuty (s : Seen) (m : ℕ) (alive : List (ℤ × ℕ)) (since : ℕ) (cut : CodeCut) (es : List Event) : Type 0 where
  pub step_is : acts s.world m (row_of_duty (member s.world m) es s.world.now) (cut_of cut) ≡ step s.world (step_of s (steps.Duty m alive since cut))
  pub speaks : SpeaksBy (member s.world m) (row_of_duty (member s.world m) es s.world.now)

duty-there : (n : ℕ) (kinds : List Kind) (l : Led) (m : ℕ) (alive : List (ℤ × ℕ)) (since : ℕ) (cut : CodeCut) (es : List Event) → Known n kinds l
    → is_running l.hosted.world m ≡ true → es ≡ due_if_ready (seen_of kinds l) m alive since → IsDuty (seen_of kinds l) m alive since cut es
duty-there n kinds l m alive since cut es k on e =
    let s = seen_of kinds l in
    let w = l.hosted.world in
    let x = member w m in
    let due = due_here s m alive since in
    let guard = duty-guard n kinds l m alive since k on in
    let same = duty-same s m alive since es e in
    record {
      step_is = ap (λ (row : Row). acts w m row (cut_of cut)) same ∙ sym (duty-is kinds l m alive since cut guard);
      speaks = subst (SpeaksBy x) (sym same)
          (row-speaks n kinds l (steps.Duty m alive since cuts.Whole) m (row_of_duty x due w.now) tt k (duty-is kinds l m alive since cuts.Whole guard) (duty-row n kinds l m due k on));
    }

pub duty-made : (s : Seen) (m : ℕ) (alive : List (ℤ × ℕ)) (since : ℕ) (cut : CodeCut) (es : List Event) → IsReached s → is_running s.world m ≡ true → es ≡ due_if_ready s m alive since → IsDuty s m alive since cut es
duty-made s m alive since cut es q on e =
    subst (λ (z : Seen). is_running z.world m ≡ true → es ≡ due_if_ready z m alive since → IsDuty z m alive since cut es) (same-seen s q)
    (duty-there q.members s.kinds (led_of s q) m alive since cut es (known-of s q)) on e

-- ---- deliveries

-- the row of a packet that was sent to a running member is its step, and what it says can be spelled
record IsDelivery (s : Seen) (which : ℕ) (o : Sent) (cut : CodeCut) : Type 0 where
  pub step_is : acts s.world o.to (row_of_packet (member s.world o.to) o.packet s.world.now) (cut_of cut) ≡ step s.world (step_of s (steps.Delivers which cut))
  pub speaks : SpeaksBy (member s.world o.to) (row_of_packet (member s.world o.to) o.packet s.world.now)
  pub spelled : IsPacket o.packet

delivery-there : (n : ℕ) (kinds : List Kind) (l : Led) (which : ℕ) (o : Sent) (cut : CodeCut) → Known n kinds l → slice_get l.hosted.world.sent which ≡ Some o → is_running l.hosted.world o.to ≡ true → IsDelivery (seen_of kinds l) which o cut
delivery-there n kinds l which o cut k e on =
    let w = l.hosted.world in
    let x = member w o.to in
    let has = sent-there w.sent which o e in
    record {
      step_is = sym (delivery-is kinds l which o cut e on);
      speaks = row-speaks n kinds l (steps.Delivers which cuts.Whole) o.to (row_of_packet x o.packet w.now) tt k (delivery-is kinds l which o cuts.Whole e on) (packet-row n kinds l o k has on);
      spelled = k.spelled.sent o has;
    }

delivery-made : (s : Seen) (which : ℕ) (o : Sent) (cut : CodeCut) → IsReached s → slice_get s.world.sent which ≡ Some o → is_running s.world o.to ≡ true → IsDelivery s which o cut
delivery-made s which o cut q e on =
    subst (λ (z : Seen). slice_get z.world.sent which ≡ Some o → is_running z.world o.to ≡ true → IsDelivery z which o cut) (same-seen s q) (delivery-there q.members s.kinds (led_of s q) which o cut (known-of s q)) e on

-- the same of the packet of this number, to this member
pub record IsTaking (s : Seen) (which m : ℕ) (cut : CodeCut) : Type 0 where
  pub step_is : acts s.world m (row_of_packet (member s.world m) (sent_at s.world which).packet s.world.now) (cut_of cut) ≡ step s.world (step_of s (steps.Delivers which cut))
  pub speaks : SpeaksBy (member s.world m) (row_of_packet (member s.world m) (sent_at s.world which).packet s.world.now)
  pub spelled : IsPacket (sent_at s.world which).packet

-- what stands past the last packet
abbrev no_packet : Sent
no_packet = record { to = 0; packet = packets.Append (pos 0) (pos 0) (pos 0) }

pub taking-made : (s : Seen) (which m : ℕ) (cut : CodeCut) → IsReached s → which < length s.world.sent → m ≡ (sent_at s.world which).to → is_running s.world m ≡ true → IsTaking s which m cut
taking-made s which m cut q inside to on =
    subst (λ (k : ℕ). is_running s.world k ≡ true → IsTaking s which k cut) (sym to)
    (λ (here : is_running s.world (sent_at s.world which).to ≡ true).
    let made = delivery-made s which (sent_at s.world which) cut q (slice_get-get_or s.world.sent which no_packet inside) here in
    record { step_is = made.step_is; speaks = made.speaks; spelled = made.spelled }) on

-- it is found in the list
pub packet-found : (s t : Seen) (which : ℕ) (o : Sent) → s ≡ t → which < length t.world.sent → o ≡ get_or s.world.sent which o → o ≡ sent_at t.world which
packet-found s t which o view inside at =
    get_or_read s.world.sent which o (subst (λ (z : Seen). which < length z.world.sent) (sym view) inside) at no_packet ∙ ap (λ (z : Seen). sent_at z.world which) view

-- ---- clients

pub record IsAsking (s : Seen) (m : ℕ) (e : Event) (cut : CodeCut) : Type 0 where
  pub step_is : acts s.world m (row_of_client (member s.world m) e) (cut_of cut) ≡ step s.world (step_of s (steps.Client m e cut))
  pub speaks : SpeaksBy (member s.world m) (row_of_client (member s.world m) e)

client-there : (n : ℕ) (kinds : List Kind) (l : Led) (m : ℕ) (e : Event) (cut : CodeCut) → IsSpellable e → Known n kinds l → is_running l.hosted.world m ≡ true → is_asked (seen_of kinds l) m e ≡ true → IsAsking (seen_of kinds l) m e cut
client-there n kinds l m e cut g k on asked =
    let w = l.hosted.world in
    let x = member w m in
    let guard : (is_running w m && are_of x.values.election.term (e ∷ [])) ≡ true = both (is_running w m) (are_of x.values.election.term (e ∷ [])) on (asked-passes kinds l m e (asked-same kinds l m e k.quiet ∙ asked)) in
    record {
      step_is = sym (client-is kinds l m e cut asked guard);
      speaks = row-speaks n kinds l (steps.Client m e cuts.Whole) m (row_of_client x e) g k (client-is kinds l m e cuts.Whole asked guard) (client-row n kinds l m e k on);
    }

pub client-made : (s : Seen) (m : ℕ) (e : Event) (cut : CodeCut) → IsSpellable e → IsReached s → is_running s.world m ≡ true → is_asked s m e ≡ true → IsAsking s m e cut
client-made s m e cut g q on asked =
    subst (λ (z : Seen). is_running z.world m ≡ true → is_asked z m e ≡ true → IsAsking z m e cut) (same-seen s q) (client-there q.members s.kinds (led_of s q) m e cut g (known-of s q)) on asked

-- ---- a running member, as it is found in the list

found-in : (l : List Member) (m : ℕ) (x : Member) → m < length l → x ≡ get_or l m x → x ≡ slice_index_or l m (stopped fresh)
found-in [] m x h e = absurd (omega arith)
found-in (a ∷ l) zero x h e = e
found-in (a ∷ l) (suc m) x h e = found-in l m x (omega arith) e

-- a running member that the code found
pub record Found (s : Seen) (m : ℕ) (x : Member) : Type 0 where
  pub reached : IsReached s
  pub on : is_running s.world m ≡ true
  pub within : m < length s.world.members
  pub up : x.up ≡ true
  pub there : x ≡ member s.world m

-- where the code opened what it sees
pub found : (s t : Seen) (m : ℕ) (x : Member) → s ≡ t → IsReached t → is_running t.world m ≡ true → x ≡ get_or s.world.members m x → Found s m x
found s t m x view reached on at =
    let on' : is_running s.world m ≡ true = subst (λ (z : Seen). is_running z.world m ≡ true) (sym view) on in
    let r = runs s.world m on' in
    let there = found-in s.world.members m x r.0 at in
    record { reached = subst IsReached (sym view) reached; on = on'; within = r.0; up = subst (λ (y : Member). y.up ≡ true) (sym there) r.1; there = there }

pub runs-at : (s : Seen) (m : ℕ) (x : Member) → Found s m x → Runs x.values x.durable.log
runs-at s m x f = subst (λ (y : Member). Runs y.values y.durable.log) (sym f.there) (runs_now s m f.reached)

-- ---- what a call leaves

-- a row of a member that the code found: what it was, what it is, and what is noted of it
pub record Ran (s : Seen) (m : ℕ) (row : Member → Row) (cut : Cut) (x y : Member) (reigned : Option ℤ) (raises : List Raise) (sent : List Sent) (reigns : List Reign) : Type 0 where
  pub found_is : Found s m x
  pub reigned_is : reigned ≡ reign_term (member s.world m)
  pub member_is : y ≡ after (row x) cut (stopped x.durable)
  pub raises_are : raises ≡ raises_by m x.durable.log (row x).change cut
  pub sent_is : sent ≡ sent_by (row x) cut (stopped x.durable)
  pub reigns_are : reigns ≡ reigns_from m x.values.election.state (row x) x.durable.log cut

ran-acts : (s : Seen) (m : ℕ) (row : Member → Row) (cut : Cut) (x y : Member) (reigned : Option ℤ) (raises : List Raise) (sent : List Sent) (reigns : List Reign) → Ran s m row cut x y reigned raises sent reigns
    → noting (with_member s.world m y) m reigned raises sent reigns ≡ acts s.world m (row (member s.world m)) cut
ran-acts s m row cut x y reigned raises sent reigns r =
    let f = r.found_is in
    row-noted s.world m (row (member s.world m)) cut y reigned raises sent reigns (record {
      within = f.within;
      member_is = r.member_is ∙ ap (λ (a : Member). after (row a) cut (stopped a.durable)) f.there;
      reigned_is = r.reigned_is;
      raises_are = r.raises_are ∙ ap (λ (a : Member). raises_by m a.durable.log (row a).change cut) f.there;
      sent_is = r.sent_is ∙ ap (λ (a : Member). sent_by (row a) cut (stopped a.durable)) f.there;
      reigns_are = r.reigns_are ∙ ap (λ (a : Member). reigns_from m a.values.election.state (row a) a.durable.log cut) f.there;
    })

-- what code sees, where its world is this one
abbrev pub with_world : Seen → World → Seen
with_world s w = record { kinds = s.kinds; world = w; printed = s.printed }

-- what code sees after it
pub acts-returns : (s t : Seen) (m : ℕ) (row : Member → ℕ → Row) (cut : Cut) (x y : Member) (reigned : Option ℤ) (raises : List Raise) (sent : List Sent) (reigns : List Reign) (new : Seen)
    → s ≡ t → Ran s m (λ (a : Member). row a s.world.now) cut x y reigned raises sent reigns
    → new ≡ with_world s (noting (with_member s.world m y) m reigned raises sent reigns) → new ≡ with_world t (acts t.world m (row (member t.world m) t.world.now) cut)
acts-returns s t m row cut x y reigned raises sent reigns new view r is =
    is
    ∙ ap (with_world s) (ran-acts s m (λ (a : Member). row a s.world.now) cut x y reigned raises sent reigns r)
    ∙ ap (λ (z : Seen). with_world z (acts z.world m (row (member z.world m) z.world.now) cut)) view
