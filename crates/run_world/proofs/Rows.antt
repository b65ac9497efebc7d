-- A row of a running member, by a duty or by a packet: one turn of the world of steps.
use Rattle.std.proofs.Common.{◌≡◌, ◌≢◌, inl, inr, ℕ, ◌<◌, ◌≤◌, Bool, true, false, ◌&&◌, not, List, [], ◌∷◌, ◌++◌, length, map, set, take, drop, refl, sym, ap, ◌∙◌, subst, arith, ℤ, pos, Option, Some, None, if◌then◌else◌}
use Rattle.std.specs.Prelude.{Contains, nat_lt, slice_get, slice_index_or}
use Rattle.std.specs.List.{AllByRecursion}
use Rattle.std.proofs.lemmas.Bool.Decides.{nat_tests}
use Rattle.std.proofs.lemmas.Option.{slice_get-get_or}
use Rattle.sbe_events.specs.declared.event.Event.{Event}
use Rattle.sbe_consensus.specs.Laws.{encoded}
use Rattle.sbe_consensus.specs.Spelling.{HasSpelling, packet_of, spelling_of}
use Rattle.sbe_consensus.specs.declared.packet.Packet.{Packet}
use Rattle.sbe_consensus.specs.declared.packet.Outgoing.{Outgoing}
use Rattle.service_api.specs.declared.shipped.Kind.{Kind}
use Rattle.module_state.specs.Entries.{events_in, IsSpellable}
use Rattle.module_state.specs.Logs.{due_in}
use Rattle.module_state.specs.Module.{tentative}
use Rattle.module_state.specs.Places.{entry_of, stamp_of}
use Rattle.module_state.specs.Services.{module_of}
use Rattle.cl_base.specs.declared.entry.Entry.{Entry}
use Rattle.entry_log.specs.Log.{Log, place}
use Rattle.entry_log.specs.Shape.{shape_of}
use Rattle.log_replication.specs.Prefixes.{Leads}
use Rattle.sbe_events.specs.Spelling.{term_of}
use Rattle.std.specs.Ordering.{int_eq}
use Rattle.consensus_core.specs.Member.{Member, Sent, Run, Cut, Whole, after, sent_by, spelled_packet, row_of_packet, row_of_duty, row_of_client, is_ready}
use Rattle.consensus_core.specs.declared.row.Row.{Row}
use Rattle.consensus_core.proofs.Fitting.{receives_fit, duty_fits}
use Rattle.network.specs.Net.{NetSeen, taken, coming, first_of}
use Rattle.world.specs.World.{World, Duty, Delivers, Client, member, acts, step, comes, is_running, are_of}
use Rattle.world.proofs.Effects.{if-cases}
use Rattle.world.proofs.Rows.{and_true}
use Rattle.world.proofs.Runs.{runs}
use Rattle.service_runs.specs.Hosts.{Rules, Host, Hosted, Stage, Idle, Rows, follow, marked, noted, lets_at, lets_rows, lets_packet, no_host}
use Rattle.service_runs.proofs.Held.{Held, up-below}
use Rattle.one_log.specs.Led.{Led, Turn, Acts, Leads as LeadsTurn, Asks, turn, turns, led, goes_on, ahead_of, due_at, admits, has_room, is_asked}
use Rattle.one_log.specs.Ruled.{rules_of}
use Rattle.one_log.proofs.Formed.{Formed}
use Rattle.agreement.proofs.Second.{Fits}
use Rattle.world.proofs.Kept.{Inv}
use Rattle.consensus_core.specs.Fit.{IsFit, IsSound}
use Rattle.one_log.proofs.Turns.{Stays, stays, turn-stays, due-passes, asked-passes}
use Rattle.run_world.specs.Seat.{Seat, Fate, Phase, Rests, Goes, Ends, becomes, went_on, halted, reigns_from, acted, phase_after, lets_calls}
use Rattle.run_world.specs.RunWorld.{RunWorld, seat, put, row_at, is_up, is_free as may_act, with_net, takes_packet, handed, applied_events, ahead_events, may_ask, due_at as due_here}
use Rattle.run_world.specs.Lawful.{IsSpelled, IsFlown, IsHost, IsPhase, IsLeader, Shows, Lawful}
use Rattle.run_world.proofs.Flown.{flown-taken, coming-sent}
use Rattle.run_world.proofs.Shown.{IsChange, AllPrinted, commit-within, member-shown, count-shown, put-shows}
use Rattle.run_world.proofs.Spelled.{row-spelled}
use Rattle.run_world.proofs.Towards.{IsTowards, packet-towards, duty-towards}

-- ---- the seat of a member that a row changed

pub becomes-member : (y : Member) (f : Fate) (s : Seat) → (becomes y f s).member ≡ y
becomes-member y f s = if-cases (λ (z : Seat). z.member ≡ y) y.up (went_on y f s) (halted y f.own s) (λ b. refl) (λ b. refl)

reigns-host : (h : Host) (now : ℕ) (row : Row) (s : Seat) → IsHost h s → IsHost h (reigns_from now row s)
reigns-host h now row s i =
    if-cases (IsHost h) (is_ready row.values.election.state && not (is_ready s.member.values.election.state)) _ _
    (λ b. record { run = i.run; applied = i.applied; past = i.past; phase = i.phase }) (λ b. i)

reigns-member : (now : ℕ) (row : Row) (s : Seat) → s.member ≡ (reigns_from now row s).member
reigns-member now row s = if-cases (λ (z : Seat). s.member ≡ z.member) (is_ready row.values.election.state && not (is_ready s.member.values.election.state)) _ _ (λ b. refl) (λ b. refl)

pub halts-host : (r : Rules) (x y : Member) (own : ℕ) (h : Host) (s : Seat) → x.up ≡ true → y.up ≡ false → IsHost h s → IsHost (follow r x y h) (halted y own s)
halts-host r x y own h s up off i =
    let e : follow r x y h ≡ record no_host { past = h.past ++ h.run ∷ [] } = rw (off, up) refl in
    subst (λ (z : Host). IsHost z (halted y own s)) (sym e) (record {
      run = refl;
      applied = refl;
      past = ap (λ (p : List Run). p ++ h.run ∷ []) i.past ∙ ap (λ (q : Run). s.ended ++ q ∷ []) i.run;
      phase = refl;
    })

marked-phase : (x y : Member) (p : Phase) (h : Host) → IsPhase p h → IsPhase (phase_after x y p) (record h { stage = marked x y h.stage })
marked-phase x y Rests h i = ap (marked x y) i
marked-phase x y (Goes role true) h i = (ap (marked x y) i.0, i.1, i.2)
marked-phase x y (Goes role false) h i = (ap (marked x y) i.0, i.1, i.2)
marked-phase x y (Ends role upto due) h i = (ap (marked x y) i.0, i.1)

pub becomes-host : (r : Rules) (x y : Member) (f : Fate) (h : Host) (s : Seat) → x.up ≡ true → x ≡ s.member → IsHost h s → IsHost (follow r x y h) (becomes y f s)
becomes-host r x y f h s up same i = at y.up refl
  where
    at : (b : Bool) → y.up ≡ b → IsHost (follow r x y h) (becomes y f s)
    at true on =
        let e : follow r x y h ≡ record h { stage = marked x y h.stage } = rw (on, up) refl in
        let d : becomes y f s ≡ went_on y f s = rw on refl in
        subst (λ (z : Seat). IsHost (follow r x y h) z) (sym d)
        (subst (λ (z : Host). IsHost z (went_on y f s)) (sym e) (record {
          run = i.run;
          applied = i.applied;
          past = i.past;
          phase = subst (λ (z : Member). IsPhase (phase_after z y s.phase) (record h { stage = marked x y h.stage })) same (marked-phase x y s.phase h i.phase);
        }))
    at false off =
        let d : becomes y f s ≡ halted y f.own s = rw off refl in
        subst (λ (z : Seat). IsHost (follow r x y h) z) (sym d) (halts-host r x y f.own h s up off i)

row-change : (w : World) (m : ℕ) (row : Row) (cut : Cut) → IsChange w (acts w m row cut) m (after row cut (member w m)) (sent_by row cut (member w m))
unfolding acts
row-change w m row cut = record { now = refl; members = refl; sent = refl }

-- a row in the world of steps shows as the row of the seat
pub row-shows : (r : Rules) (h : Hosted) (w : RunWorld) (m : ℕ) (row : Row) (f : Fate) → AllPrinted h → Shows h w → m < length w.seats → (seat w m).member.up ≡ true
    → IsSpelled (acts h.world m row f.cut) → Shows (noted r h (acts h.world m row f.cut)) (row_at m row f w)
row-shows r h w m row f all s within up spelled =
    let ex : member h.world m ≡ (seat w m).member = member-shown h w m s in
    let y = after row f.cut (seat w m).member in
    put-shows r h w (acts h.world m row f.cut) m y (sent_by row f.cut (seat w m).member) (acted row w.now f (seat w m)) all s within
    (subst (λ (x : Member). IsChange h.world (acts h.world m row f.cut) m (after row f.cut x) (sent_by row f.cut x)) ex (row-change h.world m row f.cut))
    (becomes-member y f (reigns_from w.now row (seat w m)))
    (becomes-host r (member h.world m) y f (h.hosts m) (reigns_from w.now row (seat w m)) (ap (λ (x : Member). x.up) ex ∙ up) (ex ∙ reigns-member w.now row (seat w m)) (reigns-host (h.hosts m) w.now row (seat w m) (s.hosts m)))
    spelled

-- ---- one turn more

pub turns-more : (kinds : List Kind) (r : Rules) (l : Led) (ts : List Turn) (t : Turn) → turns kinds r l (ts ++ t ∷ []) ≡ turn kinds r (turns kinds r l ts) t
turns-more kinds r l [] t = refl
turns-more kinds r l (u ∷ ts) t = turns-more kinds r (turn kinds r l u) ts t

pub lawful-more : (n : ℕ) (kinds : List Kind) (w w' : RunWorld) (lawful : Lawful n kinds w) (t : Turn) (h : Hosted) → (turn kinds (rules_of kinds) (turns kinds (rules_of kinds) (led n) lawful.taken) t).hosted ≡ h → Shows h w' → Lawful n kinds w'
lawful-more n kinds w w' lawful t h is shows = record {
  taken = lawful.taken ++ t ∷ [];
  shows = subst (λ (z : Hosted). Shows z w') (sym (ap (λ (l : Led). l.hosted) (turns-more kinds (rules_of kinds) (led n) lawful.taken t) ∙ is)) shows;
}

-- or two
pub lawful-two : (n : ℕ) (kinds : List Kind) (w w' : RunWorld) (lawful : Lawful n kinds w) (t u : Turn) (h : Hosted)
    → (turn kinds (rules_of kinds) (turn kinds (rules_of kinds) (turns kinds (rules_of kinds) (led n) lawful.taken) t) u).hosted ≡ h → Shows h w' → Lawful n kinds w'
lawful-two n kinds w w' lawful t u h is shows =
    let r = rules_of kinds in
    let more = turns-more kinds r (led n) lawful.taken t in
    record {
      taken = (lawful.taken ++ t ∷ []) ++ u ∷ [];
      shows = subst (λ (z : Hosted). Shows z w') (sym (ap (λ (l : Led). l.hosted) (turns-more kinds r (led n) (lawful.taken ++ t ∷ []) u ∙ ap (λ (l : Led). turn kinds r l u) more) ∙ is)) shows;
    }

pub up-parts : (w : RunWorld) (m : ℕ) → is_up w m ≡ true → (m < length w.seats) × ((seat w m).member.up ≡ true)
up-parts w m h = let p = and_true (nat_lt m (length w.seats)) (seat w m).member.up h in ((let q = p.0 in grind (arith, nat_tests, q)), p.1)

pub free-parts : (w : RunWorld) (m : ℕ) → may_act w m ≡ true → (m < length w.seats) × ((seat w m).member.up ≡ true) × (lets_calls (seat w m).phase ≡ true)
free-parts w m h =
    let p = and_true (is_up w m) (lets_calls (seat w m).phase) h in
    let q = up-parts w m p.0 in
    (q.0, q.1, p.1)

pub both : (a b : Bool) → a ≡ true → b ≡ true → (a && b) ≡ true
both true b p q = q
both false b p q = p

pub runs-there : (h : Hosted) (w : RunWorld) (m : ℕ) → Shows h w → m < length w.seats → (seat w m).member.up ≡ true → is_running h.world m ≡ true
runs-there h w m s l up =
    let count = count-shown h w s in
    let inside : nat_lt m (length h.world.members) ≡ true = grind (arith, nat_tests, l, count) in
    both (nat_lt m (length h.world.members)) (member h.world m).up inside (ap (λ (x : Member). x.up) (member-shown h w m s) ∙ up)

pub idle-there : (h : Hosted) (w : RunWorld) (m : ℕ) → Shows h w → (seat w m).phase ≡ Rests → (h.hosts m).stage ≡ Idle
idle-there h w m s rest = subst (λ (p : Phase). IsPhase p (h.hosts m)) rest (s.hosts m).phase

-- what a running member knows of itself
known-there : (n : ℕ) (kinds : List Kind) (l : Led) (m : ℕ) → Stays n kinds (rules_of kinds) l → (member l.hosted.world m).up ≡ true → ((member l.hosted.world m).values.election.members ≡ n) × ((member l.hosted.world m).values.election.id < n)
known-there n kinds l m st up =
    let inside = up-below l.hosted.world m up in
    let count = st.held.inv.count in
    let low : m < n = omega (arith, inside, count) in
    let known = (st.held.inv.members m low).known up in
    let id = known.id in
    (known.members, omega (arith, id, low))

-- a sound row that a turn makes of the world
pub row-lifts : (n : ℕ) (kinds : List Kind) (w : RunWorld) (m : ℕ) (row : Row) (f : Fate) (t : Cut → Turn) (lawful : Lawful n kinds w) → n ≤ 5 → length kinds ≤ 3
    → m < length w.seats → (seat w m).member.up ≡ true
    → ((c : Cut) → (turn kinds (rules_of kinds) (turns kinds (rules_of kinds) (led n) lawful.taken) (t c)).hosted ≡ noted (rules_of kinds) (turns kinds (rules_of kinds) (led n) lawful.taken).hosted (acts (turns kinds (rules_of kinds) (led n) lawful.taken).hosted.world m row c))
    → IsSound row.values row.plan → IsTowards n row → Lawful n kinds (row_at m row f w)
row-lifts n kinds w m row f t lawful five three l up is sound towards =
    let r = rules_of kinds in
    let d = turns kinds r (led n) lawful.taken in
    let h = d.hosted in
    let st : Stays n kinds r d = stays n kinds r lawful.taken five three in
    let whole : Stays n kinds r (turn kinds r d (t Whole)) = turn-stays n kinds r d (t Whole) five three st in
    let world : (turn kinds r d (t Whole)).hosted.world ≡ acts h.world m row Whole = ap (λ (z : Hosted). z.world) (is Whole) in
    let count = count-shown h w lawful.shows in
    let spelled = row-spelled n kinds h.world m row f.cut (omega (arith, l, count)) (subst (Inv n) world whole.held.inv) (subst (Fits n) world whole.held.fits) (subst (Formed kinds) world whole.formed) sound (subst (λ (k : ℕ). IsTowards k row) (sym st.held.inv.count) towards) lawful.shows.spelled in
    lawful-more n kinds w (row_at m row f w) lawful (t f.cut) (noted r h (acts h.world m row f.cut)) (is f.cut) (row-shows r h w m row f (λ j. commit-within n r h j st.held) lawful.shows l up spelled)

-- ---- a duty

front-is : (xs ys : Log) → Leads xs ys → xs ≡ take (length xs) ys
front-is [] ys p = refl
front-is (x ∷ xs) [] p = absurd p
front-is (x ∷ xs) (y ∷ ys) p = ap (λ (z : Entry). z ∷ xs) p.0 ∙ ap (λ (l : Log). y ∷ l) (front-is xs ys p.1)

-- what a running member's module applied
applied-shown : (n : ℕ) (kinds : List Kind) (l : Led) (w : RunWorld) (m : ℕ) → Stays n kinds (rules_of kinds) l → Shows l.hosted w → (seat w m).member.up ≡ true
    → (events_in (l.consumed m) ≡ applied_events (seat w m)) × (ahead_of l m ≡ ahead_events (seat w m))
applied-shown n kinds l w m st s up =
    let ex : member l.hosted.world m ≡ (seat w m).member = member-shown l.hosted w m s in
    let p = seat w m in
    let c = l.consumed m in
    let know = st.know m (ap (λ (x : Member). x.up) ex ∙ up) in
    let count : length c ≡ p.applied = know.1 ∙ (s.hosts m).applied in (
      ap events_in (front-is c (member l.hosted.world m).durable.log know.0 ∙ ap (λ (k : ℕ). take k (member l.hosted.world m).durable.log) count ∙ ap (λ (x : Member). take p.applied x.durable.log) ex),
      ap events_in (ap (λ (k : ℕ). drop k (member l.hosted.world m).durable.log) count ∙ ap (λ (x : Member). drop p.applied x.durable.log) ex),
    )

due-shown : (n : ℕ) (kinds : List Kind) (l : Led) (w : RunWorld) (m : ℕ) → Stays n kinds (rules_of kinds) l → Shows l.hosted w → (seat w m).member.up ≡ true
    → due_at kinds l m (seat w m).alive (seat w m).since ≡ due_here kinds (seat w m) w.now
due-shown n kinds l w m st s up =
    let p = seat w m in
    let shown = applied-shown n kinds l w m st s up in
    ap (λ (es : List Event). due_in kinds es (ahead_of l m) p.alive (member l.hosted.world m).values.election.term l.hosted.world.now p.since) shown.0
    ∙ ap (λ (es : List Event). due_in kinds (applied_events p) es p.alive (member l.hosted.world m).values.election.term l.hosted.world.now p.since) shown.1
    ∙ ap (λ (x : Member). due_in kinds (applied_events p) (ahead_events p) p.alive x.values.election.term l.hosted.world.now p.since) (member-shown l.hosted w m s)
    ∙ ap (λ (k : ℕ). due_in kinds (applied_events p) (ahead_events p) p.alive p.member.values.election.term k p.since) s.now

pub duty-lifts : (n : ℕ) (kinds : List Kind) (w : RunWorld) (m : ℕ) (f : Fate) → n ≤ 5 → length kinds ≤ 3 → (lawful : Lawful n kinds w) → m < length w.seats → (seat w m).member.up ≡ true → lets_at (turns kinds (rules_of kinds) (led n) lawful.taken).hosted m ≡ true
    → Lawful n kinds (row_at m (row_of_duty (seat w m).member (due_here kinds (seat w m) w.now) w.now) f w)
duty-lifts n kinds w m f five three lawful l up free =
    let r = rules_of kinds in
    let d = turns kinds r (led n) lawful.taken in
    let h = d.hosted in
    let s = lawful.shows in
    let x = member h.world m in
    let p = seat w m in
    let es : List Event = due_at kinds d m p.alive p.since in
    let st : Stays n kinds r d = stays n kinds r lawful.taken five three in
    let ex : x ≡ p.member = member-shown h w m s in
    let guard : (is_running h.world m && are_of x.values.election.term es) ≡ true = both (is_running h.world m) (are_of x.values.election.term es) (runs-there h w m s l up) (due-passes kinds d m p.alive p.since) in
    let row = row_of_duty x es h.world.now in
    let is : (c : Cut) → (turn kinds r d (LeadsTurn m p.alive p.since c)).hosted ≡ noted r h (acts h.world m row c) =
    λ c. ap (λ (b : Bool). if b then noted r h (step h.world (Duty m es c)) else h) free ∙ ap (λ (b : Bool). noted r h (if b then acts h.world m row c else h.world)) guard in
    let sound = duty_fits x.values (shape_of x.durable.log) es h.world.now (s.spelled.fit m (ap (λ (z : Member). z.up) ex ∙ up)) in
    let on = ap (λ (z : Member). z.up) ex ∙ up in
    let there = known-there n kinds d m st on in
    let towards = duty-towards n x.values (shape_of x.durable.log) es h.world.now there.1 (subst (λ (k : ℕ). IsLeader k x.values.election.leader) st.held.inv.count (s.spelled.leads m on)) in
    let same : row ≡ row_of_duty p.member (due_here kinds p w.now) w.now =
    ap (λ (z : Member). row_of_duty z es h.world.now) ex ∙ ap (λ (ds : List Event). row_of_duty p.member ds h.world.now) (due-shown n kinds d w m st s up) ∙ ap (row_of_duty p.member (due_here kinds p w.now)) s.now in
    subst (λ (z : Row). Lawful n kinds (row_at m z f w)) same (row-lifts n kinds w m row f (λ c. LeadsTurn m p.alive p.since c) lawful five three l up is sound towards)

-- ---- a client's event, or an operator's

asked-shown : (n : ℕ) (kinds : List Kind) (l : Led) (w : RunWorld) (m : ℕ) (e : Event) → Stays n kinds (rules_of kinds) l → Shows l.hosted w → (seat w m).member.up ≡ true → is_asked kinds l m e ≡ may_ask kinds (seat w m) w.now e
asked-shown n kinds l w m e st s up =
    let p = seat w m in
    let shown = applied-shown n kinds l w m st s up in
    let asks : ℕ → Member → List Event → List Event → Bool = λ (now : ℕ) (x : Member) (as' bs : List Event).
    int_eq (stamp_of e) (pos now)
    && (int_eq (term_of e) x.values.election.term && (admits (tentative (module_of kinds as') bs) (place x.durable.log) e && has_room x.durable.log (entry_of e ∷ []))) in
    ap (λ (now : ℕ). asks now (member l.hosted.world m) (events_in (l.consumed m)) (ahead_of l m)) s.now
    ∙ ap (λ (x : Member). asks w.now x (events_in (l.consumed m)) (ahead_of l m)) (member-shown l.hosted w m s)
    ∙ ap (λ (as' : List Event). asks w.now p.member as' (ahead_of l m)) shown.0
    ∙ ap (λ (bs : List Event). asks w.now p.member (applied_events p) bs) shown.1

client-sound : (x : Member) (e : Event) → IsFit x.values.election → IsSound (row_of_client x e).values (row_of_client x e).plan
client-sound x e fit = if-cases (λ (row : Row). IsSound row.values row.plan) (is_ready x.values.election.state) _ _ (λ b. record { fit = fit; plan = tt }) (λ b. record { fit = fit; plan = tt })

client-towards : (n : ℕ) (x : Member) (e : Event) → IsLeader n x.values.election.leader → IsTowards n (row_of_client x e)
client-towards n x e known = if-cases (IsTowards n) (is_ready x.values.election.state) _ _ (λ b. (known, tt)) (λ b. (known, tt))

pub ask-lifts : (n : ℕ) (kinds : List Kind) (w : RunWorld) (m : ℕ) (e : Event) (fits : IsSpellable e) (f : Fate) → n ≤ 5 → length kinds ≤ 3 → (lawful : Lawful n kinds w) → m < length w.seats → (seat w m).member.up ≡ true → lets_at (turns kinds (rules_of kinds) (led n) lawful.taken).hosted m ≡ true
    → may_ask kinds (seat w m) w.now e ≡ true → Lawful n kinds (row_at m (row_of_client (seat w m).member e) f w)
ask-lifts n kinds w m e fits f five three lawful l up free may =
    let r = rules_of kinds in
    let d = turns kinds r (led n) lawful.taken in
    let h = d.hosted in
    let s = lawful.shows in
    let x = member h.world m in
    let p = seat w m in
    let st : Stays n kinds r d = stays n kinds r lawful.taken five three in
    let ex : x ≡ p.member = member-shown h w m s in
    let asked : is_asked kinds d m e ≡ true = asked-shown n kinds d w m e st s up ∙ may in
    let guard : (is_running h.world m && are_of x.values.election.term (e ∷ [])) ≡ true = both (is_running h.world m) (are_of x.values.election.term (e ∷ [])) (runs-there h w m s l up) (asked-passes kinds d m e asked) in
    let row = row_of_client x e in
    let is : (c : Cut) → (turn kinds r d (Asks m e fits c)).hosted ≡ noted r h (acts h.world m row c) =
    λ c. ap (λ (b : Bool). (if b then goes_on r d (Rows (Client m e c)) else d).hosted) asked
    ∙ ap (λ (b : Bool). if b then noted r h (step h.world (Client m e c)) else h) free
    ∙ ap (λ (b : Bool). noted r h (if b then acts h.world m row c else h.world)) guard in
    let on = ap (λ (z : Member). z.up) ex ∙ up in
    let same : row ≡ row_of_client p.member e = ap (λ (z : Member). row_of_client z e) ex in
    subst (λ (z : Row). Lawful n kinds (row_at m z f w)) same
    (row-lifts n kinds w m row f (λ c. Asks m e fits c) lawful five three l up is (client-sound x e (s.spelled.fit m on)) (client-towards n x e (subst (λ (k : ℕ). IsLeader k x.values.election.leader) st.held.inv.count (s.spelled.leads m on))))

-- ---- a packet

place-of : (xs : List Sent) (s : Sent) → Contains xs s → (k : ℕ) × (slice_get xs k ≡ Some s)
place-of xs s has = (has.0, slice_get-get_or xs has.0 s has.1 ∙ ap (λ (z : Sent). Some z) has.2)

pub packet-lifts : (n : ℕ) (kinds : List Kind) (w : RunWorld) (s : Sent) (f : Fate) → n ≤ 5 → length kinds ≤ 3 → (lawful : Lawful n kinds w) → Contains (turns kinds (rules_of kinds) (led n) lawful.taken).hosted.world.sent s
    → s.to < length w.seats → (seat w s.to).member.up ≡ true → lets_at (turns kinds (rules_of kinds) (led n) lawful.taken).hosted s.to ≡ true → Lawful n kinds (row_at s.to (row_of_packet (seat w s.to).member s.packet w.now) f w)
packet-lifts n kinds w s f five three lawful has l up free =
    let r = rules_of kinds in
    let d = turns kinds r (led n) lawful.taken in
    let h = d.hosted in
    let sh = lawful.shows in
    let m = s.to in
    let x = member h.world m in
    let p = seat w m in
    let ex : x ≡ p.member = member-shown h w m sh in
    let found = place-of h.world.sent s has in
    let k = found.0 in
    let guard : lets_packet h (slice_get h.world.sent k) ≡ true = ap (lets_packet h) found.1 ∙ free in
    let row = row_of_packet x s.packet h.world.now in
    let is : (c : Cut) → (turn kinds r d (Acts (Rows (Delivers k c)))).hosted ≡ noted r h (acts h.world m row c) =
    λ c. ap (λ (b : Bool). if b then noted r h (step h.world (Delivers k c)) else h) guard
    ∙ ap (λ (o : Option Sent). noted r h (comes h.world o c)) found.1
    ∙ ap (λ (b : Bool). noted r h (if b then acts h.world m row c else h.world)) (runs-there h w m sh l up) in
    let sound = receives_fit x.values (shape_of x.durable.log) s.packet h.world.now (sh.spelled.sent s has) (sh.spelled.fit m (ap (λ (z : Member). z.up) ex ∙ up)) in
    let on = ap (λ (z : Member). z.up) ex ∙ up in
    let st : Stays n kinds r d = stays n kinds r lawful.taken five three in
    let members : x.values.election.members ≡ n = (known-there n kinds d m st on).0 in
    let towards : IsTowards n row = subst (λ (k : ℕ). IsTowards k row) members
    (packet-towards x.values (shape_of x.durable.log) s.packet h.world.now (subst (λ (k : ℕ). IsLeader k x.values.election.leader) (st.held.inv.count ∙ sym members) (sh.spelled.leads m on))) in
    let same : row ≡ row_of_packet p.member s.packet w.now = ap (λ (z : Member). row_of_packet z s.packet h.world.now) ex ∙ ap (row_of_packet p.member s.packet) sh.now in
    subst (λ (z : Row). Lawful n kinds (row_at m z f w)) same (row-lifts n kinds w m row f (λ c. Acts (Rows (Delivers k c))) lawful five three l up is sound towards)
