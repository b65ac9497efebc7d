-- Every list of turns keeps every log good, and what each module applied its log's front.
use Rattle.std.proofs.Common.{◌≡◌, ◌⊎◌, inl, inr, map, ℕ, zero, suc, ◌-◌, ◌≤◌, ◌^◌, Bool, true, false, ◌&&◌, List, [], ◌∷◌, ◌++◌, length, take, drop, refl, sym, ap, ◌∙◌, subst, arith, length-append, length-drop, ℤ, pos, None}
use Rattle.std.specs.List.{AllByRecursion}
use Rattle.std.specs.Prelude.{nat_eq, nat_le, nat_lt, is_some, if◌then◌else◌}
use Rattle.std.specs.Ordering.{int_eq}
use Rattle.std.proofs.lemmas.Int.{ints}
use Rattle.std.proofs.lemmas.List.{append-nil, take-map}
use Rattle.std.proofs.lemmas.Bool.{leb-true}
use Rattle.std.proofs.lemmas.Bool.Decides.{nat_tests}
use Rattle.entry_log.specs.Durable.{SnapshotEntry}
use Rattle.entry_log.specs.Log.{Log, place, place_from, same_term}
use Rattle.log_replication.specs.Prefixes.{Leads, leads, is_prefix}
use Rattle.sbe_events.specs.declared.event.Event.{Event}
use Rattle.sbe_events.specs.declared.event.Event.TheVariants as events
use Rattle.sbe_events.specs.Spelling.{term_of}
use Rattle.service_api.specs.declared.shipped.Kind.{Kind}
use Rattle.module_state.specs.Module.{Module, module_in}
use Rattle.module_state.specs.Allowed.{rings as rings_in}
use Rattle.module_state.specs.Once.{schedules, opens, closes, InOrder, payloads, offered_by}
use Rattle.pending_messages.specs.Pending.{offers_at}
use Rattle.module_state.specs.Services.{history_of}
use Rattle.module_state.specs.Logs.{IsWellFormedLog, due_in}
use Rattle.module_state.proofs.LogLaws.{log_back}
use Rattle.module_state.proofs.RingLaws.{rings_covered}
use Rattle.session_manager.proofs.OrderLaws.{agrees}
use Rattle.module_state.proofs.OnceLaws.{opens_once, closes_once}
use Rattle.module_state.proofs.OrderLaws.{in_order, as_offered}
use Rattle.session_manager.specs.Sessions.{session_of}
use Rattle.module_state.specs.Places.{entry_of, log_of, stamp_of}
use Rattle.module_state.specs.Admitted.{IsAdmitted}
use Rattle.module_state.specs.Entries.{events_in}
use Rattle.entry_log.specs.Batches.{is_batch}
use Rattle.entry_log.specs.Places.{place_from-append}
use Rattle.entry_log.specs.Shape.{shape_of, end_of, end_from, end_from-shape_of}
use Rattle.consensus_core.specs.Reign.{greatest, is_admitted, end_limit, commit_after}
use Rattle.world.proofs.Same.{due_of}
use Rattle.world.specs.World.{are_of, World, Step, Passes, Starts, Stops, Duty, Delivers, Client, Puts, Invalidates, member, step, is_running, reigns_at}
use Rattle.consensus_core.specs.Member.{Member, Cut}
use Rattle.world.proofs.Rows.{and_true}
use Rattle.world.proofs.Runs.{runs}
use Rattle.world.proofs.Effects.{if-cases}
use Rattle.agreement.proofs.Commits.{take-leads}
use Rattle.agreement.proofs.Moves.{Moves, moves-self, step-moves}
use Rattle.agreement.proofs.Second.{reign_of}
use Rattle.service_runs.specs.Hosts.{Rules, Stage, Idle, Taking, Over, Ending, Host, Hosted, Act, Rows, Mounts, Drops, Opens, Feeds, Takes, Closes, Writes, Sends, noted, with_host, is_idle, is_taking, is_feeding, is_row, is_free, all_reach, input, feed_of, writes, sends, act, acts_on}
use Rattle.service_runs.proofs.Lists.{take-length}
use Rattle.service_runs.proofs.Held.{Held, front-settled}
use Rattle.service_runs.proofs.Acts.{act-held, ending, hosted-held}
use Rattle.one_log.specs.Led.{Led, further, consumes, goes_on, ahead_of, due_at, view_at, has_room, admits, is_asked, Turn, Acts, Leads as LeadsTurn, Asks, is_bare, turn, turns, led}
use Rattle.one_log.specs.Formed.{IsFormed, LogsFormed, ModulesKnow, EventsStand}
use Rattle.one_log.proofs.Opened.{Opened, step-opened, formatted-opened}
use Rattle.one_log.proofs.Good.{Good, good-front, good-due, good-asked, is-formed, all_weaker, due-of-events}
use Rattle.one_log.proofs.Offered.{IsDue, due-bytes}
use Rattle.one_log.proofs.Formed.{Formed, OwnGood, StepGood, good-anchored, good-settled, good-own, leader-last, reign-number, step-formed, formatted-formed}

-- ---- the steps that an act can make

abbrev From : Act → Step → Type 0
From (Rows s) t = t ≡ s
From (Mounts m) t = (k : ℕ) × (t ≡ Starts m k)
From (Drops m) t = (k : ℕ) × (t ≡ Invalidates m k)
From (Writes m cut) t = (k : ℕ) × (s : SnapshotEntry) × (t ≡ Puts m k s cut)
From (Opens m) t = ⊥
From (Feeds m k n) t = ⊥
From (Takes m k) t = ⊥
From (Closes m) t = ⊥
From (Sends m) t = ⊥

writes-world : (r : Rules) (w : Hosted) (m : ℕ) (st : Stage) (cut : Cut) (P : World → Type 0) → P w.world → ((s : Step) → From (Writes m cut) s → P (step w.world s)) → P (writes r w m st cut).world
writes-world r w m Idle cut P same f = same
writes-world r w m Taking cut P same f = same
writes-world r w m Over cut P same f = same
writes-world r w m (Ending upto []) cut P same f = same
writes-world r w m (Ending upto (d ∷ due)) cut P same f = if-cases (λ (z : Hosted). P z.world) (is_running w.world m) _ _ (λ b. f (Puts m d.entries d.snap cut) (d.entries, d.snap, refl)) (λ b. same)

sends-world : (r : Rules) (w : Hosted) (m : ℕ) (st : Stage) (P : World → Type 0) → P w.world → P (sends r w m st).world
sends-world r w m Idle P same = same
sends-world r w m Taking P same = same
sends-world r w m Over P same = same
sends-world r w m (Ending upto (d ∷ due)) P same = same
sends-world r w m (Ending upto []) P same = if-cases (λ (z : Hosted). P z.world) (is_running w.world m) _ _ (λ b. same) (λ b. same)

-- what is so now and after each step that an act can make is so after the act
act-world : (r : Rules) (w : Hosted) (a : Act) (P : World → Type 0) → P w.world → ((s : Step) → From a s → P (step w.world s)) → P (act r w a).world
act-world r w (Rows s) P same f = if-cases (λ (z : Hosted). P z.world) (is_row s && is_free w s) _ _ (λ b. f s refl) (λ b. same)
act-world r w (Mounts m) P same f = f (Starts m r.services) (r.services, refl)
act-world r w (Drops m) P same f = f (Invalidates m r.services) (r.services, refl)
act-world r w (Opens m) P same f = if-cases (λ (z : Hosted). P z.world) (is_running w.world m && is_idle (w.hosts m).stage) _ _ (λ b. same) (λ b. same)
act-world r w (Feeds m k n) P same f = if-cases (λ (z : Hosted). P z.world) (is_running w.world m && is_feeding (w.hosts m).stage) _ _ (λ b. same) (λ b. same)
act-world r w (Takes m k) P same f =
    if-cases (λ (z : Hosted). P z.world) (is_running w.world m && (is_taking (w.hosts m).stage && (nat_lt k r.services && nat_lt (length (input (w.hosts m) k)) (feed_of (w.hosts m) k).published))) _ _ (λ b. same) (λ b. same)
act-world r w (Closes m) P same f = if-cases (λ (z : Hosted). P z.world) (is_running w.world m && (is_taking (w.hosts m).stage && all_reach (member w.world m).values.rest.commit (w.hosts m).run.inputs)) _ _ (λ b. same) (λ b. same)
act-world r w (Writes m cut) P same f = writes-world r w m (w.hosts m).stage cut P same f
act-world r w (Sends m) P same f = sends-world r w m (w.hosts m).stage P same

-- ---- the entries that a module applied don't fall while its member runs

abbrev Rises : Hosted → ℕ → Hosted → Type 0
Rises w j z = (member w.world j).up ≡ true → (member z.world j).up ≡ true → (w.hosts j).applied ≤ (z.hosts j).applied

noted-applied : (r : Rules) (w : Hosted) (v : World) (j : ℕ) → (member w.world j).up ≡ true → (member v j).up ≡ true → ((noted r w v).hosts j).applied ≡ (w.hosts j).applied
noted-applied r w v j up up' = rw (up', up) refl

with_host-applied : (w : Hosted) (m : ℕ) (h : Host) (j : ℕ) → h.applied ≡ (w.hosts m).applied → ((with_host w m h).hosts j).applied ≡ (w.hosts j).applied
with_host-applied w m h j e =
    if-cases (λ (z : Host). z.applied ≡ (w.hosts j).applied) (nat_eq j m) h (w.hosts j)
    (λ b. let is : j ≡ m = grind (arith, nat_tests, b) in e ∙ ap (λ k. (w.hosts k).applied) (sym is)) (λ b. refl)

same-rises : (a b : ℕ) → b ≡ a → a ≤ b
same-rises a b e = omega (arith, e)

noted-rises : (r : Rules) (w : Hosted) (v : World) (j : ℕ) → Rises w j (noted r w v)
noted-rises r w v j up up' = same-rises _ _ (noted-applied r w v j up up')

writes-rises : (r : Rules) (w : Hosted) (m : ℕ) (st : Stage) (cut : Cut) (j : ℕ) → Rises w j (writes r w m st cut)
writes-rises r w m Idle cut j = λ up up'. omega arith
writes-rises r w m Taking cut j = λ up up'. omega arith
writes-rises r w m Over cut j = λ up up'. omega arith
writes-rises r w m (Ending upto []) cut j = λ up up'. omega arith
writes-rises r w m (Ending upto (d ∷ due)) cut j =
    let h = w.hosts m in
    let next : Host = record { run = h.run; applied = h.applied; role = h.role; stage = Ending upto due; feeds = h.feeds; past = h.past } in
    if-cases (Rises w j) (is_running w.world m) _ _
    (λ b up up'. same-rises _ _ (noted-applied r (with_host w m next) (step w.world (Puts m d.entries d.snap cut)) j up up' ∙ with_host-applied w m next j refl)) (λ b up up'. omega arith)

sends-rises : (n : ℕ) (r : Rules) (w : Hosted) (m : ℕ) (st : Stage) (j : ℕ) → (w.hosts m).stage ≡ st → Held n r w → Rises w j (sends r w m st)
sends-rises n r w m Idle j is k = λ up up'. omega arith
sends-rises n r w m Taking j is k = λ up up'. omega arith
sends-rises n r w m Over j is k = λ up up'. omega arith
sends-rises n r w m (Ending upto (d ∷ due)) j is k = λ up up'. omega arith
sends-rises n r w m (Ending upto []) j is k =
    let h = w.hosts m in
    let next : Host = record { run = h.run; applied = upto; role = None; stage = Idle; feeds = h.feeds; past = h.past } in
    if-cases (Rises w j) (is_running w.world m) _ _
    (λ b up up'.
    let ok = k.live m (runs w.world m b).1 in
    let more : h.applied ≤ upto = (ending r (member w.world m) h.applied h.feeds h.stage (Ending upto []) is ok.stage).0 in
    if-cases (λ (z : Host). (w.hosts j).applied ≤ z.applied) (nat_eq j m) next (w.hosts j)
    (λ c. let same : j ≡ m = grind (arith, nat_tests, c) in subst (λ u. (w.hosts u).applied ≤ upto) (sym same) more) (λ c. omega arith))
    (λ b up up'. omega arith)

act-rises : (n : ℕ) (r : Rules) (w : Hosted) (a : Act) (j : ℕ) → Held n r w → Rises w j (act r w a)
act-rises n r w (Rows s) j k = if-cases (Rises w j) (is_row s && is_free w s) _ _ (λ b. noted-rises r w (step w.world s) j) (λ b up up'. omega arith)
act-rises n r w (Mounts m) j k = noted-rises r w (step w.world (Starts m r.services)) j
act-rises n r w (Drops m) j k = noted-rises r w (step w.world (Invalidates m r.services)) j
act-rises n r w (Opens m) j k = if-cases (Rises w j) (is_running w.world m && is_idle (w.hosts m).stage) _ _ (λ b up up'. same-rises _ _ (with_host-applied w m _ j refl)) (λ b up up'. omega arith)
act-rises n r w (Feeds m c e) j k = if-cases (Rises w j) (is_running w.world m && is_feeding (w.hosts m).stage) _ _ (λ b up up'. same-rises _ _ (with_host-applied w m _ j refl)) (λ b up up'. omega arith)
act-rises n r w (Takes m c) j k =
    if-cases (Rises w j) (is_running w.world m && (is_taking (w.hosts m).stage && (nat_lt c r.services && nat_lt (length (input (w.hosts m) c)) (feed_of (w.hosts m) c).published))) _ _ (λ b up up'. same-rises _ _ (with_host-applied w m _ j refl)) (λ b up up'. omega arith)
act-rises n r w (Closes m) j k =
    if-cases (Rises w j) (is_running w.world m && (is_taking (w.hosts m).stage && all_reach (member w.world m).values.rest.commit (w.hosts m).run.inputs)) _ _ (λ b up up'. same-rises _ _ (with_host-applied w m _ j refl)) (λ b up up'. omega arith)
act-rises n r w (Writes m cut) j k = writes-rises r w m (w.hosts m).stage cut j
act-rises n r w (Sends m) j k = sends-rises n r w m (w.hosts m).stage j refl k

-- ---- lists

further-leads : (xs log : Log) (k : ℕ) → Leads xs log → Leads (further xs k log) log
further-leads [] log k p = take-leads (k - 0) log
further-leads (x ∷ xs) [] k p = absurd p
further-leads (x ∷ xs) (y ∷ ys) k p = (p.0, subst (λ (u : ℕ). Leads (xs ++ take u (drop (length xs) ys)) ys) (less k (length xs)) (further-leads xs ys (k - 1) p.1))
  where
    less : (k l : ℕ) → (k - 1) - l ≡ k - suc l
    less k l = omega arith

pub leads-length : (xs ys : Log) → Leads xs ys → length xs ≤ length ys
leads-length [] ys p = omega arith
leads-length (x ∷ xs) [] p = absurd p
leads-length (x ∷ xs) (y ∷ ys) p = let z = leads-length xs ys p.1 in omega (arith, z)

further-length : (xs log : Log) (k : ℕ) → length xs ≤ k → k ≤ length log → length (further xs k log) ≡ k
further-length xs log k a b =
    let d = length-drop (length xs) log in
    let t : length (take (k - length xs) (drop (length xs) log)) ≡ k - length xs = take-length (k - length xs) (drop (length xs) log) (omega (arith, a, b, d)) in
    let l = length-append xs (take (k - length xs) (drop (length xs) log)) in
    omega (arith, a, t, l)

-- ---- turns

pub record Stays (n : ℕ) (kinds : List Kind) (r : Rules) (w : Led) : Type 0 where
  pub held : Held n r w.hosted
  pub opened : Opened w.hosted.world
  pub formed : Formed kinds w.hosted.world
  pub know : (m : ℕ) → (member w.hosted.world m).up ≡ true → Leads (w.consumed m) (member w.hosted.world m).durable.log × (length (w.consumed m) ≡ (w.hosted.hosts m).applied)

-- what an act brings is good
abbrev ActGood : List Kind → World → Act → Type 0
ActGood kinds w a = (s : Step) → From a s → StepGood kinds w s

know-on : (n : ℕ) (kinds : List Kind) (r : Rules) (w : Led) (a : Act) → Stays n kinds r w → Held n r (act r w.hosted a) → (m : ℕ) → (member (act r w.hosted a).world m).up ≡ true
    → Leads (consumes w (act r w.hosted a) m) (member (act r w.hosted a).world m).durable.log × (length (consumes w (act r w.hosted a) m) ≡ ((act r w.hosted a).hosts m).applied)
know-on n kinds r w a s k' m up' = at (member w.hosted.world m).up refl
  where
    inside : ((act r w.hosted a).hosts m).applied ≤ length (member (act r w.hosted a).world m).durable.log
    inside = let p = (k'.live m up').applied in let q = (k'.fits.members m).commit.0 in omega (arith, p, q)

    at : (b : Bool) → (member w.hosted.world m).up ≡ b → Leads (consumes w (act r w.hosted a) m) (member (act r w.hosted a).world m).durable.log × (length (consumes w (act r w.hosted a) m) ≡ ((act r w.hosted a).hosts m).applied)
    at true up =
        let log' = (member (act r w.hosted a).world m).durable.log in
        let upto = ((act r w.hosted a).hosts m).applied in
        let e : consumes w (act r w.hosted a) m ≡ further (w.consumed m) upto log' = rw (up', up) refl in
        let old = s.know m up in
        let live = s.held.live m up in
        let low = live.applied in
        let len = old.1 in
        let settled = front-settled n w.hosted.world m (w.consumed m) s.held.fits old.0 (omega (arith, low, len)) in
        let moves : Moves w.hosted.world (act r w.hosted a).world = act-world r w.hosted a (Moves w.hosted.world) (moves-self w.hosted.world) (λ t from. step-moves n w.hosted.world t s.held.inv s.held.fits) in
        let front : Leads (w.consumed m) log' = (moves.members m).logs (w.consumed m) settled old.0 in
        let rises = act-rises n r w.hosted a m s.held up up' in
        let within = inside in (
          subst (λ (u : Log). Leads u log') (sym e) (further-leads (w.consumed m) log' upto front),
          ap length e ∙ further-length (w.consumed m) log' upto (omega (arith, len, rises)) within,
        )
    at false down =
        let log' = (member (act r w.hosted a).world m).durable.log in
        let upto = ((act r w.hosted a).hosts m).applied in
        let e : consumes w (act r w.hosted a) m ≡ take upto log' = rw (up', down) refl in (
          subst (λ (u : Log). Leads u log') (sym e) (take-leads upto log'),
          ap length e ∙ take-length upto log' inside,
        )

goes-on : (n : ℕ) (kinds : List Kind) (r : Rules) (w : Led) (a : Act) → n ≤ 5 → Stays n kinds r w → ActGood kinds w.hosted.world a → Stays n kinds r (goes_on r w a)
goes-on n kinds r w a five s ok =
    let k' = act-held n r w.hosted a s.held in
    let i = s.held.inv in
    let f = s.held.fits in
    record {
      held = k';
      opened = act-world r w.hosted a Opened s.opened (λ t from. step-opened n w.hosted.world t i f s.opened);
      formed = act-world r w.hosted a (Formed kinds) s.formed (λ t from. step-formed n kinds w.hosted.world t five i f s.opened s.formed (ok t from));
      know = know-on n kinds r w a s k';
    }

row-bare : (kinds : List Kind) (w : World) (s : Step) → is_bare (Rows s) ≡ true → StepGood kinds w s
row-bare kinds w (Passes now) h = leb-true now (2 ^ 60) h
row-bare kinds w (Duty m due cut) h = absurd (cc)
row-bare kinds w (Client m event cut) h = absurd (cc)
row-bare kinds w (Starts m services) h = tt
row-bare kinds w (Stops m) h = tt
row-bare kinds w (Delivers which cut) h = tt
row-bare kinds w (Puts m k s cut) h = tt
row-bare kinds w (Invalidates m services) h = tt

bare-good : (kinds : List Kind) (w : World) (a : Act) → is_bare a ≡ true → ActGood kinds w a
bare-good kinds w (Rows s) h = λ t from. subst (StepGood kinds w) (sym from) (row-bare kinds w s h)
bare-good kinds w (Mounts m) h = λ t from. subst (StepGood kinds w) (sym from.1) tt
bare-good kinds w (Drops m) h = λ t from. subst (StepGood kinds w) (sym from.1) tt
bare-good kinds w (Opens m) h = λ t from. absurd from
bare-good kinds w (Feeds m k n) h = λ t from. absurd from
bare-good kinds w (Takes m k) h = λ t from. absurd from
bare-good kinds w (Closes m) h = λ t from. absurd from
bare-good kinds w (Writes m cut) h = λ t from. subst (StepGood kinds w) (sym from.2) tt
bare-good kinds w (Sends m) h = λ t from. absurd from

-- how many of the due events a leader appends
due_count : Member → List Event → ℕ
due_count x es = greatest (λ k. is_admitted (end_of (shape_of x.durable.log)) (end_limit (shape_of x.durable.log) (commit_after x.values.election x.values.rest (shape_of x.durable.log))) (shape_of (take k (map entry_of es)))) (length (map entry_of es))

due-taken : (x : Member) (es : List Event) → due_of x es ≡ log_of (take (due_count x es) es)
unfolding due_count
due-taken x es = take-map entry_of (due_count x es) es

greatest-passes : (test : ℕ → Bool) (n : ℕ) → (greatest test n ≡ 0) ⊎ (test (greatest test n) ≡ true)
greatest-passes test zero = inl refl
greatest-passes test (suc n) = at (test (suc n)) refl (greatest-passes test n)
  where
    at : (b : Bool) → test (suc n) ≡ b → (greatest test n ≡ 0) ⊎ (test (greatest test n) ≡ true) → ((if b then suc n else greatest test n) ≡ 0) ⊎ (test (if b then suc n else greatest test n) ≡ true)
    at true e h = inr e
    at false e h = h

-- and the log ends within its limit with them
due-room : (x : Member) (es : List Event) → place x.durable.log ≤ 16777216 → place (x.durable.log ++ due_of x es) ≤ 16777216
unfolding due_count
due-room x es room =
    let log = x.durable.log in
    let p = end_of (shape_of log) in
    let limit = end_limit (shape_of log) (commit_after x.values.election x.values.rest (shape_of log)) in
    let all : Log = map entry_of es in
    let test : ℕ → Bool = λ k. is_admitted p limit (shape_of (take k all)) in
    elim (greatest-passes test (length all)) [
      | inl none ↦ subst (λ k. place (log ++ take k all) ≤ 16777216) (sym none) (subst (λ (l : Log). place l ≤ 16777216) (sym (append-nil log)) room)
      | inr some ↦
          let ys : Log = take (greatest test (length all)) all in
          let a = and_true (nat_le (end_from p (shape_of ys)) limit) (is_batch p (shape_of ys)) some in
          let b : end_from p (shape_of ys) ≤ limit = leb-true (end_from p (shape_of ys)) limit a.0 in
          let most : limit ≤ 16777216 = grind (arith) in
          let here : end_from p (shape_of ys) ≡ place (log ++ ys) = end_from-shape_of p ys ∙ ap (λ q. place_from q ys) (end_from-shape_of 0 log) ∙ sym (place_from-append 0 log ys) in
          omega (arith, b, most, here)
    ]

same-number : (a b : ℤ) → int_eq a b ≡ true → a ≡ b
same-number a b h = grind (arith, ints, h)

pub admits-what : (view : Module) (at : ℕ) (e : Event) → admits view at e ≡ true → IsAdmitted view at e
admits-what view at (events.Opened term corr session stamp stream channel) h =
    let p = and_true (int_eq session view.sessions.next_id) (nat_lt (length view.sessions.listed) 1024) h in
    (same-number session view.sessions.next_id p.0, (let q = p.1 in grind (arith, nat_tests, q)))
admits-what view at (events.Message term session stamp payload) h = h
admits-what view at (events.Closed term session stamp reason) h =
    let p = and_true (nat_eq reason 0) (is_some (session_of view.sessions session)) h in
    ((let q = p.0 in grind (arith, nat_tests, q)), p.1)
admits-what view at (events.Snapshot term position stamp) h =
    let p = and_true (int_eq position (pos at)) (nat_lt view.counts.actions 256) h in
    (same-number position (pos at) p.0, (let q = p.1 in grind (arith, nat_tests, q)))
admits-what view at (events.Term term position stamp base leader) h = absurd (cc)
admits-what view at (events.ServiceMessage term service n stamp payload) h = absurd (cc)
admits-what view at (events.Timer term corr stamp) h = absurd (cc)

pub turn-stays : (n : ℕ) (kinds : List Kind) (r : Rules) (w : Led) (t : Turn) → n ≤ 5 → length kinds ≤ 3 → Stays n kinds r w → Stays n kinds r (turn kinds r w t)
turn-stays n kinds r w (Acts a) five three s = if-cases (Stays n kinds r) (is_bare a) _ _ (λ h. goes-on n kinds r w a five s (bare-good kinds w.hosted.world a h)) (λ h. s)
turn-stays n kinds r w (LeadsTurn m alive since cut) five three s =
    let x = member w.hosted.world m in
    let es : List Event = due_at kinds w m alive since in
    let good : OwnGood kinds w.hosted.world m (due_of x es) = λ up at.
    let f = s.held.fits in
    let num = reign-number n w.hosted.world m s.held.inv f s.opened (ap reigns_at at) in
    let own = good-own n kinds w.hosted.world m f s.formed (ap reigns_at at) in
    let same : due_of x es ≡ log_of (take (due_count x es) es) = due-taken x es in
    let room : place (x.durable.log ++ log_of (take (due_count x es) es)) ≤ 16777216 = subst (λ (l : Log). place (x.durable.log ++ l) ≤ 16777216) same (due-room x es own.room) in
    subst (λ (l : Log). Good kinds w.hosted.world.now (x.durable.log ++ l)) (sym same)
    (good-due kinds w.hosted.world.now x.durable.log (w.consumed m) x.values.election.term (due_count x es) alive since own (s.know m up).0 (leader-last n w.hosted.world m f at) num.0 num.1 s.formed.moment three room) in
    goes-on n kinds r w (Rows (Duty m es cut)) five s (λ t from. subst (StepGood kinds w.hosted.world) (sym from) good)
turn-stays n kinds r w (Asks m e fits cut) five three s =
    let x = member w.hosted.world m in
    if-cases (Stays n kinds r) (is_asked kinds w m e) _ _
    (λ h.
    let now = w.hosted.world.now in
    let p = and_true (int_eq (stamp_of e) (pos now)) (int_eq (term_of e) x.values.election.term && (admits (view_at kinds w m) (place x.durable.log) e && has_room x.durable.log (entry_of e ∷ []))) h in
    let q = and_true (int_eq (term_of e) x.values.election.term) (admits (view_at kinds w m) (place x.durable.log) e && has_room x.durable.log (entry_of e ∷ [])) p.1 in
    let u = and_true (admits (view_at kinds w m) (place x.durable.log) e) (has_room x.durable.log (entry_of e ∷ [])) q.1 in
    let room : place (x.durable.log ++ entry_of e ∷ []) ≤ 16777216 = leb-true (place (x.durable.log ++ entry_of e ∷ [])) 16777216 u.1 in
    let good : OwnGood kinds w.hosted.world m (entry_of e ∷ []) = λ up at.
    let f = s.held.fits in
    let num = reign-number n w.hosted.world m s.held.inv f s.opened (ap reigns_at at) in
    good-asked kinds now x.durable.log (w.consumed m) x.values.election.term e (good-own n kinds w.hosted.world m f s.formed (ap reigns_at at)) (s.know m up).0 (leader-last n w.hosted.world m f at) num.0 fits (same-number (term_of e) x.values.election.term q.0) (same-number (stamp_of e) (pos now) p.0)
    (admits-what (view_at kinds w m) (place x.durable.log) e u.0) room in
    goes-on n kinds r w (Rows (Client m e cut)) five s (λ t from. subst (StepGood kinds w.hosted.world) (sym from) good))
    (λ h. s)

turns-stay : (n : ℕ) (kinds : List Kind) (r : Rules) (w : Led) (ts : List Turn) → n ≤ 5 → length kinds ≤ 3 → Stays n kinds r w → Stays n kinds r (turns kinds r w ts)
turns-stay n kinds r w [] five three s = s
turns-stay n kinds r w (t ∷ ts) five three s = turns-stay n kinds r (turn kinds r w t) ts five three (turn-stays n kinds r w t five three s)

led-stays : (n : ℕ) (kinds : List Kind) (r : Rules) → Stays n kinds r (led n)
led-stays n kinds r =
    let k = hosted-held n r in
    record {
      held = k;
      opened = formatted-opened n;
      formed = formatted-formed n kinds;
      know = λ m up. (tt, (let p = (k.live m up).applied in let q = (k.fits.members m).commit.0 in refl));
    }

pub stays : (n : ℕ) (kinds : List Kind) (r : Rules) (ts : List Turn) → n ≤ 5 → length kinds ≤ 3 → Stays n kinds r (turns kinds r (led n) ts)
stays n kinds r ts five three = turns-stay n kinds r (led n) ts five three (led-stays n kinds r)

-- ---- statements

pub logs-formed : (n : ℕ) (kinds : List Kind) (r : Rules) (w : Led) → Stays n kinds r w → LogsFormed kinds w
logs-formed n kinds r w s =
    let v = w.hosted.world in
    let k = s.held in
    let f = k.fits in
    let g = f.grounded in
    record {
      members = λ m. is-formed kinds v.now (member v m).durable.log (good-anchored kinds v (member v m).durable.log s.formed (g.anchored m));
      written = λ t. is-formed kinds v.now (reign_of v t) (s.formed.good t);
      firsts = λ a has. is-formed kinds v.now a.first (good-anchored kinds v a.first s.formed (g.first_anchored a has));
      raised = λ a has. is-formed kinds v.now a.log (good-anchored kinds v a.log s.formed (g.raise_anchored a has));
      held = λ h has. is-formed kinds v.now h.log (good-front kinds v.now h.log (reign_of v h.term) (leads h.log (reign_of v h.term) (g.held h has)) (s.formed.good h.term));
      printed = is-formed kinds v.now w.hosted.printed (good-settled n kinds v k.printed.0 w.hosted.printed f s.formed k.printed.1);
      inputs = λ m xs up has. is-formed kinds v.now xs (good-front kinds v.now xs (member v m).durable.log ((k.live m up).inputs xs has).0 (good-anchored kinds v (member v m).durable.log s.formed (g.anchored m)));
      ended = λ m run xs has in'. is-formed kinds v.now xs (good-settled n kinds v (member v m).durable.candidate xs f s.formed (k.past m run xs has in').0);
    }

pub modules-know : (n : ℕ) (kinds : List Kind) (r : Rules) (w : Led) → Stays n kinds r w → ModulesKnow w
modules-know n kinds r w s = record {
  front = λ m up. is_prefix (w.consumed m) (member w.hosted.world m).durable.log (s.know m up).0;
  applied = λ m up. (s.know m up).1;
  below = λ m up. (let a = (s.know m up).1 in let b = (s.held.live m up).applied in omega (arith, a, b));
  settled = λ m up. front-settled n w.hosted.world m (w.consumed m) s.held.fits (s.know m up).0 (let a = (s.know m up).1 in let b = (s.held.live m up).applied in omega (arith, a, b));
}

-- what a formed log says of its events
pub events-stand : (kinds : List Kind) (now : ℕ) (log : Log) → IsFormed kinds now log → EventsStand kinds (events_in log)
events-stand kinds now log f =
    let es : List Event = events_in log in
    let h = history_of kinds es in
    let w : IsWellFormedLog kinds es = f.formed.allowed in
    let n : ℕ = length kinds in
    let back = log_back kinds es in
    record {
      rings = λ corr. subst (λ (x : List Event). rings_in corr x ≤ schedules corr h) back (rings_covered n h corr w);
      one_open = λ id. subst (λ (x : List Event). opens id x ≤ 1) back (opens_once n h id w);
      one_close = λ id. subst (λ (x : List Event). closes id x ≤ opens id x) back (closes_once n h id w);
      order = λ v lt. subst (λ (x : List Event). InOrder v 0 x) back (in_order n v h lt w);
      offered = λ v lt. subst (λ (x : List Event). payloads v x ++ (offers_at v (module_in n h).pending).waiting ≡ offered_by v h) back (as_offered n v h lt w);
    }

-- ---- each turn is one act at most

abbrev ActsTo : Rules → Hosted → Hosted → Type 0
ActsTo r w v = (as' : List Act) × (v ≡ acts_on r w as')

turn-acts : (kinds : List Kind) (r : Rules) (w : Led) (t : Turn) → ActsTo r w.hosted (turn kinds r w t).hosted
turn-acts kinds r w (Acts a) = if-cases (λ (z : Led). ActsTo r w.hosted z.hosted) (is_bare a) _ _ (λ h. (a ∷ [], refl)) (λ h. ([], refl))
turn-acts kinds r w (LeadsTurn m alive since cut) = (Rows (Duty m (due_at kinds w m alive since) cut) ∷ [], refl)
turn-acts kinds r w (Asks m e fits cut) = if-cases (λ (z : Led). ActsTo r w.hosted z.hosted) (is_asked kinds w m e) _ _ (λ h. (Rows (Client m e cut) ∷ [], refl)) (λ h. ([], refl))

acts-append : (r : Rules) (w : Hosted) (xs ys : List Act) → acts_on r w (xs ++ ys) ≡ acts_on r (acts_on r w xs) ys
acts-append r w [] ys = refl
acts-append r w (x ∷ xs) ys = acts-append r (act r w x) xs ys

pub turns-acts : (kinds : List Kind) (r : Rules) (w : Led) (ts : List Turn) → ActsTo r w.hosted (turns kinds r w ts).hosted
turns-acts kinds r w [] = ([], refl)
turns-acts kinds r w (t ∷ ts) =
    let a = turn-acts kinds r w t in
    let b = turns-acts kinds r (turn kinds r w t) ts in
    (a.0 ++ b.0, b.1 ∙ ap (λ (u : Hosted). acts_on r u b.0) a.1 ∙ sym (acts-append r w.hosted a.0 b.0))

-- ---- what a leader may append passes the world's guard

own-term : (t : ℤ) (a : ℤ) → a ≡ t → same_term a t ≡ true
own-term t a e = grind (arith, ints, e)

are-of : (t : ℤ) (es : List Event) → AllByRecursion (λ (e : Event). term_of e ≡ t) es → are_of t es ≡ true
are-of t [] h = refl
are-of t (e ∷ es) h = both (same_term (term_of e) t) (are_of t es) (own-term t (term_of e) h.0) (are-of t es h.1)
  where
    both : (a b : Bool) → a ≡ true → b ≡ true → (a && b) ≡ true
    both true b p q = q
    both false b p q = p

pub due-passes : (kinds : List Kind) (w : Led) (m : ℕ) (alive : List (ℤ × ℕ)) (since : ℕ) → are_of (member w.hosted.world m).values.election.term (due_at kinds w m alive since) ≡ true
due-passes kinds w m alive since =
    let t = (member w.hosted.world m).values.election.term in
    let all : List Event = due_at kinds w m alive since in
    let bytes = due-bytes kinds (events_in (w.consumed m)) (ahead_of w m) alive t w.hosted.world.now since in
    are-of t all (all_weaker (IsDue t w.hosted.world.now) (λ (e : Event). term_of e ≡ t) (λ e z. z.1) all bytes)

pub asked-passes : (kinds : List Kind) (w : Led) (m : ℕ) (e : Event) → is_asked kinds w m e ≡ true → are_of (member w.hosted.world m).values.election.term (e ∷ []) ≡ true
asked-passes kinds w m e h =
    let x = member w.hosted.world m in
    let p = and_true (int_eq (stamp_of e) (pos w.hosted.world.now)) (int_eq (term_of e) x.values.election.term && (admits (view_at kinds w m) (place x.durable.log) e && has_room x.durable.log (entry_of e ∷ []))) h in
    let q = and_true (int_eq (term_of e) x.values.election.term) (admits (view_at kinds w m) (place x.durable.log) e && has_room x.durable.log (entry_of e ∷ [])) p.1 in
    are-of x.values.election.term (e ∷ []) (same-number (term_of e) x.values.election.term q.0, tt)

-- what a leader's duty computes is what is due over the events of its log, of which its module applied the first
pub due-over-events : (n : ℕ) (kinds : List Kind) (r : Rules) (w : Led) (m : ℕ) (alive : List (ℤ × ℕ)) (since : ℕ) → Stays n kinds r w → (member w.hosted.world m).up ≡ true
    → due_at kinds w m alive since ≡ due_in kinds (take (w.hosted.hosts m).applied (events_in (member w.hosted.world m).durable.log)) (drop (w.hosted.hosts m).applied (events_in (member w.hosted.world m).durable.log)) alive (member w.hosted.world m).values.election.term w.hosted.world.now since
due-over-events n kinds r w m alive since s up =
    let x = member w.hosted.world m in
    let know = s.know m up in
    subst (λ (k : ℕ). due_at kinds w m alive since ≡ due_in kinds (take k (events_in x.durable.log)) (drop k (events_in x.durable.log)) alive x.values.election.term w.hosted.world.now since) know.1
    (due-of-events kinds w.hosted.world.now x.durable.log (w.consumed m) x.values.election.term alive since (good-anchored kinds w.hosted.world x.durable.log s.formed (s.held.fits.grounded.anchored m)) know.0)

both-true : (a b : Bool) → a ≡ true → b ≡ true → (a && b) ≡ true
both-true true b p q = q
both-true false b p q = p

-- and what is admitted passes
pub admits-all : (view : Module) (at : ℕ) (e : Event) → IsAdmitted view at e → admits view at e ≡ true
admits-all view at (events.Opened term corr session stamp stream channel) h =
    both-true (int_eq session view.sessions.next_id) (nat_lt (length view.sessions.listed) 1024) (agrees session view.sessions.next_id h.0) (let q = h.1 in grind (arith, nat_tests, q))
admits-all view at (events.Message term session stamp payload) h = h
admits-all view at (events.Closed term session stamp reason) h = both-true (nat_eq reason 0) (is_some (session_of view.sessions session)) (let q = h.0 in grind (arith, nat_tests, q)) h.1
admits-all view at (events.Snapshot term position stamp) h = both-true (int_eq position (pos at)) (nat_lt view.counts.actions 256) (agrees position (pos at) h.0) (let q = h.1 in grind (arith, nat_tests, q))
admits-all view at (events.Term term position stamp base leader) h = absurd h
admits-all view at (events.ServiceMessage term service n stamp payload) h = absurd h
admits-all view at (events.Timer term corr stamp) h = absurd h
