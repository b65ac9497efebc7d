-- Each act keeps the invariant of runs.
use Rattle.std.proofs.Common.{◌≡◌, inl, inr, ℕ, zero, suc, ◌<◌, ◌≤◌, Bool, true, false, ◌&&◌, ◌||◌, not, List, [], ◌∷◌, ◌++◌, length, take, set, refl, sym, ap, ◌∙◌, subst, arith, ℤ, negsuc, Some, None, Option, if◌then◌else◌}
use Rattle.std.specs.Prelude.{Contains, slice_get, min, nat_eq, nat_lt}
use Rattle.std.proofs.lemmas.Bool.Decides.{nat_tests}
use Rattle.std.proofs.lemmas.List.Elements.{Contains-append_cases}
use Rattle.std.proofs.lemmas.Option.{slice_get_within}
use Rattle.cl_base.specs.declared.entry.Entry.{Entry}
use Rattle.entry_log.specs.Durable.{SnapshotEntry}
use Rattle.entry_log.specs.Log.{Log}
use Rattle.election.specs.declared.member.State.{State}
use Rattle.election.specs.declared.member.State.TheVariants.{LeaderInit, LeaderReady}
use Rattle.log_replication.specs.Prefixes.{Leads, Leads-trans}
use Rattle.world.specs.World.{World, Reign, Step, Passes, Starts, Stops, Duty, Delivers, Client, Puts, Invalidates, member, step, is_running, reigns_at}
use Rattle.consensus_core.specs.Member.{Member, Sent, Cut}
use Rattle.world.proofs.Rows.{and_true}
use Rattle.world.proofs.Runs.{step-keeps, formatted-inv, runs}
use Rattle.world.proofs.Effects.{if-cases, none_in}
use Rattle.agreement.proofs.Second.{Fits}
use Rattle.agreement.proofs.Runs2.{step-fits, formatted-fits, all-fresh}
use Rattle.agreement.proofs.Fronts.{length-up}
use Rattle.agreement.proofs.Commits.{take-leads}
use Rattle.agreement.proofs.Snaps2.{cons-cases, cons-later, cons-here}
use Rattle.agreement.proofs.Moves.{MemberMoves, step-moves}
use Rattle.agreement.proofs.Spares.{step-snaps, step-spares, IsPut, IsActor}
use Rattle.service_runs.specs.Hosts.{Rules, Due, Output, Stage, Idle, Taking, Over, Ending, Feeding, Host, Hosted, Act, Rows, Mounts, Drops, Opens, Feeds, Takes, Closes, Writes, Sends, due_in, sent_in, noted, with_host, is_over, marked, lets_at, lets_rows, lets_packet, all_published, is_idle, is_taking, is_row, is_free, role_of, opens, opened, no_feed, feed_of, pushed, fed_more, is_feeding, feeds, input, takes, all_reach, closes, writes, sends, act, acts_on, hosted}
use Rattle.consensus_core.specs.Member.{is_ready, with_next}
use Rattle.service_runs.specs.Served.{IsNamed}
use Rattle.service_runs.proofs.Lists.{index-has, with_next-leads, with_next-length, set-contains, take-short, pushed-leads, next-same}
use Rattle.service_runs.proofs.Held.{DueOk, StageOk, HostOk, FeedOk, PastOk, IsBelow, Calms, Held, front-settled, input-printed, noted-held}
use Rattle.service_runs.proofs.Sendings.{due_in-ok, sent_in-ok, sent_in-once, Once-append, of_term-is}

with-cases : (P : ℕ → Host → Type 0) (hosts : ℕ → Host) (m : ℕ) (h : Host) → P m h → ((j : ℕ) → nat_eq j m ≡ false → P j (hosts j)) → (j : ℕ) → P j (if nat_eq j m then h else hosts j)
with-cases P hosts m h new old j =
    if-cases (P j) (nat_eq j m) h (hosts j)
    (λ b. let e : j ≡ m = grind (arith, nat_tests, b) in subst (λ z. P z h) (sym e) new)
    (λ b. old j b)

-- a member's runs change, and nothing of the world
with-held : (n : ℕ) (r : Rules) (w : Hosted) (m : ℕ) (h : Host) → Held n r w
    → ((member w.world m).up ≡ true → HostOk r w.world m (member w.world m) h) → h.past ≡ (w.hosts m).past
    → ((o : Output) → Contains w.outputs o → o.member ≡ m → IsBelow w.printed (member w.world m) h o) → Held n r (with_host w m h)
with-held n r w m h k ok same low = record {
  inv = k.inv;
  fits = k.fits;
  live = with-cases (λ j z. (member w.world j).up ≡ true → HostOk r w.world j (member w.world j) z) w.hosts m h ok (λ j b. k.live j);
  past = with-cases (λ j z. PastOk w.world j w.printed z.past) w.hosts m h (subst (PastOk w.world m w.printed) (sym same) (k.past m)) (λ j b. k.past j);
  snaps = k.snaps;
  printed = k.printed;
  commits = k.commits;
  owed = λ o has. let z = k.owed o has in record { entry = z.entry; at = z.at; owed = z.owed; first = z.first; reigned = z.reigned };
  once = k.once;
  below = with-cases (λ j z. (o : Output) → Contains w.outputs o → o.member ≡ j → IsBelow w.printed (member w.world j) z o) w.hosts m h low (λ j b. k.below j);
}

ready-reigns : (s : State) → is_ready s ≡ true → reigns_at s ≡ true
ready-reigns LeaderReady h = refl
ready-reigns LeaderInit h = refl
ready-reigns _ h = absurd (cc)

term-same : (a b : ℤ) → Some a ≡ Some b → a ≡ b
term-same a b e = cc

-- the role of a phase that begins
role-is : (x : Member) (t : ℤ) → role_of x ≡ Some t → (reigns_at x.values.election.state ≡ true) × (x.values.election.term ≡ t)
role-is x t e =
    if-cases (λ z. z ≡ Some t → (reigns_at x.values.election.state ≡ true) × (x.values.election.term ≡ t)) (is_ready x.values.election.state) (Some x.values.election.term) None
    (λ b h. (ready-reigns x.values.election.state b, term-same x.values.election.term t h)) (λ b h. absurd (cc)) e

-- the queues of a phase that begins
opened-ok : (x : Member) (inputs : List Log) → ((xs : Log) → Contains inputs xs → Leads xs x.durable.log × (length xs ≤ x.values.rest.commit)) → (z : Feeding) → Contains (opened inputs) z → FeedOk x z × Leads z.fed x.durable.log
opened-ok x [] ok z has = absurd (none_in z has)
opened-ok x (xs ∷ rest) ok z has = elim (cons-cases (record { fed = xs; published = length xs }) z (opened rest) has) [
  | inl e ↦ subst (λ (q : Feeding). FeedOk x q × Leads q.fed x.durable.log) e
      (let o = ok xs (cons-here xs rest) in ((o.1, omega arith, Leads-trans (take (length xs) xs) xs x.durable.log (take-leads (length xs) xs) o.0), o.0))
  | inr h ↦ opened-ok x rest (λ ys has'. ok ys (cons-later xs ys rest has')) z h
]

-- what a phase that takes knows of each queue
queue-ok : (r : Rules) (x : Member) (applied : ℕ) (feeds : List Feeding) (s : Stage) → is_taking s ≡ true → StageOk r x applied feeds s → (z : Feeding) → Contains feeds z → FeedOk x z
queue-ok r x applied feeds Taking h o z has = (o z has).0
queue-ok r x applied feeds Over h o z has = o z has
queue-ok r x applied feeds _ h o z has = absurd (cc)

pub feed_of-ok : (r : Rules) (w : World) (m : ℕ) (x : Member) (h : Host) (s : ℕ) → is_taking h.stage ≡ true → HostOk r w m x h → FeedOk x (feed_of h s)
feed_of-ok r w m x h s t ok = index-has (FeedOk x) h.feeds s no_feed ((omega arith, omega arith, tt)) (queue-ok r x h.applied h.feeds h.stage t ok.stage)

pub input-ok : (r : Rules) (w : World) (m : ℕ) (x : Member) (h : Host) (s : ℕ) → HostOk r w m x h → Leads (input h s) x.durable.log
input-ok r w m x h s ok = index-has (λ (z : Log). Leads z x.durable.log) h.run.inputs s [] tt (λ z has. (ok.inputs z has).0)

feeding-ok : (r : Rules) (x : Member) (applied : ℕ) (feeds : List Feeding) (s : Stage) → is_feeding s ≡ true → StageOk r x applied feeds s → (z : Feeding) → Contains feeds z → FeedOk x z × Leads z.fed x.durable.log
feeding-ok r x applied feeds Taking h o z has = o z has
feeding-ok r x applied feeds _ h o z has = absurd (cc)

fed_more-ok : (c : ℕ) (z : Feeding) (x : Member) → Leads z.fed x.durable.log → FeedOk x (fed_more c z x) × Leads (fed_more c z x).fed x.durable.log
fed_more-ok c z x lead =
    let fed = pushed c z.fed x.durable.log in
    let more = pushed-leads c z.fed x.durable.log lead in
    ((min-left x.values.rest.commit (length fed), min-right x.values.rest.commit (length fed), Leads-trans (take (min x.values.rest.commit (length fed)) fed) fed x.durable.log (take-leads (min x.values.rest.commit (length fed)) fed) more), more)
  where
    min-left : (a b : ℕ) → min a b ≤ a
    min-left a b = grind arith

    min-right : (a b : ℕ) → min a b ≤ b
    min-right a b = grind arith

fed-stage : (r : Rules) (x : Member) (applied : ℕ) (feeds : List Feeding) (s : Stage) → is_feeding s ≡ true → ((z : Feeding) → Contains feeds z → FeedOk x z × Leads z.fed x.durable.log) → StageOk r x applied feeds s
fed-stage r x applied feeds Taking h o = o
fed-stage r x applied feeds _ h o = absurd (cc)

feeding-ends : (s : Stage) (upto : ℕ) (due : List Due) → is_feeding s ≡ true → s ≡ Ending upto due → ⊥
feeding-ends s upto due h e = let z = ap is_feeding e in cc

feeding-over : (s : Stage) → is_feeding s ≡ true → s ≡ Over → ⊥
feeding-over s h e = let z = ap is_feeding e in cc

taking-ends : (s : Stage) (upto : ℕ) (due : List Due) → is_taking s ≡ true → s ≡ Ending upto due → ⊥
taking-ends s upto due h e = let z = ap is_taking e in cc

ending-upto : (u u' : ℕ) (due due' : List Due) → Ending u due ≡ Ending u' due' → u ≡ u'
ending-upto u u' due due' e = cc

all_reach-ok : (c : ℕ) (inputs : List Log) → all_reach c inputs ≡ true → (xs : Log) → Contains inputs xs → length xs ≡ c
all_reach-ok c [] h xs has = absurd (none_in xs has)
all_reach-ok c (ys ∷ rest) h xs has =
    let p = and_true (nat_eq (length ys) c) (all_reach c rest) h in
    elim (cons-cases ys xs rest has) [
      | inl e ↦ subst (λ (z : Log). length z ≡ c) e (let a = p.0 in grind (arith, nat_tests, a))
      | inr q ↦ all_reach-ok c rest p.1 xs q
    ]

feeds-held : (n : ℕ) (r : Rules) (w : Hosted) (m s c : ℕ) → Held n r w → Held n r (feeds w m s c)
feeds-held n r w m s c k =
    let h = w.hosts m in
    let x = member w.world m in
    if-cases (Held n r) (is_running w.world m && is_feeding h.stage) _ _
    (λ b.
    let p = and_true (is_running w.world m) (is_feeding h.stage) b in
    let up : x.up ≡ true = (runs w.world m p.0).1 in
    let ok = k.live m up in
    let old = feeding-ok r x h.applied h.feeds h.stage p.1 ok.stage in
    let more = fed_more-ok c (feed_of h s) x (index-has (λ (z : Feeding). Leads z.fed x.durable.log) h.feeds s no_feed tt (λ z has. (old z has).1)) in
    with-held n r w m (record { run = h.run; applied = h.applied; role = h.role; stage = h.stage; feeds = set h.feeds s (fed_more c (feed_of h s) x); past = h.past }) k
    (λ up. record {
      inputs = ok.inputs;
      applied = ok.applied;
      stage = fed-stage r x h.applied (set h.feeds s (fed_more c (feed_of h s) x)) h.stage p.1 (λ z has. elim (set-contains h.feeds s (fed_more c (feed_of h s) x) z has) [
        | inl a ↦ old z a
        | inr e ↦ subst (λ (q : Feeding). FeedOk x q × Leads q.fed x.durable.log) e more
      ]);
      role = ok.role;
      closed = λ upto due e. absurd (feeding-ends h.stage upto due p.1 e);
      over = λ e. absurd (feeding-over h.stage p.1 e);
    }) refl
    (λ o has is_m. k.below m o has is_m))
    (λ b. k)

opens-held : (n : ℕ) (r : Rules) (w : Hosted) (m : ℕ) → Held n r w → Held n r (opens w m)
opens-held n r w m k =
    let h = w.hosts m in
    let x = member w.world m in
    if-cases (Held n r) (is_running w.world m && is_idle h.stage) _ _
    (λ b.
    let up : x.up ≡ true = (runs w.world m (and_true (is_running w.world m) (is_idle h.stage) b).0).1 in
    let ok = k.live m up in
    with-held n r w m (record { run = h.run; applied = h.applied; role = role_of x; stage = Taking; feeds = opened h.run.inputs; past = h.past }) k
    (λ up. record {
      inputs = ok.inputs;
      applied = ok.applied;
      stage = opened-ok x h.run.inputs ok.inputs;
      role = λ t e. let z = role-is x t e in let y = (k.fits.members m).reigns z.0 in (y.1, subst (λ u. Contains w.world.reigns (record { term = u; member = m; first = y.1 })) z.1 y.2);
      closed = λ upto due e. absurd (cc);
      over = λ e. absurd (cc);
    }) refl
    (λ o has is_m e at up why. k.below m o has is_m e at up (elim why [ inl role ↦ inr (role-is x e.term role) | inr reign ↦ inr reign ])))
    (λ b. k)

takes-held : (n : ℕ) (r : Rules) (w : Hosted) (m s : ℕ) → Held n r w → Held n r (takes r w m s)
takes-held n r w m s k =
    let h = w.hosts m in
    let x = member w.world m in
    if-cases (Held n r) (is_running w.world m && (is_taking h.stage && (nat_lt s r.services && nat_lt (length (input h s)) (feed_of h s).published))) _ _
    (λ b.
    let p = and_true (is_running w.world m) _ b in
    let q = and_true (is_taking h.stage) _ p.1 in
    let t = and_true (nat_lt s r.services) _ q.1 in
    let up : x.up ≡ true = (runs w.world m p.0).1 in
    let ok = k.live m up in
    let lead : Leads (input h s) x.durable.log = input-ok r w.world m x h s ok in
    let room : length (input h s) < (feed_of h s).published = (let a = t.1 in grind (arith, nat_tests, a)) in
    let feed = feed_of-ok r w.world m x h s q.0 ok in
    let low = feed.0 in
    let same : with_next (input h s) (feed_of h s).fed ≡ with_next (input h s) x.durable.log = next-same (feed_of h s).published (input h s) (feed_of h s).fed x.durable.log lead feed.2 room feed.1 in
    let new : Leads (with_next (input h s) (feed_of h s).fed) x.durable.log × (length (with_next (input h s) (feed_of h s).fed) ≤ x.values.rest.commit) =
    subst (λ (z : Log). Leads z x.durable.log × (length z ≤ x.values.rest.commit)) (sym same) (with_next-leads (input h s) x.durable.log lead, (let a = with_next-length (input h s) x.durable.log in omega (arith, a, room, low))) in
    with-held n r w m (record { run = record { first = h.run.first; inputs = set h.run.inputs s (with_next (input h s) (feed_of h s).fed) }; applied = h.applied; role = h.role; stage = h.stage; feeds = h.feeds; past = h.past }) k
    (λ up. record {
      inputs = λ xs has. elim (set-contains h.run.inputs s (with_next (input h s) (feed_of h s).fed) xs has) [
        | inl a ↦ ok.inputs xs a
        | inr e ↦ subst (λ (z : Log). Leads z x.durable.log × (length z ≤ x.values.rest.commit)) e new
      ];
      applied = ok.applied;
      stage = ok.stage;
      role = ok.role;
      closed = λ upto due e. absurd (taking-ends h.stage upto due q.0 e);
      over = ok.over;
    }) refl
    (λ o has is_m. k.below m o has is_m))
    (λ b. k)

closes-held : (n : ℕ) (r : Rules) (w : Hosted) (m : ℕ) → Held n r w → Held n r (closes r w m)
closes-held n r w m k =
    let h = w.hosts m in
    let x = member w.world m in
    if-cases (Held n r) (is_running w.world m && (is_taking h.stage && all_reach x.values.rest.commit h.run.inputs)) _ _
    (λ b.
    let up : x.up ≡ true = (runs w.world m (and_true (is_running w.world m) _ b).0).1 in
    let ok = k.live m up in
    with-held n r w m (record { run = h.run; applied = h.applied; role = h.role; stage = Ending x.values.rest.commit (due_in r x.durable.log h.applied x.values.rest.commit); feeds = h.feeds; past = h.past }) k
    (λ up. record {
      inputs = ok.inputs;
      applied = ok.applied;
      stage = (ok.applied, omega arith, λ d has. due_in-ok r x.durable.log h.applied x.values.rest.commit d has);
      role = ok.role;
      closed = λ upto due e xs has. all_reach-ok x.values.rest.commit h.run.inputs (and_true (is_taking h.stage) (all_reach x.values.rest.commit h.run.inputs) (and_true (is_running w.world m) (is_taking h.stage && all_reach x.values.rest.commit h.run.inputs) b).1).1 xs has
          ∙ ending-upto x.values.rest.commit upto (due_in r x.durable.log h.applied x.values.rest.commit) due e;
      over = λ e. absurd (cc);
    }) refl
    (λ o has is_m. k.below m o has is_m))
    (λ b. k)

-- where the phase of the member that a step may change is over after it
abbrev ActorCalm : Hosted → Step → Type 0
ActorCalm w s = (m : ℕ) → IsActor w.world s m → (member w.world m).up ≡ true → (member (step w.world s) m).up ≡ true → marked (member w.world m) (member (step w.world s) m) (w.hosts m).stage ≡ Over
    → ((member (step w.world s) m).values.rest.commit ≡ (member w.world m).values.rest.commit) × ((z : Feeding) → Contains (w.hosts m).feeds z → z.published ≡ (member w.world m).values.rest.commit)

never-over : (x : Member) → is_over x x ≡ false
never-over x = both-false (nat_lt (length x.durable.log) (length x.durable.log)) (is_ready x.values.election.state) (grind (arith, nat_tests))
  where
    both-false : (a b : Bool) → a ≡ false → (a || (b && not b)) ≡ false
    both-false false true h = refl
    both-false false false h = refl
    both-false true b h = absurd (cc)

marked-self : (x : Member) (s : Stage) → marked x x s ≡ Over → s ≡ Over
marked-self x Idle e = absurd (cc)
marked-self x Taking e = absurd (if-cases (λ (z : Stage). is_over x x ≡ false → z ≡ Over → ⊥) (is_over x x) Over Taking (λ b n q. cc) (λ b n q. cc) (never-over x) e)
marked-self x Over e = e
marked-self x (Ending upto due) e = absurd (cc)

calms-by : (w : Hosted) (s : Step) → ((m : ℕ) → (member w.world m).up ≡ true → (w.hosts m).stage ≡ Over → (z : Feeding) → Contains (w.hosts m).feeds z → z.published ≡ (member w.world m).values.rest.commit) → ActorCalm w s → Calms w (step w.world s)
calms-by w s old calm m was is over = elim (step-spares w.world s m) [
  | inl same ↦ (ap (λ (x : Member). x.values.rest.commit) same, old m was (marked-self (member w.world m) (w.hosts m).stage (subst (λ (y : Member). marked (member w.world m) y (w.hosts m).stage ≡ Over) same over)))
  | inr actor ↦ calm m actor was is over
]

all_published-ok : (c : ℕ) (feeds : List Feeding) → all_published c feeds ≡ true → (z : Feeding) → Contains feeds z → z.published ≡ c
all_published-ok c [] h z has = absurd (none_in z has)
all_published-ok c (q ∷ rest) h z has =
    let p = and_true (nat_eq q.published c) (all_published c rest) h in
    elim (cons-cases q z rest has) [
      | inl e ↦ subst (λ (y : Feeding). y.published ≡ c) e (let a = p.0 in grind (arith, nat_tests, a))
      | inr y ↦ all_published-ok c rest p.1 z y
    ]

-- a row of a member that is let
let-calm : (w : Hosted) (v : World) (m : ℕ) → MemberMoves w.world (member w.world m) (member v m) → lets_at w m ≡ true → (member w.world m).up ≡ true → (member v m).up ≡ true → marked (member w.world m) (member v m) (w.hosts m).stage ≡ Over
    → ((member v m).values.rest.commit ≡ (member w.world m).values.rest.commit) × ((z : Feeding) → Contains (w.hosts m).feeds z → z.published ≡ (member w.world m).values.rest.commit)
let-calm w v m g lets was is over = at (w.hosts m).stage lets over
  where
    at : (s : Stage) → lets_rows (member w.world m) (w.hosts m) s ≡ true → marked (member w.world m) (member v m) s ≡ Over
        → ((member v m).values.rest.commit ≡ (member w.world m).values.rest.commit) × ((z : Feeding) → Contains (w.hosts m).feeds z → z.published ≡ (member w.world m).values.rest.commit)
    at Idle lets over = absurd (cc)
    at Over lets over = absurd (cc)
    at (Ending upto due) lets over = absurd (cc)
    at Taking lets over = (
      elim (g.steady was is) [
        | inl same ↦ same
        | inr grew ↦ absurd (not_over (member w.world m) (member v m) grew.0 (length-up (member w.world m).durable.log (member v m).durable.log grew.1) (is-over (member w.world m) (member v m) over))
      ],
      all_published-ok (member w.world m).values.rest.commit (w.hosts m).feeds lets,
    )
      where
        is-over : (x y : Member) → (if is_over x y then Over else Taking) ≡ Over → is_over x y ≡ true
        is-over x y e = if-cases (λ (z : Stage). z ≡ Over → is_over x y ≡ true) (is_over x y) Over Taking (λ b q. b) (λ b q. absurd (cc)) e

        none : (a b c : Bool) → a ≡ false → b ≡ c → (a || (b && not c)) ≡ true → ⊥
        none true b c e f h = cc
        none false true true e f h = cc
        none false true false e f h = cc
        none false false c e f h = cc

        not_over : (x y : Member) → y.values.election.state ≡ x.values.election.state → length x.durable.log ≤ length y.durable.log → is_over x y ≡ true → ⊥
        not_over x y st len h = none (nat_lt (length y.durable.log) (length x.durable.log)) (is_ready y.values.election.state) (is_ready x.values.election.state) (grind (arith, nat_tests, len)) (ap is_ready st) h

-- what is due is of a settled prefix
pub due-named : (n : ℕ) (r : Rules) (w : World) (m upto : ℕ) (d : Due) → Fits n w → upto ≤ (member w m).values.rest.commit → DueOk r (member w m).durable.log upto d → IsNamed r w m d.snap
due-named n r w m upto d f le z =
    let log = (member w m).durable.log in
    let lt = z.3 in
    subst (λ (q : Due). IsNamed r w m q.snap) (sym z.7)
    (z.0, z.1, z.2, z.4, z.5, z.6, refl, front-settled n w m (take (suc z.0) log) f (take-leads (suc z.0) log) (let a = take-short (suc z.0) log in omega (arith, a, lt, le)), z.8)

pub ending : (r : Rules) (x : Member) (applied : ℕ) (feeds : List Feeding) (s s' : Stage) → s ≡ s' → StageOk r x applied feeds s → StageOk r x applied feeds s'
ending r x applied feeds s s' e o = subst (StageOk r x applied feeds) e o

writes-held : (n : ℕ) (r : Rules) (w : Hosted) (m : ℕ) (s : Stage) (cut : Cut) → (w.hosts m).stage ≡ s → Held n r w → Held n r (writes r w m s cut)
writes-held n r w m Idle cut e k = k
writes-held n r w m Taking cut e k = k
writes-held n r w m Over cut e k = k
writes-held n r w m (Ending upto []) cut e k = k
writes-held n r w m (Ending upto (d ∷ due)) cut e k =
    let h = w.hosts m in
    let x = member w.world m in
    let s = Puts m d.entries d.snap cut in
    if-cases (Held n r) (is_running w.world m) _ _
    (λ b.
    let up : x.up ≡ true = (runs w.world m b).1 in
    let ok = k.live m up in
    let st : StageOk r x h.applied h.feeds (Ending upto (d ∷ due)) = ending r x h.applied h.feeds h.stage (Ending upto (d ∷ due)) e ok.stage in
    let popped : Held n r (with_host w m (record { run = h.run; applied = h.applied; role = h.role; stage = Ending upto due; feeds = h.feeds; past = h.past })) =
    with-held n r w m (record { run = h.run; applied = h.applied; role = h.role; stage = Ending upto due; feeds = h.feeds; past = h.past }) k
    (λ up. record { inputs = ok.inputs; applied = ok.applied; stage = (st.0, st.1, λ d' has. st.2 d' (cons-later d d' due has)); role = ok.role; closed = λ u ds q xs has. ok.closed upto (d ∷ due) e xs has ∙ ending-upto upto u due ds q; over = λ q. absurd (cc) }) refl
    (λ o has is_m. k.below m o has is_m) in
    noted-held n r (with_host w m (record { run = h.run; applied = h.applied; role = h.role; stage = Ending upto due; feeds = h.feeds; past = h.past })) (step w.world s) popped
    (step-moves n w.world s k.inv k.fits) (step-keeps n w.world s k.inv) (step-fits n w.world s k.inv k.fits)
    (calms-by (with_host w m (record { run = h.run; applied = h.applied; role = h.role; stage = Ending upto due; feeds = h.feeds; past = h.past })) s
    (λ j up o. (popped.live j up).over o)
    (λ j actor was is over. absurd (with-cases (λ i (z : Host). i ≡ m → marked (member w.world i) (member (step w.world s) i) z.stage ≡ Over → ⊥) w.hosts m (record { run = h.run; applied = h.applied; role = h.role; stage = Ending upto due; feeds = h.feeds; past = h.past })
    (λ i q. cc) (λ i other is_m q. absurd (grind (arith, nat_tests, other, is_m))) j actor over)))
    (λ j t has. elim (step-snaps w.world s j t has) [
      | inl a ↦ inl a
      | inr p ↦ inr (subst (λ (z : ℕ). IsNamed r w.world z t) (sym p.0) (subst (IsNamed r w.world m) p.1 (due-named n r w.world m upto d k.fits st.1 (st.2 d (cons-here d due)))))
    ]))
    (λ b. k)

entry-same : (a b : Entry) → Some a ≡ Some b → a ≡ b
entry-same a b e = cc

sends-held : (n : ℕ) (r : Rules) (w : Hosted) (m : ℕ) (s : Stage) → (w.hosts m).stage ≡ s → Held n r w → Held n r (sends r w m s)
sends-held n r w m Idle e k = k
sends-held n r w m Taking e k = k
sends-held n r w m Over e k = k
sends-held n r w m (Ending upto (d ∷ due)) e k = k
sends-held n r w m (Ending upto []) e k =
    let h = w.hosts m in
    let x = member w.world m in
    let log = x.durable.log in
    let new = sent_in r m h.role log h.applied upto in
    let h' : Host = record { run = h.run; applied = upto; role = None; stage = Idle; feeds = h.feeds; past = h.past } in
    if-cases (Held n r) (is_running w.world m) _ _
    (λ b.
    let up : x.up ≡ true = (runs w.world m b).1 in
    let ok = k.live m up in
    let st : StageOk r x h.applied h.feeds (Ending upto []) = ending r x h.applied h.feeds h.stage (Ending upto []) e ok.stage in
    let le = st.0 in
    let front : Leads (take upto log) w.printed = input-printed n r w m (take upto log) k up (take-leads upto log) (let a = take-short upto log in let c = st.1 in omega (arith, a, c)) in
    let at_printed : (i : ℕ) (y : Entry) → i < upto → slice_get log i ≡ Some y → slice_get w.printed i ≡ Some y = printed-at log w.printed upto front in
    let same_take : (i : ℕ) → i < upto → i < length log → take (suc i) w.printed ≡ take (suc i) log = printed-take log w.printed upto front in
    record {
      inv = k.inv;
      fits = k.fits;
      live = with-cases (λ j z. (member w.world j).up ≡ true → HostOk r w.world j (member w.world j) z) w.hosts m h'
          (λ up. record { inputs = ok.inputs; applied = st.1; stage = tt; role = λ t q. absurd (cc); closed = λ u ds q. absurd (cc); over = λ q. absurd (cc) }) (λ j b. k.live j);
      past = with-cases (λ j z. PastOk w.world j w.printed z.past) w.hosts m h' (k.past m) (λ j b. k.past j);
      snaps = k.snaps;
      printed = k.printed;
      commits = k.commits;
      owed = λ o has. elim (Contains-append_cases w.outputs new o has) [
        | inl a ↦ let z = k.owed o a in record { entry = z.entry; at = z.at; owed = z.owed; first = z.first; reigned = z.reigned }
        | inr c ↦
            let z = sent_in-ok r m h.role log h.applied upto o c in
            let y = ok.role (z.3).term (of_term-is h.role (z.3).term z.5) in
            record {
              entry = z.3;
              at = at_printed o.entry z.3 z.2 z.4;
              owed = ap (λ (l : Log). slice_get (r.owed l o.seat) o.number) (same_take o.entry z.2 (slice_get_within log o.entry z.3 z.4)) ∙ z.6;
              first = y.0;
              reigned = subst (λ (j : ℕ). Contains w.world.reigns (record { term = (z.3).term; member = j; first = y.0 })) (sym z.0) y.1;
            }
      ];
      once = Once-append w.outputs new k.once (sent_in-once r m h.role log h.applied upto) (λ o o' has has' same.
          let z = sent_in-ok r m h.role log h.applied upto o' has' in
          let role = of_term-is h.role (z.3).term z.5 in
          let y = ok.role (z.3).term role in
          let v = k.owed o has in
          let at : slice_get w.printed o.entry ≡ Some z.3 = ap (slice_get w.printed) same.0 ∙ at_printed o'.entry z.3 z.2 z.4 in
          let is : v.entry ≡ z.3 = entry-same v.entry z.3 (sym v.at ∙ at) in
          let mine : o.member ≡ m = ap (λ (g : Reign). g.member) (k.inv.one_reign _ _ v.reigned y.1 (ap (λ (q : Entry). q.term) is)) in
          let low = k.below m o has mine z.3 at up (inl role) in
          let high = z.1 in
          let eq = same.0 in
          omega (arith, low, high, eq));
      below = with-cases (λ j q. (o : Output) → Contains (w.outputs ++ new) o → o.member ≡ j → IsBelow w.printed (member w.world j) q o) w.hosts m h'
          (λ o has is_m y at up why. elim (Contains-append_cases w.outputs new o has) [
            | inl a ↦ elim why [ inl role ↦ absurd (cc) | inr reign ↦ (let low = k.below m o a is_m y at up (inr reign) in omega (arith, low, le)) ]
            | inr c ↦ (sent_in-ok r m h.role log h.applied upto o c).2
          ])
          (λ j other o has is_j. elim (Contains-append_cases w.outputs new o has) [
            | inl a ↦ k.below j o a is_j
            | inr c ↦ absurd (let z = (sent_in-ok r m h.role log h.applied upto o c).0 in grind (arith, nat_tests, z, is_j, other))
          ]);
    })
    (λ b. k)
  where
    printed-at : (log printed : Log) (upto : ℕ) → Leads (take upto log) printed → (i : ℕ) (y : Entry) → i < upto → slice_get log i ≡ Some y → slice_get printed i ≡ Some y
    printed-at log printed zero p i y lt q = absurd (omega (arith, lt))
    printed-at [] printed (suc u) p i y lt q = absurd (cc)
    printed-at (a ∷ as') [] (suc u) p i y lt q = absurd p
    printed-at (a ∷ as') (c ∷ cs) (suc u) p zero y lt q = ap Some (sym p.0) ∙ q
    printed-at (a ∷ as') (c ∷ cs) (suc u) p (suc i) y lt q = printed-at as' cs u p.1 i y (omega (arith, lt)) q

    printed-take : (log printed : Log) (upto : ℕ) → Leads (take upto log) printed → (i : ℕ) → i < upto → i < length log → take (suc i) printed ≡ take (suc i) log
    printed-take log printed zero p i lt h = absurd (omega (arith, lt))
    printed-take [] printed (suc u) p i lt h = absurd (omega (arith, h))
    printed-take (a ∷ as') [] (suc u) p i lt h = absurd p
    printed-take (a ∷ as') (c ∷ cs) (suc u) p zero lt h = (λ j. sym p.0 j ∷ [])
    printed-take (a ∷ as') (c ∷ cs) (suc u) p (suc i) lt h = (λ j. sym p.0 j ∷ printed-take as' cs u p.1 i (omega (arith, lt)) (omega (arith, h)) j)

-- a step that puts no snapshot entry
no-put : (n : ℕ) (r : Rules) (w : Hosted) (s : Step) → ((j : ℕ) (t : SnapshotEntry) → IsPut w.world s j t → ⊥) → ActorCalm w s → Held n r w → Held n r (noted r w (step w.world s))
no-put n r w s none calm k =
    noted-held n r w (step w.world s) k (step-moves n w.world s k.inv k.fits) (step-keeps n w.world s k.inv) (step-fits n w.world s k.inv k.fits) (calms-by w s (λ j up o. (k.live j up).over o) calm)
    (λ j t has. elim (step-snaps w.world s j t has) [ inl a ↦ inl a | inr p ↦ absurd (none j t p) ])

row-no-put : (w : World) (s : Step) → is_row s ≡ true → (j : ℕ) (t : SnapshotEntry) → IsPut w s j t → ⊥
row-no-put w (Puts m k s cut) h j t p = cc
row-no-put w _ h j t p = p

row-calm : (n : ℕ) (r : Rules) (w : Hosted) (s : Step) → Held n r w → is_row s ≡ true → is_free w s ≡ true → ActorCalm w s
row-calm n r w s k row free m actor was is over = at s row free ((step-moves n w.world s k.inv k.fits).members m) actor is over
  where
    at : (s : Step) → is_row s ≡ true → is_free w s ≡ true → MemberMoves w.world (member w.world m) (member (step w.world s) m) → IsActor w.world s m → (member (step w.world s) m).up ≡ true
        → marked (member w.world m) (member (step w.world s) m) (w.hosts m).stage ≡ Over
        → ((member (step w.world s) m).values.rest.commit ≡ (member w.world m).values.rest.commit) × ((z : Feeding) → Contains (w.hosts m).feeds z → z.published ≡ (member w.world m).values.rest.commit)
    at (Passes now) row free g a is over = absurd a
    at (Starts j services) row free g a is over = absurd (cc)
    at (Stops j) row free g a is over = absurd (let d = subst (λ i. (member (step w.world (Stops j)) i).up ≡ false) (sym a.0) a.1 in cc)
    at (Duty j due cut) row free g a is over = let-calm w (step w.world (Duty j due cut)) m g (subst (λ i. lets_at w i ≡ true) (sym a) free) was is over
    at (Client j event cut) row free g a is over = let-calm w (step w.world (Client j event cut)) m g (subst (λ i. lets_at w i ≡ true) (sym a) free) was is over
    at (Delivers which cut) row free g a is over = let-calm w (step w.world (Delivers which cut)) m g
        (subst (λ i. lets_at w i ≡ true) (sym a.2) (subst (λ (x : Option Sent). lets_packet w x ≡ true) a.1 free)) was is over
    at (Puts j i s cut) row free g a is over = absurd (cc)
    at (Invalidates j services) row free g a is over = absurd (cc)

pub act-held : (n : ℕ) (r : Rules) (w : Hosted) (a : Act) → Held n r w → Held n r (act r w a)
act-held n r w (Rows s) k = if-cases (Held n r) (is_row s && is_free w s) _ _ (λ b. let p = and_true (is_row s) (is_free w s) b in no-put n r w s (row-no-put w.world s p.0) (row-calm n r w s k p.0 p.1) k) (λ b. k)
act-held n r w (Mounts m) k = no-put n r w (Starts m r.services) (λ j t p. p) (λ j a was is over. absurd (let d = subst (λ i. (member w.world i).up ≡ false) (sym a.0) a.1 in cc)) k
act-held n r w (Drops m) k = no-put n r w (Invalidates m r.services) (λ j t p. p) (λ j a was is over. absurd (let d = subst (λ i. (member w.world i).up ≡ false) (sym a.0) a.1 in cc)) k
act-held n r w (Opens m) k = opens-held n r w m k
act-held n r w (Feeds m s c) k = feeds-held n r w m s c k
act-held n r w (Takes m s) k = takes-held n r w m s k
act-held n r w (Closes m) k = closes-held n r w m k
act-held n r w (Writes m cut) k = writes-held n r w m (w.hosts m).stage cut refl k
act-held n r w (Sends m) k = sends-held n r w m (w.hosts m).stage refl k

acts-held : (n : ℕ) (r : Rules) (w : Hosted) (as' : List Act) → Held n r w → Held n r (acts_on r w as')
acts-held n r w [] k = k
acts-held n r w (a ∷ as') k = acts-held n r (act r w a) as' (act-held n r w a k)

pub hosted-held : (n : ℕ) (r : Rules) → Held n r (hosted n)
hosted-held n r = record {
  inv = formatted-inv n;
  fits = formatted-fits n;
  live = λ m up. absurd (let e = ap (λ (x : Member). x.up) (all-fresh n m) in cc);
  past = λ m run xs has. absurd (none_in run has);
  snaps = λ m s has. absurd (none_in s (subst (λ (x : Member). Contains x.durable.snapshots s) (all-fresh n m) has));
  printed = (negsuc 0, inl refl);
  commits = λ m l. subst (λ (x : Member). x.values.rest.commit ≤ 0) (sym (all-fresh n m)) (omega arith);
  owed = λ o has. absurd (none_in o has);
  once = tt;
  below = λ m o has. absurd (none_in o has);
}

pub held : (n : ℕ) (r : Rules) (as' : List Act) → Held n r (acts_on r (hosted n) as')
held n r as' = acts-held n r (hosted n) as' (hosted-held n r)
