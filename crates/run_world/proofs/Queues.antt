-- The queues of a member's services: what was pushed and published, and that a member's calls may come once all is.
use Rattle.std.proofs.Common.{◌≡◌, ◌≢◌, inl, inr, ℕ, zero, suc, ◌<◌, ◌≤◌, Bool, true, false, ◌&&◌, List, [], ◌∷◌, ◌++◌, length, set, map, take, drop, min, refl, sym, ap, ◌∙◌, subst, arith, ℤ, Option, if◌then◌else◌, get_or-set_same, get_or-set_other, length-set}
use Rattle.std.specs.Prelude.{Contains, nat_eq, slice_index_or}
use Rattle.std.proofs.Math.Seq.{map-set_same}
use Rattle.std.proofs.lemmas.Bool.{cases_eq}
use Rattle.std.proofs.lemmas.Bool.Decides.{nat_tests}
use Rattle.std.proofs.lemmas.List.Elements.{Contains-get_or}
use Rattle.entry_log.specs.Log.{Log}
use Rattle.log_replication.specs.Prefixes.{Leads, leads}
use Rattle.service_api.specs.declared.shipped.Kind.{Kind}
use Rattle.consensus_core.specs.Member.{Member}
use Rattle.world.specs.World.{World, member, is_running}
use Rattle.service_runs.specs.Hosts.{Rules, Host, Hosted, Stage, Idle, Taking, Over, Feeding, Feeds, with_host, is_feeding, feed_of, no_feed, fed_more, pushed, all_published, lets_rows, lets_at}
use Rattle.service_runs.proofs.Statements.{inputs-hold}
use Rattle.one_log.specs.Led.{Led, Turn, Acts, turn, turns, led}
use Rattle.one_log.specs.Ruled.{rules_of}
use Rattle.one_log.proofs.Turns.{Stays, stays}
use Rattle.run_world.specs.Seat.{Seat, Phase, Rests, Goes, Ends, first_seat, lets_calls}
use Rattle.run_world.specs.RunWorld.{RunWorld, seat, put as here, committed}
use Rattle.run_world.specs.Lawful.{IsHost, IsPhase, member_of, Shows, Lawful}
use Rattle.run_world.proofs.Printed.{longer-short}
use Rattle.run_world.proofs.Rows.{both, idle-there, runs-there, turns-more}
use Rattle.run_world.proofs.Shown.{AllPrinted, member-shown}

-- ---- a host alone changes

pub committed-within : (h : Hosted) (w : RunWorld) (m : ℕ) → AllPrinted h → Shows h w → length (committed (seat w m).member) ≤ length w.printed
committed-within h w m all s = subst (λ (x : Member). length (committed x) ≤ length w.printed) (member-shown h w m s) (subst (λ (p : Log). length (committed (member h.world m)) ≤ length p) s.printed (all m))

pub host-here : (h : Hosted) (m : ℕ) (g : Host) → (with_host h m g).hosts m ≡ g
host-here h m g = ap (λ (b : Bool). if b then g else h.hosts m) (same m)
  where
    same : (k : ℕ) → nat_eq k k ≡ true
    same k = grind (arith, nat_tests)

host-there : (h : Hosted) (m j : ℕ) (g : Host) → j ≢ m → (with_host h m g).hosts j ≡ h.hosts j
host-there h m j g ne = ap (λ (b : Bool). if b then g else h.hosts j) (other j m ne)
  where
    other : (a b : ℕ) → a ≢ b → nat_eq a b ≡ false
    other a b ne = grind (arith, nat_tests, ne)

-- in its seat too
pub host-shows : (h : Hosted) (w : RunWorld) (m : ℕ) (g : Host) (s' : Seat) → AllPrinted h → Shows h w → m < length w.seats → s'.member ≡ (seat w m).member → IsHost g s' → Shows (with_host h m g) (here m s' [] w)
host-shows h w m g s' all s l same i = record {
  now = s.now;
  members = s.members ∙ sym (map-set_same member_of w.seats m s' first_seat same);
  hosts = λ j. elim (cases_eq j m) [
    | inl e ↦ subst (λ (k : ℕ). IsHost ((with_host h m g).hosts k) (seat (here m s' [] w) k)) (sym e)
        (subst (λ (z : Seat). IsHost ((with_host h m g).hosts m) z) (sym (get_or-set_same w.seats m s' first_seat l)) (subst (λ (z : Host). IsHost z s') (sym (host-here h m g)) i))
    | inr ne ↦ subst (λ (z : Seat). IsHost ((with_host h m g).hosts j) z) (sym (get_or-set_other w.seats m j s' first_seat ne)) (subst (λ (z : Host). IsHost z (seat w j)) (sym (host-there h m j g ne)) (s.hosts j))
  ];
  outputs = s.outputs;
  printed = s.printed ∙ sym (longer-short w.printed (committed s'.member) (subst (λ (x : Member). length (committed x) ≤ length w.printed) (sym same) (committed-within h w m all s)));
  flown = s.flown;
  spelled = s.spelled;
}

-- or not
pub host-same : (h : Hosted) (w : RunWorld) (m : ℕ) (g : Host) → Shows h w → IsHost g (seat w m) → Shows (with_host h m g) w
host-same h w m g s i = record {
  now = s.now;
  members = s.members;
  hosts = λ j. elim (cases_eq j m) [
    | inl e ↦ subst (λ (k : ℕ). IsHost ((with_host h m g).hosts k) (seat w k)) (sym e) (subst (λ (z : Host). IsHost z (seat w m)) (sym (host-here h m g)) i)
    | inr ne ↦ subst (λ (z : Host). IsHost z (seat w j)) (sym (host-there h m j g ne)) (s.hosts j)
  ];
  outputs = s.outputs;
  printed = s.printed;
  flown = s.flown;
  spelled = s.spelled;
}

-- ---- a queue

past-all : (k : ℕ) (zs : Log) → length zs ≤ k → take k zs ≡ zs
past-all zero [] h = refl
past-all (suc k) [] h = refl
past-all zero (z ∷ zs) h = absurd (omega (arith, h))
past-all (suc k) (z ∷ zs) h = ap (λ (u : Log). z ∷ u) (past-all k zs (omega (arith, h)))

-- a queue to which the whole log is pushed has all of it
whole-queue : (xs log : Log) (k : ℕ) → length log ≤ k → Leads xs log → length (pushed k xs log) ≡ length log
whole-queue [] log k h p = ap length (past-all k log h)
whole-queue (x ∷ xs) [] k h p = absurd p
whole-queue (x ∷ xs) (y ∷ ys) k h p = ap suc (whole-queue xs ys k (omega (arith, h)) p.1)

pub going-there : (h : Hosted) (w : RunWorld) (m : ℕ) (role : Option ℤ) (over : Bool) → Shows h w → (seat w m).phase ≡ Goes role over → IsPhase (Goes role over) (h.hosts m)
going-there h w m role over s e = subst (λ (p : Phase). IsPhase p (h.hosts m)) e (s.hosts m).phase

-- ---- turns that change what services are fed, and no seat

-- the world of steps that shows as this one
abbrev pub explains : (n : ℕ) (kinds : List Kind) → List Turn → Hosted
explains n kinds ts = (turns kinds (rules_of kinds) (led n) ts).hosted

-- other turns explain the same, with the same logs, and the member's queues are so
pub record Again (n : ℕ) (kinds : List Kind) (w : RunWorld) (lawful : Lawful n kinds w) (m : ℕ) (P : Host → Type 0) : Type 0 where
  pub again : Lawful n kinds w
  pub world : (explains n kinds again.taken).world ≡ (explains n kinds lawful.taken).world
  pub holds : P ((explains n kinds again.taken).hosts m)

-- one queue is fed all, and its commit is published
abbrev pub IsFed : Host → ℕ → ℕ → Host → Type 0
IsFed q k commit g = (z : Feeding) × (g.feeds ≡ set q.feeds k z) × (z.published ≡ commit)

least : (a b : ℕ) → a ≤ b → min a b ≡ a
least a b lt = omega (arith, lt)

pub feed-one : (n : ℕ) (kinds : List Kind) (w : RunWorld) (m k : ℕ) (role : Option ℤ) → n ≤ 5 → length kinds ≤ 3 → (lawful : Lawful n kinds w) → m < length w.seats → (seat w m).member.up ≡ true → (seat w m).phase ≡ Goes role false
    → k < length ((explains n kinds lawful.taken).hosts m).feeds → Again n kinds w lawful m (IsFed ((explains n kinds lawful.taken).hosts m) k (member (explains n kinds lawful.taken).world m).values.rest.commit)
feed-one n kinds w m k role five three lawful l up goes within =
    let r = rules_of kinds in
    let d = turns kinds r (led n) lawful.taken in
    let h = d.hosted in
    let s = lawful.shows in
    let i = s.hosts m in
    let q = h.hosts m in
    let x = member h.world m in
    let st : Stays n kinds r d = stays n kinds r lawful.taken five three in
    let on : x.up ≡ true = ap (λ (u : Member). u.up) (member-shown h w m s) ∙ up in
    let phase = going-there h w m role false s goes in
    let size : ℕ = length x.durable.log in
    let z : Feeding = fed_more size (feed_of q k) x in
    let g : Host = record { run = q.run; applied = q.applied; role = q.role; stage = q.stage; feeds = set q.feeds k z; past = q.past } in
    let t : Turn = Acts (Feeds m k size) in
    let fed : (turn kinds r d t).hosted ≡ with_host h m g = ap (λ (b : Bool). if b then with_host h m g else h) (both (is_running h.world m) (is_feeding q.stage) (runs-there h w m s l up) (ap is_feeding phase.0)) in
    let all : explains n kinds (lawful.taken ++ t ∷ []) ≡ with_host h m g = ap (λ (u : Led). u.hosted) (turns-more kinds r (led n) lawful.taken t) ∙ fed in
    let shows : Shows (with_host h m g) w = host-same h w m g s (record { run = i.run; applied = i.applied; past = i.past; phase = subst (λ (p : Phase). IsPhase p g) (sym goes) (phase.0, phase.1, length-set q.feeds k z ∙ phase.2) }) in
    let lead : Leads (feed_of q k).fed x.durable.log = leads (feed_of q k).fed x.durable.log ((inputs-hold n r h st.held).fed m (feed_of q k) on phase.0 (Contains-get_or q.feeds k no_feed within)) in
    let whole = whole-queue (feed_of q k).fed x.durable.log size (omega arith) lead in
    let fits = (st.held.fits.members m).commit.0 in
    record {
      again = record { taken = lawful.taken ++ t ∷ []; shows = subst (λ (u : Hosted). Shows u w) (sym all) shows };
      world = ap (λ (u : Hosted). u.world) all;
      holds = subst (λ (u : Host). IsFed q k x.values.rest.commit u) (sym (ap (λ (u : Hosted). u.hosts m) all ∙ host-here h m g)) (z, refl, least x.values.rest.commit (length (pushed size (feed_of q k).fed x.durable.log)) (omega (arith, whole, fits)));
    }

-- the first so many
abbrev pub AreFed : Host → ℕ → ℕ → Host → Type 0
AreFed q j commit g = (length g.feeds ≡ length q.feeds) × ((k : ℕ) → k < j → (feed_of g k).published ≡ commit)

fed-all : (n : ℕ) (kinds : List Kind) (w : RunWorld) (m j : ℕ) (role : Option ℤ) → n ≤ 5 → length kinds ≤ 3 → (lawful : Lawful n kinds w) → m < length w.seats → (seat w m).member.up ≡ true → (seat w m).phase ≡ Goes role false
    → j ≤ length ((explains n kinds lawful.taken).hosts m).feeds → Again n kinds w lawful m (AreFed ((explains n kinds lawful.taken).hosts m) j (member (explains n kinds lawful.taken).world m).values.rest.commit)
fed-all n kinds w m zero role five three lawful l up goes within = record { again = lawful; world = refl; holds = (refl, λ k lt. absurd (omega (arith, lt))) }
fed-all n kinds w m (suc j) role five three lawful l up goes within =
    let q = (explains n kinds lawful.taken).hosts m in
    let commit = (member (explains n kinds lawful.taken).world m).values.rest.commit in
    let before = fed-all n kinds w m j role five three lawful l up goes (omega (arith, within)) in
    let p = (explains n kinds before.again.taken).hosts m in
    let size = before.holds.0 in
    let inside : j < length p.feeds = omega (arith, size, within) in
    let next = feed-one n kinds w m j role five three before.again l up goes inside in
    let g = (explains n kinds next.again.taken).hosts m in
    let z = next.holds.0 in
    let same : (member (explains n kinds before.again.taken).world m).values.rest.commit ≡ commit = ap (λ (u : World). (member u m).values.rest.commit) before.world in
    record {
      again = next.again;
      world = next.world ∙ before.world;
      holds = (
        ap length next.holds.1 ∙ length-set p.feeds j z ∙ size,
        λ k lt.
            ap (λ (fs : List Feeding). (slice_index_or fs k no_feed).published) next.holds.1
            ∙ elim (cases_eq k j) [
              | inl e ↦ ap (λ (u : ℕ). (slice_index_or (set p.feeds j z) u no_feed).published) e ∙ ap (λ (u : Feeding). u.published) (get_or-set_same p.feeds j z no_feed inside) ∙ next.holds.2 ∙ same
              | inr ne ↦ ap (λ (u : Feeding). u.published) (get_or-set_other p.feeds j k z no_feed ne) ∙ before.holds.1 k (smaller k j lt ne)
            ],
      );
    }
  where
    smaller : (k j : ℕ) → k < suc j → k ≢ j → k < j
    smaller k j lt ne = omega (arith, lt, ne)

all-published : (c : ℕ) (zs : List Feeding) → ((k : ℕ) → k < length zs → (slice_index_or zs k no_feed).published ≡ c) → all_published c zs ≡ true
all-published c [] f = refl
all-published c (z ∷ zs) f = both (nat_eq z.published c) (all_published c zs) (let e = f 0 (omega arith) in grind (arith, nat_tests, e)) (all-published c zs (λ k lt. f (suc k) (omega (arith, lt))))

-- ---- a member whose phase lets its calls through

-- a row may be made of it
pub record Ready (n : ℕ) (kinds : List Kind) (w : RunWorld) (lawful : Lawful n kinds w) (m : ℕ) : Type 0 where
  pub again : Lawful n kinds w
  pub world : (explains n kinds again.taken).world ≡ (explains n kinds lawful.taken).world
  pub lets : lets_at (explains n kinds again.taken) m ≡ true

pub calls-ready : (n : ℕ) (kinds : List Kind) (w : RunWorld) (m : ℕ) → n ≤ 5 → length kinds ≤ 3 → (lawful : Lawful n kinds w) → m < length w.seats → (seat w m).member.up ≡ true → lets_calls (seat w m).phase ≡ true → Ready n kinds w lawful m
calls-ready n kinds w m five three lawful l up lets = at (seat w m).phase refl lets
  where
    at : (p : Phase) → (seat w m).phase ≡ p → lets_calls p ≡ true → Ready n kinds w lawful m
    at Rests e b =
        let h = explains n kinds lawful.taken in
        record { again = lawful; world = refl; lets = ap (λ (z : Stage). lets_rows (member h.world m) (h.hosts m) z) (idle-there h w m lawful.shows e) }
    at (Goes role true) e b = absurd (cc)
    at (Ends role upto due) e b = absurd (cc)
    at (Goes role false) e b =
        let q = (explains n kinds lawful.taken).hosts m in
        let fed = fed-all n kinds w m (length q.feeds) role five three lawful l up e (omega arith) in
        let h = explains n kinds fed.again.taken in
        let g = h.hosts m in
        let phase = going-there h w m role false fed.again.shows e in
        let size = fed.holds.0 in
        let same : (member h.world m).values.rest.commit ≡ (member (explains n kinds lawful.taken).world m).values.rest.commit = ap (λ (u : World). (member u m).values.rest.commit) fed.world in
        record {
          again = fed.again;
          world = fed.world;
          lets = ap (λ (z : Stage). lets_rows (member h.world m) g z) phase.0 ∙ all-published (member h.world m).values.rest.commit g.feeds (λ k lt. fed.holds.1 k (omega (arith, lt, size)) ∙ sym same);
        }
