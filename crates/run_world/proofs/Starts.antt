-- Starts, stops and what strikes a snapshot: one turn of the world of steps each, or none.
use Rattle.std.proofs.Common.{◌≡◌, ◌≢◌, inl, inr, ℕ, ◌<◌, ◌≤◌, Bool, true, false, ◌&&◌, not, List, [], ◌∷◌, ◌++◌, length, set, map, take, replicate, Option, refl, sym, ap, ◌∙◌, subst, arith, ℤ, negsuc, ◌≤ℤ◌, if◌then◌else◌, get_or-set_same, get_or-set_other}
use Rattle.std.specs.Prelude.{nat_lt}
use Rattle.std.proofs.Math.Seq.{map-set_same}
use Rattle.std.proofs.lemmas.Int.{ints}
use Rattle.std.proofs.lemmas.Bool.{cases_eq, cases_lt}
use Rattle.std.proofs.lemmas.Bool.Decides.{nat_tests}
use Rattle.std.proofs.lemmas.List.{get_or_past}
use Rattle.entry_log.specs.Durable.{first_commit, fresh}
use Rattle.entry_log.specs.Log.{Log}
use Rattle.election.specs.Rows.{begins}
use Rattle.service_api.specs.declared.shipped.Kind.{Kind}
use Rattle.consensus_core.specs.Fit.{IsFit, IsTerm}
use Rattle.consensus_core.specs.Member.{Member, Run, Cut, Whole, Before, After, stopped, starts, stops, invalidates}
use Rattle.world.specs.World.{World, Step, Stops, member, becomes, is_stopped}
use Rattle.world.proofs.Rows.{and_true}
use Rattle.service_runs.specs.Hosts.{Rules, Host, Hosted, Rows, Mounts, Drops, follow, noted, begun as begun_host}
use Rattle.one_log.specs.Led.{Turn, Acts, turn, turns, led}
use Rattle.one_log.specs.Ruled.{rules_of}
use Rattle.one_log.proofs.Turns.{Stays, stays}
use Rattle.run_world.specs.Seat.{Seat, Fate, Phase, first_seat, begun, failed, started, rested, struck}
use Rattle.run_world.specs.RunWorld.{RunWorld, seat, put as here, is_down, committed}
use Rattle.run_world.specs.Lawful.{IsSpelled, IsLeader, IsHost, IsPhase, member_of, Shows, Lawful}
use Rattle.run_world.proofs.Printed.{longer-short}
use Rattle.run_world.proofs.Rows.{both, halts-host, lawful-more, runs-there}
use Rattle.run_world.proofs.Shown.{IsChange, commit-within, member-shown, count-shown, put-shows}
use Rattle.run_world.proofs.Spelled.{put-spelled}

-- ---- a change without a row, of a member that no service's queue waits for

pub put-change : (w : World) (m : ℕ) (y : Member) → IsChange w (becomes w m y) m y []
put-change w m y = record { now = refl; members = refl; sent = refl }

-- a world in which m is y, where the turn makes it
pub put-lifts : (n : ℕ) (kinds : List Kind) (w : RunWorld) (m : ℕ) (y : Member) (s' : Seat) (t : Turn) (lawful : Lawful n kinds w) → n ≤ 5 → length kinds ≤ 3 → m < length w.seats
    → (turn kinds (rules_of kinds) (turns kinds (rules_of kinds) (led n) lawful.taken) t).hosted ≡ noted (rules_of kinds) (turns kinds (rules_of kinds) (led n) lawful.taken).hosted (becomes (turns kinds (rules_of kinds) (led n) lawful.taken).hosted.world m y)
    → s'.member ≡ y → IsHost (follow (rules_of kinds) (member (turns kinds (rules_of kinds) (led n) lawful.taken).hosted.world m) y ((turns kinds (rules_of kinds) (led n) lawful.taken).hosted.hosts m)) s'
    → (y.up ≡ true → IsFit y.values.election) → ((k : ℕ) → y.up ≡ true → IsLeader k y.values.election.leader) → IsTerm y.durable.candidate → Lawful n kinds (here m s' [] w)
put-lifts n kinds w m y s' t lawful five three l is same host fit leads kept =
    let r = rules_of kinds in
    let d = turns kinds r (led n) lawful.taken in
    let h = d.hosted in
    let st : Stays n kinds r d = stays n kinds r lawful.taken five three in
    let count = count-shown h w lawful.shows in
    let spelled : IsSpelled (becomes h.world m y) = put-spelled h.world m y [] [] [] (omega (arith, l, count)) fit (leads (length h.world.members)) kept tt tt lawful.shows.spelled in
    lawful-more n kinds w (here m s' [] w) lawful t (noted r h (becomes h.world m y)) is
    (put-shows r h w (becomes h.world m y) m y [] s' (λ j. commit-within n r h j st.held) lawful.shows l (put-change h.world m y) same host spelled)

-- ---- a seat alone changes, and what it shows doesn't

pub same-lifts : (n : ℕ) (kinds : List Kind) (w : RunWorld) (m : ℕ) (s' : Seat) (lawful : Lawful n kinds w) → n ≤ 5 → length kinds ≤ 3 → m < length w.seats
    → s'.member ≡ (seat w m).member → s'.run ≡ (seat w m).run → s'.applied ≡ (seat w m).applied → s'.ended ≡ (seat w m).ended → s'.phase ≡ (seat w m).phase → Lawful n kinds (here m s' [] w)
same-lifts n kinds w m s' lawful five three l member' run' applied' ended' phase' =
    let r = rules_of kinds in
    let d = turns kinds r (led n) lawful.taken in
    let h = d.hosted in
    let st : Stays n kinds r d = stays n kinds r lawful.taken five three in
    let s = lawful.shows in
    record {
      taken = lawful.taken;
      shows = record {
        now = s.now;
        members = s.members ∙ sym (map-set_same member_of w.seats m s' first_seat member');
        hosts = λ j. elim (cases_eq j m) [
          | inl same ↦ subst (λ (k : ℕ). IsHost (h.hosts k) (seat (here m s' [] w) k)) (sym same)
              (subst (λ (z : Seat). IsHost (h.hosts m) z) (sym (get_or-set_same w.seats m s' first_seat l))
              (let i = s.hosts m in record { run = i.run ∙ sym run'; applied = i.applied ∙ sym applied'; past = i.past ∙ sym ended'; phase = subst (λ (p : Phase). IsPhase p (h.hosts m)) (sym phase') i.phase }))
          | inr other ↦ subst (λ (z : Seat). IsHost (h.hosts j) z) (sym (get_or-set_other w.seats m j s' first_seat other)) (s.hosts j)
        ];
        outputs = s.outputs;
        printed = s.printed ∙ sym (longer-short w.printed (committed s'.member)
            (subst (λ (x : Member). length (committed x) ≤ length w.printed) (sym (member'))
            (subst (λ (x : Member). length (committed x) ≤ length w.printed) (member-shown h w m s) (subst (λ (p : Log). length (committed (member h.world m)) ≤ length p) s.printed (commit-within n r h m st.held)))));
        flown = s.flown;
        spelled = s.spelled;
      };
    }

-- ---- starts

pub down-parts : (w : RunWorld) (m : ℕ) → is_down w m ≡ true → (m < length w.seats) × ((seat w m).member.up ≡ false)
down-parts w m h = let p = and_true (nat_lt m (length w.seats)) (not (seat w m).member.up) h in ((let q = p.0 in grind (arith, nat_tests, q)), off (seat w m).member.up p.1)
  where
    off : (b : Bool) → not b ≡ true → b ≡ false
    off true e = absurd (cc)
    off false e = refl

stopped-there : (h : Hosted) (w : RunWorld) (m : ℕ) → Shows h w → m < length w.seats → (seat w m).member.up ≡ false → is_stopped h.world m ≡ true
stopped-there h w m s l off =
    let count = count-shown h w s in
    let inside : nat_lt m (length h.world.members) ≡ true = grind (arith, nat_tests, l, count) in
    both (nat_lt m (length h.world.members)) (not (member h.world m).up) inside (ap (λ (x : Member). not x.up) (member-shown h w m s) ∙ ap not off)

begins-fit : (id members : ℕ) (candidate : ℤ) (voted : Option ℕ) → id < members → members ≤ 5 → IsTerm candidate → IsFit (begins id members candidate voted)
begins-fit id members candidate voted l five t = record {
  members = five;
  id = l;
  candidate = t;
  term = record { low = omega (arith, ints); high = omega (arith, ints) };
  balloting = λ b. absurd (cc);
  reigning = λ b. absurd (cc);
}

start-host : (r : Rules) (x y : Member) (services m members : ℕ) (f : Fate) (h : Host) (s : Seat) → x.up ≡ false → services ≡ r.services → y ≡ starts m members services s.member.durable → IsHost h s → IsHost (follow r x y h) (begun y services f s)
start-host r x y services m members f h s off same is i =
    let up : y.up ≡ true = ap (λ (z : Member). z.up) is in
    let e : follow r x y h ≡ begun_host r y h.past = rw (up, off) refl in
    let commit : y.values.rest.commit ≡ first_commit services y.durable = ap (λ (z : Member). z.values.rest.commit) is ∙ sym (ap (λ (z : Member). first_commit services z.durable) is) in
    subst (λ (z : Host). IsHost z (begun y services f s)) (sym e) (record {
      run = ap (λ (k : ℕ). record { first = k; inputs = replicate r.services (take k y.durable.log) }) commit ∙ ap (λ (k : ℕ). record { first = first_commit services y.durable; inputs = replicate k (take (first_commit services y.durable) y.durable.log) }) (sym same);
      applied = commit;
      past = i.past;
      phase = refl;
    })

pub start-lifts : (n : ℕ) (kinds : List Kind) (w : RunWorld) (m : ℕ) (f : Fate) (c : Cut) → n ≤ 5 → length kinds ≤ 3 → Lawful n kinds w → m < length w.seats → (seat w m).member.up ≡ false
    → Lawful n kinds (here m (started m (length w.seats) (length kinds) f c (seat w m)) [] w)
start-lifts n kinds w m f Before five three lawful l off = same-lifts n kinds w m (failed (seat w m).member f.own (seat w m)) lawful five three l refl refl refl refl refl
start-lifts n kinds w m f After five three lawful l off = same-lifts n kinds w m (failed (seat w m).member f.own (seat w m)) lawful five three l refl refl refl refl refl
start-lifts n kinds w m f Whole five three lawful l off =
    let r = rules_of kinds in
    let d = turns kinds r (led n) lawful.taken in
    let h = d.hosted in
    let st : Stays n kinds r d = stays n kinds r lawful.taken five three in
    let s = lawful.shows in
    let count = count-shown h w s in
    let total = st.held.inv.count in
    let ex = member-shown h w m s in
    let k = length kinds in
    let y = starts m (length w.seats) k (seat w m).member.durable in
    let there : starts m (length h.world.members) k (member h.world m).durable ≡ y = ap (λ (z : ℕ). starts m z k (member h.world m).durable) count ∙ ap (λ (x : Member). starts m (length w.seats) k x.durable) ex in
    let kept : IsTerm (seat w m).member.durable.candidate = subst (λ (x : Member). IsTerm x.durable.candidate) ex (s.spelled.kept m) in
    put-lifts n kinds w m y (begun y k f (seat w m)) (Acts (Mounts m)) lawful five three l
    (ap (λ (b : Bool). noted r h (if b then becomes h.world m (starts m (length h.world.members) k (member h.world m).durable) else h.world)) (stopped-there h w m s l off) ∙ ap (λ (x : Member). noted r h (becomes h.world m x)) there)
    refl
    (start-host r (member h.world m) y k m (length w.seats) f (h.hosts m) (seat w m) (ap (λ (x : Member). x.up) ex ∙ off) refl refl (s.hosts m))
    (λ up. begins-fit m (length w.seats) (seat w m).member.durable.candidate (seat w m).member.durable.voted l (omega (arith, five, count, total)) kept)
    (λ k' up. tt)
    kept

-- ---- stops

pub stop-lifts : (n : ℕ) (kinds : List Kind) (w : RunWorld) (m own : ℕ) → n ≤ 5 → length kinds ≤ 3 → Lawful n kinds w → m < length w.seats → (seat w m).member.up ≡ true → Lawful n kinds (here m (rested own (seat w m)) [] w)
stop-lifts n kinds w m own five three lawful l up =
    let r = rules_of kinds in
    let d = turns kinds r (led n) lawful.taken in
    let h = d.hosted in
    let s = lawful.shows in
    let ex = member-shown h w m s in
    let y = stops (seat w m).member in
    put-lifts n kinds w m y (rested own (seat w m)) (Acts (Rows (Stops m))) lawful five three l
    (ap (λ (b : Bool). noted r h (if b then becomes h.world m (stops (member h.world m)) else h.world)) (runs-there h w m s l up) ∙ ap (λ (x : Member). noted r h (becomes h.world m (stops x))) ex)
    refl
    (halts-host r (member h.world m) y own (h.hosts m) (seat w m) (ap (λ (x : Member). x.up) ex ∙ up) refl (s.hosts m))
    (λ b. absurd (cc))
    (λ k' b. absurd (cc))
    (subst (λ (x : Member). IsTerm x.durable.candidate) ex (s.spelled.kept m))

-- ---- what strikes a snapshot

still-down : (r : Rules) (x y : Member) (h : Host) (s s' : Seat) → x.up ≡ false → y.up ≡ false → s'.run ≡ s.run → s'.applied ≡ s.applied → s'.ended ≡ s.ended → s'.phase ≡ s.phase → IsHost h s → IsHost (follow r x y h) s'
still-down r x y h s s' off off' run' applied' ended' phase' i =
    let e : follow r x y h ≡ h = rw (off', off) refl in
    subst (λ (z : Host). IsHost z s') (sym e) (record { run = i.run ∙ sym run'; applied = i.applied ∙ sym applied'; past = i.past ∙ sym ended'; phase = subst (λ (p : Phase). IsPhase p h) (sym phase') i.phase })

strikes : (n : ℕ) (kinds : List Kind) (w : RunWorld) (m : ℕ) (s' : Seat) → n ≤ 5 → length kinds ≤ 3 → Lawful n kinds w → m < length w.seats → (seat w m).member.up ≡ false
    → s'.member ≡ invalidates (length kinds) (seat w m).member → s'.run ≡ (seat w m).run → s'.applied ≡ (seat w m).applied → s'.ended ≡ (seat w m).ended → s'.phase ≡ (seat w m).phase → Lawful n kinds (here m s' [] w)
strikes n kinds w m s' five three lawful l off is run' applied' ended' phase' =
    let r = rules_of kinds in
    let d = turns kinds r (led n) lawful.taken in
    let h = d.hosted in
    let s = lawful.shows in
    let ex = member-shown h w m s in
    let k = length kinds in
    let y = invalidates k (seat w m).member in
    put-lifts n kinds w m y s' (Acts (Drops m)) lawful five three l
    (ap (λ (b : Bool). noted r h (if b then becomes h.world m (invalidates k (member h.world m)) else h.world)) (stopped-there h w m s l off) ∙ ap (λ (x : Member). noted r h (becomes h.world m (invalidates k x))) ex)
    is
    (still-down r (member h.world m) y (h.hosts m) (seat w m) s' (ap (λ (x : Member). x.up) ex ∙ off) refl run' applied' ended' phase' (s.hosts m))
    (λ b. absurd (cc))
    (λ k' b. absurd (cc))
    (subst (λ (x : Member). IsTerm x.durable.candidate) ex (s.spelled.kept m))

pub strike-lifts : (n : ℕ) (kinds : List Kind) (w : RunWorld) (m : ℕ) (f : Fate) (c : Cut) → n ≤ 5 → length kinds ≤ 3 → Lawful n kinds w → m < length w.seats → (seat w m).member.up ≡ false
    → Lawful n kinds (here m (struck (length kinds) f c (seat w m)) [] w)
strike-lifts n kinds w m f Whole five three lawful l off = strikes n kinds w m (struck (length kinds) f Whole (seat w m)) five three lawful l off refl refl refl refl refl
strike-lifts n kinds w m f After five three lawful l off = strikes n kinds w m (struck (length kinds) f After (seat w m)) five three lawful l off refl refl refl refl refl
strike-lifts n kinds w m f Before five three lawful l off = same-lifts n kinds w m (failed (seat w m).member f.own (seat w m)) lawful five three l refl refl refl refl refl
