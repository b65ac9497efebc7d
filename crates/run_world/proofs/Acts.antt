-- Each act of a run is one turn of the world of steps at most, so what is safe there is safe in every run.
use Rattle.std.proofs.Common.{◌≡◌, ℕ, zero, suc, ◌<◌, ◌≤◌, ◌*◌, ◌^◌, Bool, true, false, ◌&&◌, List, [], ◌∷◌, length, map, replicate, Option, Some, refl, sym, ap, ◌∙◌, subst, arith, ℤ, if◌then◌else◌}
use Rattle.std.specs.Prelude.{Contains, nat_lt, nat_le, slice_get, slice_index_or}
use Rattle.std.proofs.lemmas.Int.{ints}
use Rattle.std.proofs.lemmas.Bool.Decides.{nat_tests}
use Rattle.std.proofs.lemmas.List.{length-replicate}
use Rattle.entry_log.specs.Durable.{SnapshotSet, latest_set, fresh}
use Rattle.entry_log.specs.Log.{Log, IsPrefixOf}
use Rattle.service_api.specs.declared.shipped.Kind.{Kind}
use Rattle.module_state.specs.Entries.{IsWellFormedOn, events_in}
use Rattle.consensus_core.specs.Fit.{IsFit, IsTerm}
use Rattle.consensus_core.specs.Member.{Member, Sent, Run, stopped, may_take}
use Rattle.network.specs.Net.{with_link_cut, lost_between, replayed, link_place}
use Rattle.world.specs.World.{World, Passes, member, step, formatted}
use Rattle.world.proofs.Effects.{if-cases, none_in}
use Rattle.world.proofs.Rows.{and_true}
use Rattle.agreement.proofs.Runs2.{all-fresh}
use Rattle.service_runs.specs.Hosts.{Rules, Host, Hosted, Output, Rows, all_reach, noted, no_host, hosted}
use Rattle.service_runs.proofs.Statements.{inputs-hold, printed-holds, outputs-hold}
use Rattle.one_log.specs.Formed.{EventsStand}
use Rattle.one_log.specs.Led.{Led, Turn, Acts, turn, turns, led, goes_on}
use Rattle.one_log.specs.Ruled.{rules_of}
use Rattle.one_log.proofs.Named.{leaders-named}
use Rattle.one_log.proofs.Records.{starts-restore}
use Rattle.one_log.proofs.Turns.{Stays, stays, logs-formed, events-stand}
use Rattle.run_world.specs.Seat.{Seat, Fate, Phase, Rests, Goes, Ends, first_seat, fused, is_going, is_resting}
use Rattle.run_world.specs.RunWorld.{RunWorld, Act, seat, first_world, is_up, is_down, is_free, may_ask, hears, passes, closes, writes, sends, does, after_acts}
use Rattle.run_world.specs.RunWorld.{Passes as PassesAct, Hands, Duty, Asks, Hears, Starts, Stops, Fails, Invalidates, Fuses, Begins, Takes, Closes, Writes, Sends, Cuts, Heals, Loses, Replays}
use Rattle.run_world.specs.Lawful.{IsSpelled, IsLeader, IsHost, member_of, Shows, Lawful}
use Rattle.run_world.specs.Headline.{IsOwedIn, BeginsFrom, Headline}
use Rattle.run_world.proofs.Flown.{flown-more, flown-cut, flown-lost, flown-again, none-kept}
use Rattle.run_world.proofs.Printed.{prints-none}
use Rattle.run_world.proofs.Shown.{commit-within, still-host, member-shown, count-shown}
use Rattle.run_world.proofs.Rows.{lawful-more, up-parts, free-parts}
use Rattle.run_world.proofs.Calls.{net-lifts, duty-call, ask-call, hands-lift}
use Rattle.run_world.proofs.Phases.{begin-lifts, take-lifts, close-lifts, write-lifts, send-lifts}
use Rattle.run_world.proofs.Starts.{down-parts, same-lifts, start-lifts, stop-lifts, strike-lifts}

-- ---- the beginning

first-seat : (n m : ℕ) → slice_index_or (replicate n first_seat) m first_seat ≡ first_seat
first-seat zero m = refl
first-seat (suc n) zero = refl
first-seat (suc n) (suc m) = first-seat n m

first-members : (n : ℕ) → replicate n (stopped fresh) ≡ map member_of (replicate n first_seat)
first-members zero = refl
first-members (suc n) = ap (λ (xs : List Member). stopped fresh ∷ xs) (first-members n)

first-spelled : (n : ℕ) → IsSpelled (formatted n)
first-spelled n = record {
  fit = λ m. subst (λ (x : Member). x.up ≡ true → IsFit x.values.election) (sym (all-fresh n m)) (λ up. absurd (cc));
  leads = λ m. subst (λ (x : Member). x.up ≡ true → IsLeader (length (replicate n (stopped fresh))) x.values.election.leader) (sym (all-fresh n m)) (λ up. absurd (cc));
  to = λ s has. absurd (none_in s has);
  kept = λ m. subst (λ (x : Member). IsTerm x.durable.candidate) (sym (all-fresh n m)) (record { low = omega (arith, ints); high = omega (arith, ints) });
  sent = λ s has. absurd (none_in s has);
}

pub first-lawful : (n : ℕ) (kinds : List Kind) → Lawful n kinds (first_world n)
first-lawful n kinds = record {
  taken = [];
  shows = record {
    now = refl;
    members = first-members n;
    hosts = λ m. subst (λ (s : Seat). IsHost no_host s) (sym (first-seat n m)) (record { run = refl; applied = refl; past = refl; phase = refl });
    outputs = refl;
    printed = refl;
    flown = record { count = sym (length-replicate n (stopped fresh)); round = tt; later = tt; kept = λ a b l. none-kept _ (n * n) (link_place n a b) };
    spelled = first-spelled n;
  };
}

-- ---- time

passes-shows : (n : ℕ) (kinds : List Kind) (w : RunWorld) (now : ℕ) → n ≤ 5 → length kinds ≤ 3 → Lawful n kinds w → nat_le now (2 ^ 60) ≡ true → nat_lt w.now now ≡ true
    → Lawful n kinds (record { now = now; seats = w.seats; net = w.net; records = w.records; printed = w.printed })
passes-shows n kinds w now five three lawful early later =
    let r = rules_of kinds in
    let d = turns kinds r (led n) lawful.taken in
    let h = d.hosted in
    let st : Stays n kinds r d = stays n kinds r lawful.taken five three in
    let s = lawful.shows in
    let v = step h.world (Passes now) in
    lawful-more n kinds w _ lawful (Acts (Rows (Passes now))) (noted r h v)
    (ap (λ (b : Bool). (if b then goes_on r d (Rows (Passes now)) else d).hosted) early)
    (record {
      now = ap (λ (b : Bool). if b then now else h.world.now) (ap (λ (k : ℕ). nat_lt k now) s.now ∙ later);
      members = s.members;
      hosts = λ m. still-host r (member h.world m) (h.hosts m) (seat w m) (s.hosts m);
      outputs = s.outputs;
      printed = prints-none v (length h.world.members) h.printed (λ j. commit-within n r h j st.held) ∙ s.printed;
      flown = flown-more h.world v w.net refl (λ p has. has) s.flown;
      spelled = record { fit = s.spelled.fit; leads = s.spelled.leads; kept = s.spelled.kept; sent = s.spelled.sent; to = s.spelled.to };
    })

time-lifts : (n : ℕ) (kinds : List Kind) (w : RunWorld) (now : ℕ) → n ≤ 5 → length kinds ≤ 3 → Lawful n kinds w → Lawful n kinds (passes now w)
time-lifts n kinds w now five three lawful =
    if-cases (λ (k : ℕ). Lawful n kinds (record { now = k; seats = w.seats; net = w.net; records = w.records; printed = w.printed })) (nat_le now (2 ^ 60) && nat_lt w.now now) now w.now
    (λ b. let p = and_true (nat_le now (2 ^ 60)) (nat_lt w.now now) b in passes-shows n kinds w now five three lawful p.0 p.1)
    (λ b. lawful)

-- ---- phases

going-role : (p : Phase) → is_going p ≡ true → (role : Option ℤ) × (over : Bool) × (p ≡ Goes role over)
going-role Rests e = absurd (cc)
going-role (Goes role over) e = (role, over, refl)
going-role (Ends role upto due) e = absurd (cc)

at-rest : (p : Phase) → is_resting p ≡ true → p ≡ Rests
at-rest Rests e = refl
at-rest (Goes role over) e = absurd (cc)
at-rest (Ends role upto due) e = absurd (cc)

closes-lift : (n : ℕ) (kinds : List Kind) (w : RunWorld) (m : ℕ) → n ≤ 5 → length kinds ≤ 3 → Lawful n kinds w → m < length w.seats → (seat w m).member.up ≡ true → (p : Phase) → (seat w m).phase ≡ p → Lawful n kinds (closes (rules_of kinds) m p w)
closes-lift n kinds w m five three lawful l up Rests e = lawful
closes-lift n kinds w m five three lawful l up (Ends role upto due) e = lawful
closes-lift n kinds w m five three lawful l up (Goes role over) e =
    if-cases (Lawful n kinds) (all_reach (seat w m).member.values.rest.commit (seat w m).run.inputs) _ _ (λ b. close-lifts n kinds w m role over five three lawful l up e b) (λ b. lawful)

writes-lift : (n : ℕ) (kinds : List Kind) (w : RunWorld) (m : ℕ) (f : Fate) → n ≤ 5 → length kinds ≤ 3 → Lawful n kinds w → m < length w.seats → (seat w m).member.up ≡ true → (p : Phase) → (seat w m).phase ≡ p → Lawful n kinds (writes m p f w)
writes-lift n kinds w m f five three lawful l up Rests e = lawful
writes-lift n kinds w m f five three lawful l up (Goes role over) e = lawful
writes-lift n kinds w m f five three lawful l up (Ends role upto []) e = lawful
writes-lift n kinds w m f five three lawful l up (Ends role upto (d ∷ due)) e = write-lifts n kinds w m role upto d due f five three lawful l up e

sends-lift : (n : ℕ) (kinds : List Kind) (w : RunWorld) (m : ℕ) → n ≤ 5 → length kinds ≤ 3 → Lawful n kinds w → m < length w.seats → (seat w m).member.up ≡ true → (p : Phase) → (seat w m).phase ≡ p → Lawful n kinds (sends (rules_of kinds) m p w)
sends-lift n kinds w m five three lawful l up Rests e = lawful
sends-lift n kinds w m five three lawful l up (Goes role over) e = lawful
sends-lift n kinds w m five three lawful l up (Ends role upto (d ∷ due)) e = lawful
sends-lift n kinds w m five three lawful l up (Ends role upto []) e = send-lifts n kinds w m role upto five three lawful l up e

-- ---- every act

pub act-lifts : (n : ℕ) (kinds : List Kind) (w : RunWorld) (a : Act) → n ≤ 5 → length kinds ≤ 3 → Lawful n kinds w → Lawful n kinds (does kinds w a)
act-lifts n kinds w (PassesAct now) five three lawful = time-lifts n kinds w now five three lawful
act-lifts n kinds w (Hands f) five three lawful = hands-lift n kinds w f five three lawful
act-lifts n kinds w (Duty m f) five three lawful =
    if-cases (Lawful n kinds) (is_free w m) _ _ (λ b. let p = free-parts w m b in duty-call n kinds w m f five three lawful p.0 p.1 p.2) (λ b. lawful)
act-lifts n kinds w (Asks m e fits f) five three lawful =
    if-cases (Lawful n kinds) (is_free w m && may_ask kinds (seat w m) w.now e) _ _
    (λ b. let q = and_true (is_free w m) (may_ask kinds (seat w m) w.now e) b in let p = free-parts w m q.0 in ask-call n kinds w m e fits f five three lawful p.0 p.1 p.2 q.1) (λ b. lawful)
act-lifts n kinds w (Hears m session) five three lawful =
    if-cases (Lawful n kinds) (nat_lt m (length w.seats)) _ _ (λ b. same-lifts n kinds w m (hears session w.now (seat w m)) lawful five three (grind (arith, nat_tests, b)) refl refl refl refl refl) (λ b. lawful)
act-lifts n kinds w (Starts m f) five three lawful =
    if-cases (Lawful n kinds) (is_down w m) _ _ (λ b. let p = down-parts w m b in start-lifts n kinds w m f f.cut five three lawful p.0 p.1) (λ b. lawful)
act-lifts n kinds w (Stops m) five three lawful =
    if-cases (Lawful n kinds) (is_up w m) _ _ (λ b. let p = up-parts w m b in stop-lifts n kinds w m (seat w m).faults.own five three lawful p.0 p.1) (λ b. lawful)
act-lifts n kinds w (Fails m own) five three lawful =
    if-cases (Lawful n kinds) (is_up w m) _ _ (λ b. let p = up-parts w m b in stop-lifts n kinds w m own five three lawful p.0 p.1) (λ b. lawful)
act-lifts n kinds w (Invalidates m f) five three lawful =
    if-cases (Lawful n kinds) (is_down w m) _ _ (λ b. let p = down-parts w m b in strike-lifts n kinds w m f f.cut five three lawful p.0 p.1) (λ b. lawful)
act-lifts n kinds w (Fuses m calls choice) five three lawful =
    if-cases (Lawful n kinds) (nat_lt m (length w.seats)) _ _ (λ b. same-lifts n kinds w m (fused calls choice (seat w m)) lawful five three (grind (arith, nat_tests, b)) refl refl refl refl refl) (λ b. lawful)
act-lifts n kinds w (Begins m) five three lawful =
    if-cases (Lawful n kinds) (is_up w m && is_resting (seat w m).phase) _ _
    (λ b. let q = and_true (is_up w m) (is_resting (seat w m).phase) b in let p = up-parts w m q.0 in begin-lifts n kinds w m five three lawful p.0 p.1 (at-rest (seat w m).phase q.1)) (λ b. lawful)
act-lifts n kinds w (Takes m k) five three lawful =
    if-cases (Lawful n kinds) (is_up w m && (is_going (seat w m).phase && (nat_lt k (length kinds) && may_take (seat w m).member (seat w m).run k))) _ _
    (λ b.
    let p = and_true (is_up w m) (is_going (seat w m).phase && (nat_lt k (length kinds) && may_take (seat w m).member (seat w m).run k)) b in
    let q = and_true (is_going (seat w m).phase) (nat_lt k (length kinds) && may_take (seat w m).member (seat w m).run k) p.1 in
    let u = and_true (nat_lt k (length kinds)) (may_take (seat w m).member (seat w m).run k) q.1 in
    let l = up-parts w m p.0 in
    let goes = going-role (seat w m).phase q.0 in
    take-lifts n kinds w m k goes.0 goes.1 five three lawful l.0 l.1 goes.2 u.0 u.1)
    (λ b. lawful)
act-lifts n kinds w (Closes m) five three lawful =
    if-cases (Lawful n kinds) (is_up w m) _ _ (λ b. let p = up-parts w m b in closes-lift n kinds w m five three lawful p.0 p.1 (seat w m).phase refl) (λ b. lawful)
act-lifts n kinds w (Writes m f) five three lawful =
    if-cases (Lawful n kinds) (is_up w m) _ _ (λ b. let p = up-parts w m b in writes-lift n kinds w m f five three lawful p.0 p.1 (seat w m).phase refl) (λ b. lawful)
act-lifts n kinds w (Sends m) five three lawful =
    if-cases (Lawful n kinds) (is_up w m) _ _ (λ b. let p = up-parts w m b in sends-lift n kinds w m five three lawful p.0 p.1 (seat w m).phase refl) (λ b. lawful)
act-lifts n kinds w (Cuts from to) five three lawful = net-lifts n kinds w (with_link_cut true from to w.net) lawful (flown-cut (turns kinds (rules_of kinds) (led n) lawful.taken).hosted.world true from to w.net)
act-lifts n kinds w (Heals from to) five three lawful = net-lifts n kinds w (with_link_cut false from to w.net) lawful (flown-cut (turns kinds (rules_of kinds) (led n) lawful.taken).hosted.world false from to w.net)
act-lifts n kinds w (Loses from to) five three lawful = net-lifts n kinds w (lost_between from to w.net) lawful (flown-lost (turns kinds (rules_of kinds) (led n) lawful.taken).hosted.world from to w.net)
act-lifts n kinds w (Replays from to latest) five three lawful =
    if-cases (Lawful n kinds) (nat_lt to (length w.seats)) _ _
    (λ b. let count = count-shown (turns kinds (rules_of kinds) (led n) lawful.taken).hosted w lawful.shows in net-lifts n kinds w (replayed from to latest w.net) lawful (flown-again (turns kinds (rules_of kinds) (led n) lawful.taken).hosted.world from to latest w.net (grind (arith, nat_tests, b, count)))) (λ b. lawful)

pub acts-lift : (n : ℕ) (kinds : List Kind) (w : RunWorld) (as' : List Act) → n ≤ 5 → length kinds ≤ 3 → Lawful n kinds w → Lawful n kinds (after_acts kinds w as')
acts-lift n kinds w [] five three lawful = lawful
acts-lift n kinds w (a ∷ as') five three lawful = acts-lift n kinds (does kinds w a) as' five three (act-lifts n kinds w a five three lawful)

pub always-lawful : (n : ℕ) (kinds : List Kind) (as' : List Act) → n ≤ 5 → length kinds ≤ 3 → Lawful n kinds (after_acts kinds (first_world n) as')
always-lawful n kinds as' five three = acts-lift n kinds (first_world n) as' five three (first-lawful n kinds)

-- ---- what is promised

pub headline : (n : ℕ) (kinds : List Kind) (w : RunWorld) → n ≤ 5 → length kinds ≤ 3 → Lawful n kinds w → Headline kinds w
headline n kinds w five three lawful =
    let r = rules_of kinds in
    let d = turns kinds r (led n) lawful.taken in
    let h = d.hosted in
    let st : Stays n kinds r d = stays n kinds r lawful.taken five three in
    let s = lawful.shows in
    let logs = logs-formed n kinds r d st in
    let inputs = inputs-hold n r h st.held in
    let prints = printed-holds n r h st.held in
    let outputs = outputs-hold n r h st.held in
    let leaders = leaders-named n kinds r d st in
    let restores = starts-restore n kinds d st in
    let up-there : (m : ℕ) → (seat w m).member.up ≡ true → (member h.world m).up ≡ true = λ m up. ap (λ (x : Member). x.up) (member-shown h w m s) ∙ up in
    let has-there : (m : ℕ) (xs : Log) → Contains (seat w m).run.inputs xs → Contains (h.hosts m).run.inputs xs = λ m xs has. subst (λ (u : Run). Contains u.inputs xs) (sym (s.hosts m).run) has in
    record {
      inputs = λ m xs up has. subst (IsPrefixOf xs) s.printed (prints.lasts m xs (up-there m up) (has-there m xs has));
      ended = λ m run xs has in'. subst (IsPrefixOf xs) s.printed (prints.ended m run xs (subst (λ (u : List Run). Contains u run) (sym (s.hosts m).past) has) in');
      own = λ m xs up has.
          let q = inputs.lasts m xs (up-there m up) (has-there m xs has) in
          subst (λ (x : Member). IsPrefixOf xs x.durable.log × (length xs ≤ x.values.rest.commit)) (member-shown h w m s) (q.0, q.1);
      owed = λ o has.
          let had : Contains h.outputs o = subst (λ (u : List Output). Contains u o) (sym s.outputs) has in
          let named = leaders.named o had in
          subst (λ (p : Log). IsOwedIn kinds p o) s.printed (record { entry = named.entry; at = named.at; owed = (outputs.owed o had).owed; before = named.before; moment = named.moment; first = named.first; led = named.stands });
      once = subst (λ (u : List Output). (i j : ℕ) (o o' : Output) → slice_get u i ≡ Some o → slice_get u j ≡ Some o' → o.entry ≡ o'.entry → o.seat ≡ o'.seat → o.number ≡ o'.number → i ≡ j) s.outputs outputs.once;
      begins = λ m.
          subst (λ (x : Member). (b : SnapshotSet) → latest_set (length kinds) x.durable.snapshots ≡ Some b → BeginsFrom kinds x.durable b) (member-shown h w m s)
          (λ b e. let z = restores m b e in record { position = z.position; seats = z.seats; restored = z.restored });
      formed = subst (IsWellFormedOn kinds) s.printed logs.printed.formed;
      stand = subst (λ (p : Log). EventsStand kinds (events_in p)) s.printed (events-stand kinds h.world.now h.printed logs.printed);
    }

pub headline-always : (n : ℕ) (kinds : List Kind) (as' : List Act) → n ≤ 5 → length kinds ≤ 3 → Headline kinds (after_acts kinds (first_world n) as')
headline-always n kinds as' five three = headline n kinds (after_acts kinds (first_world n) as') five three (always-lawful n kinds as' five three)
