-- A phase of a member: its beginning, what its services consume, its end, the snapshot entries that it puts and the records that it sends.
use Rattle.std.proofs.Common.{◌≡◌, ◌≢◌, ℕ, zero, suc, ◌<◌, ◌≤◌, Bool, true, false, ◌&&◌, List, [], ◌∷◌, ◌++◌, length, set, refl, sym, ap, ◌∙◌, subst, arith, ℤ, Option, None, if◌then◌else◌, get_or-set_same, length-set}
use Rattle.std.specs.Prelude.{nat_lt, slice_index_or}
use Rattle.std.proofs.lemmas.Bool.Decides.{nat_tests}
use Rattle.std.proofs.lemmas.List.Elements.{Contains-get_or}
use Rattle.entry_log.specs.Log.{Log}
use Rattle.service_api.specs.declared.shipped.Kind.{Kind}
use Rattle.consensus_core.specs.Member.{Member, Run, Cut, Whole, Before, After, puts, with_next, may_take, service_takes, input_of}
use Rattle.world.specs.World.{World, Puts, member, becomes as world_becomes, names, is_running, step}
use Rattle.world.proofs.Rows.{and_true}
use Rattle.service_runs.specs.Hosts.{Rules, Due, Output, Host, Hosted, Stage, Idle, Taking, Over, Ending, Feeding, Opens, Takes, Closes, Writes, Sends, follow, noted, with_host, is_idle, is_taking, all_reach, input, feed_of, no_feed, opened as queues, role_of, due_in, sent_in, writes as host_writes, sends as host_sends, longer}
use Rattle.service_runs.proofs.Statements.{snaps-hold, inputs-hold}
use Rattle.one_log.specs.Led.{Acts, turn, turns, led}
use Rattle.one_log.specs.Ruled.{rules_of}
use Rattle.one_log.proofs.Turns.{Stays, stays}
use Rattle.run_world.specs.Seat.{Seat, Fate, Phase, Rests, Goes, Ends, first_seat, opened, fed, closed, written, sent as at_its_end}
use Rattle.run_world.specs.RunWorld.{RunWorld, seat, put as here, committed, with_records}
use Rattle.run_world.specs.Lawful.{IsSpelled, IsHost, IsPhase, Shows, Lawful}
use Rattle.run_world.proofs.Printed.{longer-short}
use Rattle.run_world.proofs.Queues.{committed-within, explains, feed-one, going-there, host-shows}
use Rattle.run_world.proofs.Rows.{both, becomes-host, becomes-member, idle-there, lawful-more, runs-there}
use Rattle.run_world.proofs.Shown.{AllPrinted, commit-within, member-shown, count-shown, put-shows}
use Rattle.run_world.proofs.Spelled.{put-spelled}
use Rattle.run_world.proofs.Starts.{put-change}

-- ---- a phase begins

queues-length : (xss : List Log) → length (queues xss) ≡ length xss
queues-length [] = refl
queues-length (xs ∷ xss) = ap suc (queues-length xss)

pub begin-lifts : (n : ℕ) (kinds : List Kind) (w : RunWorld) (m : ℕ) → n ≤ 5 → length kinds ≤ 3 → Lawful n kinds w → m < length w.seats → (seat w m).member.up ≡ true → (seat w m).phase ≡ Rests → Lawful n kinds (here m (opened (seat w m)) [] w)
begin-lifts n kinds w m five three lawful l up rest =
    let r = rules_of kinds in
    let d = turns kinds r (led n) lawful.taken in
    let h = d.hosted in
    let st : Stays n kinds r d = stays n kinds r lawful.taken five three in
    let s = lawful.shows in
    let i = s.hosts m in
    let q = h.hosts m in
    let g : Host = record { run = q.run; applied = q.applied; role = role_of (member h.world m); stage = Taking; feeds = queues q.run.inputs; past = q.past } in
    let guard = both (is_running h.world m) (is_idle q.stage) (runs-there h w m s l up) (ap is_idle (idle-there h w m s rest)) in
    lawful-more n kinds w (here m (opened (seat w m)) [] w) lawful (Acts (Opens m)) (with_host h m g) (ap (λ (b : Bool). if b then with_host h m g else h) guard)
    (host-shows h w m g (opened (seat w m)) (λ j. commit-within n r h j st.held) s l refl (record { run = i.run; applied = i.applied; past = i.past; phase = (refl, ap role_of (member-shown h w m s), queues-length q.run.inputs) }))

-- ---- a service consumes an entry

taking : (over : Bool) → is_taking (if over then Over else Taking) ≡ true
taking true = refl
taking false = refl

-- from a queue whose commit is published
take-one : (n : ℕ) (kinds : List Kind) (w : RunWorld) (m k : ℕ) (role : Option ℤ) (over : Bool) → n ≤ 5 → length kinds ≤ 3 → (lawful : Lawful n kinds w) → m < length w.seats → (seat w m).member.up ≡ true → (seat w m).phase ≡ Goes role over
    → nat_lt k (length kinds) ≡ true → may_take (seat w m).member (seat w m).run k ≡ true → (feed_of ((explains n kinds lawful.taken).hosts m) k).published ≡ (member (explains n kinds lawful.taken).world m).values.rest.commit → Lawful n kinds (here m (fed k (seat w m)) [] w)
take-one n kinds w m k role over five three lawful l up goes service may published =
    let r = rules_of kinds in
    let d = turns kinds r (led n) lawful.taken in
    let h = d.hosted in
    let s = lawful.shows in
    let i = s.hosts m in
    let q = h.hosts m in
    let x = member h.world m in
    let p = seat w m in
    let st : Stays n kinds r d = stays n kinds r lawful.taken five three in
    let ex : x ≡ p.member = member-shown h w m s in
    let on : x.up ≡ true = ap (λ (u : Member). u.up) ex ∙ up in
    let phase = going-there h w m role over s goes in
    let takes : is_taking q.stage ≡ true = ap is_taking phase.0 ∙ taking over in
    let parts = and_true p.member.up (nat_lt k (length p.run.inputs) && nat_lt (length (input_of p.run k)) p.member.values.rest.commit) may in
    let low = (and_true (nat_lt k (length p.run.inputs)) (nat_lt (length (input_of p.run k)) p.member.values.rest.commit) parts.1).1 in
    let same = ap (λ (u : Run). length (input_of u k)) i.run in
    let commit = ap (λ (u : Member). u.values.rest.commit) ex in
    let below : nat_lt (length (input q k)) (feed_of q k).published ≡ true = less (length (input_of p.run k)) p.member.values.rest.commit (length (input q k)) (feed_of q k).published low same (published ∙ commit) in
    let next : with_next (input q k) (feed_of q k).fed ≡ with_next (input q k) x.durable.log = (inputs-hold n r h st.held).next m k on takes (grind (arith, nat_tests, below)) in
    let g : Host = record { run = record { first = q.run.first; inputs = set q.run.inputs k (with_next (input q k) (feed_of q k).fed) }; applied = q.applied; role = q.role; stage = q.stage; feeds = q.feeds; past = q.past } in
    let guard = both (is_running h.world m) (is_taking q.stage && (nat_lt k r.services && nat_lt (length (input q k)) (feed_of q k).published)) (runs-there h w m s l up)
    (both (is_taking q.stage) (nat_lt k r.services && nat_lt (length (input q k)) (feed_of q k).published) takes (both (nat_lt k r.services) (nat_lt (length (input q k)) (feed_of q k).published) service below)) in
    lawful-more n kinds w (here m (fed k p) [] w) lawful (Acts (Takes m k)) (with_host h m g) (ap (λ (b : Bool). if b then with_host h m g else h) guard)
    (host-shows h w m g (fed k p) (λ j. commit-within n r h j st.held) s l refl (record {
      run =
          ap (λ (y : Log). record { first = q.run.first; inputs = set q.run.inputs k y }) next
          ∙ ap (λ (y : Run). record { first = y.first; inputs = set y.inputs k (with_next (input_of y k) x.durable.log) }) i.run
          ∙ ap (λ (y : Member). service_takes y k p.run) ex;
      applied = i.applied;
      past = i.past;
      phase = subst (λ (u : Phase). IsPhase u g) (sym goes) (phase.0, phase.1, phase.2 ∙ sym (length-set q.run.inputs k (with_next (input q k) (feed_of q k).fed)));
    }))
  where
    less : (a b c d : ℕ) → nat_lt a b ≡ true → c ≡ a → d ≡ b → nat_lt c d ≡ true
    less a b c d h e f = grind (arith, nat_tests, h, e, f)

-- the queue is there
queue-there : (n : ℕ) (kinds : List Kind) (w : RunWorld) (m k : ℕ) (role : Option ℤ) (over : Bool) (lawful : Lawful n kinds w) → (seat w m).phase ≡ Goes role over → may_take (seat w m).member (seat w m).run k ≡ true
    → k < length ((explains n kinds lawful.taken).hosts m).feeds
queue-there n kinds w m k role over lawful goes may =
    let h = explains n kinds lawful.taken in
    let p = seat w m in
    let parts = and_true p.member.up (nat_lt k (length p.run.inputs) && nat_lt (length (input_of p.run k)) p.member.values.rest.commit) may in
    let a = (and_true (nat_lt k (length p.run.inputs)) (nat_lt (length (input_of p.run k)) p.member.values.rest.commit) parts.1).0 in
    let same : length (h.hosts m).run.inputs ≡ length p.run.inputs = ap (λ (u : Run). length u.inputs) (lawful.shows.hosts m).run in
    let size : length (h.hosts m).feeds ≡ length (h.hosts m).run.inputs = (going-there h w m role over lawful.shows goes).2 in
    there k (length p.run.inputs) (length (h.hosts m).feeds) a (size ∙ same)
  where
    there : (a b c : ℕ) → nat_lt a b ≡ true → c ≡ b → a < c
    there a b c h e = grind (arith, nat_tests, h, e)

pub take-lifts : (n : ℕ) (kinds : List Kind) (w : RunWorld) (m k : ℕ) (role : Option ℤ) (over : Bool) → n ≤ 5 → length kinds ≤ 3 → (lawful : Lawful n kinds w) → m < length w.seats → (seat w m).member.up ≡ true → (seat w m).phase ≡ Goes role over
    → nat_lt k (length kinds) ≡ true → may_take (seat w m).member (seat w m).run k ≡ true → Lawful n kinds (here m (fed k (seat w m)) [] w)
take-lifts n kinds w m k role true five three lawful l up goes service may =
    let r = rules_of kinds in
    let h = explains n kinds lawful.taken in
    let st : Stays n kinds r (turns kinds r (led n) lawful.taken) = stays n kinds r lawful.taken five three in
    let on = ap (λ (u : Member). u.up) (member-shown h w m lawful.shows) ∙ up in
    let phase = going-there h w m role true lawful.shows goes in
    let within = queue-there n kinds w m k role true lawful goes may in
    take-one n kinds w m k role true five three lawful l up goes service may ((inputs-hold n r h st.held).over m (feed_of (h.hosts m) k) on phase.0 (Contains-get_or (h.hosts m).feeds k no_feed within))
take-lifts n kinds w m k role false five three lawful l up goes service may =
    let h = explains n kinds lawful.taken in
    let within = queue-there n kinds w m k role false lawful goes may in
    let next = feed-one n kinds w m k role five three lawful l up goes within in
    let v = explains n kinds next.again.taken in
    let z = next.holds.0 in
    let feed : (feed_of (v.hosts m) k).published ≡ (member v.world m).values.rest.commit =
    ap (λ (fs : List Feeding). (slice_index_or fs k no_feed).published) next.holds.1 ∙ ap (λ (u : Feeding). u.published) (get_or-set_same (h.hosts m).feeds k z no_feed within) ∙ next.holds.2 ∙ sym (ap (λ (u : World). (member u m).values.rest.commit) next.world) in
    take-one n kinds w m k role false five three next.again l up goes service may feed

-- ---- its end begins

pub close-lifts : (n : ℕ) (kinds : List Kind) (w : RunWorld) (m : ℕ) (role : Option ℤ) (over : Bool) → n ≤ 5 → length kinds ≤ 3 → Lawful n kinds w → m < length w.seats → (seat w m).member.up ≡ true → (seat w m).phase ≡ Goes role over
    → all_reach (seat w m).member.values.rest.commit (seat w m).run.inputs ≡ true → Lawful n kinds (here m (closed (rules_of kinds) role (seat w m)) [] w)
close-lifts n kinds w m role over five three lawful l up goes reach =
    let r = rules_of kinds in
    let d = turns kinds r (led n) lawful.taken in
    let h = d.hosted in
    let st : Stays n kinds r d = stays n kinds r lawful.taken five three in
    let s = lawful.shows in
    let i = s.hosts m in
    let q = h.hosts m in
    let x = member h.world m in
    let p = seat w m in
    let ex : x ≡ p.member = member-shown h w m s in
    let phase = going-there h w m role over s goes in
    let g : Host = record { run = q.run; applied = q.applied; role = q.role; stage = Ending x.values.rest.commit (due_in r x.durable.log q.applied x.values.rest.commit); feeds = q.feeds; past = q.past } in
    let all : all_reach x.values.rest.commit q.run.inputs ≡ true = ap (λ (u : Member). all_reach u.values.rest.commit q.run.inputs) ex ∙ ap (λ (u : Run). all_reach p.member.values.rest.commit u.inputs) i.run ∙ reach in
    let guard = both (is_running h.world m) (is_taking q.stage && all_reach x.values.rest.commit q.run.inputs) (runs-there h w m s l up) (both (is_taking q.stage) (all_reach x.values.rest.commit q.run.inputs) (ap is_taking phase.0 ∙ taking over) all) in
    lawful-more n kinds w (here m (closed r role p) [] w) lawful (Acts (Closes m)) (with_host h m g) (ap (λ (b : Bool). if b then with_host h m g else h) guard)
    (host-shows h w m g (closed r role p) (λ j. commit-within n r h j st.held) s l refl (record {
      run = i.run;
      applied = i.applied;
      past = i.past;
      phase = (ap (λ (u : Member). Ending u.values.rest.commit (due_in r u.durable.log q.applied u.values.rest.commit)) ex ∙ ap (λ (k : ℕ). Ending p.member.values.rest.commit (due_in r p.member.durable.log k p.member.values.rest.commit)) i.applied, phase.1);
    }))

-- ---- a snapshot entry is put

ending-there : (h : Hosted) (w : RunWorld) (m : ℕ) (role : Option ℤ) (upto : ℕ) (due : List Due) → Shows h w → (seat w m).phase ≡ Ends role upto due → IsPhase (Ends role upto due) (h.hosts m)
ending-there h w m role upto due s e = subst (λ (p : Phase). IsPhase p (h.hosts m)) e (s.hosts m).phase

-- what a seat becomes counts, and not what it was in between
put-put : (w : RunWorld) (m : ℕ) (s1 s2 : Seat) → length (committed s1.member) ≤ length w.printed → here m s2 [] (here m s1 [] w) ≡ here m s2 [] w
put-put w m s1 s2 few =
    ap (λ (p : Log). record { now = w.now; seats = set (set w.seats m s1) m s2; net = w.net; records = w.records; printed = longer p (committed s2.member) }) (longer-short w.printed (committed s1.member) few)
    ∙ ap (λ (ss : List Seat). record { now = w.now; seats = ss; net = w.net; records = w.records; printed = longer w.printed (committed s2.member) }) (set-twice w.seats m)
  where
    set-twice : (ss : List Seat) (k : ℕ) → set (set ss k s1) k s2 ≡ set ss k s2
    set-twice [] k = refl
    set-twice (z ∷ zs) zero = refl
    set-twice (z ∷ zs) (suc k) = ap (λ (u : List Seat). z ∷ u) (set-twice zs k)

puts-spelled : (n : ℕ) (w : World) (m : ℕ) (d : Due) (c : Cut) → m < length w.members → (member w m).up ≡ true → IsSpelled w → IsSpelled (world_becomes w m (puts d.snap c (member w m)))
puts-spelled n w m d Whole l up i = put-spelled w m _ [] [] [] l (λ z. i.fit m up) (λ z. i.leads m up) (i.kept m) tt tt i
puts-spelled n w m d Before l up i = put-spelled w m _ [] [] [] l (λ z. absurd (cc)) (λ z. absurd (cc)) (i.kept m) tt tt i
puts-spelled n w m d After l up i = put-spelled w m _ [] [] [] l (λ z. absurd (cc)) (λ z. absurd (cc)) (i.kept m) tt tt i

pub write-lifts : (n : ℕ) (kinds : List Kind) (w : RunWorld) (m : ℕ) (role : Option ℤ) (upto : ℕ) (e : Due) (due : List Due) (f : Fate) → n ≤ 5 → length kinds ≤ 3 → Lawful n kinds w → m < length w.seats → (seat w m).member.up ≡ true
    → (seat w m).phase ≡ Ends role upto (e ∷ due) → Lawful n kinds (here m (written role upto e due f (seat w m)) [] w)
write-lifts n kinds w m role upto e due f five three lawful l up ends =
    let r = rules_of kinds in
    let d = turns kinds r (led n) lawful.taken in
    let h = d.hosted in
    let st : Stays n kinds r d = stays n kinds r lawful.taken five three in
    let s = lawful.shows in
    let i = s.hosts m in
    let q = h.hosts m in
    let x = member h.world m in
    let p = seat w m in
    let ex : x ≡ p.member = member-shown h w m s in
    let on : x.up ≡ true = ap (λ (u : Member). u.up) ex ∙ up in
    let phase = ending-there h w m role upto (e ∷ due) s ends in
    let all : AllPrinted h = λ j. commit-within n r h j st.held in
    let g : Host = record { run = q.run; applied = q.applied; role = q.role; stage = Ending upto due; feeds = q.feeds; past = q.past } in
    let s1 : Seat = record p { phase = Ends role upto due } in
    let w1 : RunWorld = here m s1 [] w in
    let h1 : Hosted = with_host h m g in
    let shows1 : Shows h1 w1 = host-shows h w m g s1 all s l refl (record { run = i.run; applied = i.applied; past = i.past; phase = (refl, phase.1) }) in
    let count = count-shown h w s in
    let inside : m < length h.world.members = omega (arith, l, count) in
    let running = runs-there h w m s l up in
    let made : names e.entries e.snap x ≡ true = (snaps-hold n r h st.held).made m upto e due on phase.0 in
    let y = puts e.snap f.cut x in
    let v = world_becomes h.world m y in
    let is : (turn kinds r d (Acts (Writes m f.cut))).hosted ≡ noted r h1 v =
    ap (λ (z : Stage). host_writes r h m z f.cut) phase.0
    ∙ ap (λ (b : Bool). if b then noted r h1 (step h.world (Puts m e.entries e.snap f.cut)) else h) running
    ∙ ap (λ (b : Bool). noted r h1 (if b then v else h.world)) (both (is_running h.world m) (names e.entries e.snap x) running made) in
    let few = committed-within h w m all s in
    let here1 : (seat w1 m) ≡ s1 = get_or-set_same w.seats m s1 first_seat l in
    let size : length w1.seats ≡ length w.seats = length-set w.seats m s1 in
    let same : y ≡ puts e.snap f.cut p.member = ap (λ (u : Member). puts e.snap f.cut u) ex in
    let gone : IsHost (follow r x y (h1.hosts m)) (written role upto e due f p) =
    subst (λ (u : Member). IsHost (follow r x u (h1.hosts m)) (written role upto e due f p)) (sym same)
    (becomes-host r x (puts e.snap f.cut p.member) f (h1.hosts m) s1 on ex (subst (λ (u : Seat). IsHost (h1.hosts m) u) here1 (shows1.hosts m))) in
    lawful-more n kinds w (here m (written role upto e due f p) [] w) lawful (Acts (Writes m f.cut)) (noted r h1 v) is
    (subst (λ (u : RunWorld). Shows (noted r h1 v) u) (put-put w m s1 (written role upto e due f p) few)
    (put-shows r h1 w1 v m y [] (written role upto e due f p) all shows1 (omega (arith, l, size)) (put-change h.world m y) (becomes-member (puts e.snap f.cut p.member) f s1 ∙ sym same) gone (puts-spelled n h.world m e f.cut inside on s.spelled)))

-- ---- the records are sent

pub send-lifts : (n : ℕ) (kinds : List Kind) (w : RunWorld) (m : ℕ) (role : Option ℤ) (upto : ℕ) → n ≤ 5 → length kinds ≤ 3 → Lawful n kinds w → m < length w.seats → (seat w m).member.up ≡ true → (seat w m).phase ≡ Ends role upto []
    → Lawful n kinds (with_records (sent_in (rules_of kinds) m role (seat w m).member.durable.log (seat w m).applied upto) (here m (at_its_end upto (seat w m)) [] w))
send-lifts n kinds w m role upto five three lawful l up ends =
    let r = rules_of kinds in
    let d = turns kinds r (led n) lawful.taken in
    let h = d.hosted in
    let st : Stays n kinds r d = stays n kinds r lawful.taken five three in
    let s = lawful.shows in
    let i = s.hosts m in
    let q = h.hosts m in
    let x = member h.world m in
    let p = seat w m in
    let ex : x ≡ p.member = member-shown h w m s in
    let phase = ending-there h w m role upto [] s ends in
    let g : Host = record { run = q.run; applied = upto; role = None; stage = Idle; feeds = q.feeds; past = q.past } in
    let h1 : Hosted = record { world = h.world; hosts = (with_host h m g).hosts; outputs = h.outputs ++ sent_in r m q.role x.durable.log q.applied upto; printed = h.printed } in
    let shows1 = host-shows h w m g (at_its_end upto p) (λ j. commit-within n r h j st.held) s l refl (record { run = i.run; applied = refl; past = i.past; phase = refl }) in
    let same : sent_in r m q.role x.durable.log q.applied upto ≡ sent_in r m role p.member.durable.log p.applied upto =
    ap (λ (u : Option ℤ). sent_in r m u x.durable.log q.applied upto) phase.1 ∙ ap (λ (u : Member). sent_in r m role u.durable.log q.applied upto) ex ∙ ap (λ (k : ℕ). sent_in r m role p.member.durable.log k upto) i.applied in
    lawful-more n kinds w _ lawful (Acts (Sends m)) h1
    (ap (λ (z : Stage). host_sends r h m z) phase.0 ∙ ap (λ (b : Bool). if b then h1 else h) (runs-there h w m s l up))
    (record {
      now = shows1.now;
      members = shows1.members;
      hosts = shows1.hosts;
      outputs = ap (λ (os : List Output). os ++ sent_in r m q.role x.durable.log q.applied upto) s.outputs ∙ ap (λ (os : List Output). w.records ++ os) same;
      printed = shows1.printed;
      flown = shows1.flown;
      spelled = shows1.spelled;
    })
