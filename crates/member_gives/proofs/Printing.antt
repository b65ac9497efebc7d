-- What each act of a member prints, and how many of its entries were printed before.
use Rattle.std.proofs.Common.{◌≡◌, ℕ, ◌<◌, ◌≤◌, ◌^◌, Bool, true, false, ◌&&◌, not, List, [], ◌∷◌, ◌++◌, length, map, take, drop, Option, Some, None, refl, sym, ap, ◌∙◌, subst, arith, ℤ, if◌then◌else◌, get_or-set_same}
use Rattle.std.specs.Prelude.{Contains, nat_lt, slice_index_or}
use Rattle.std.proofs.lemmas.Bool.Decides.{nat_tests}
use Rattle.cl_base.specs.Disk.{DiskState}
use Rattle.cl_base.specs.declared.entry.Entry.{Entry}
use Rattle.entry_log.specs.Durable.{SnapshotEntry, first_commit}
use Rattle.entry_log.specs.Log.{Log}
use Rattle.log_replication.specs.Prefixes.{Leads, Leads-self}
use Rattle.sbe_consensus.specs.Laws.{encoded}
use Rattle.sbe_consensus.specs.Spelling.{packet_of}
use Rattle.sbe_consensus.specs.declared.packet.Outgoing.{Outgoing}
use Rattle.sbe_consensus.specs.declared.packet.Packet.{Packet}
use Rattle.sbe_events.specs.declared.event.Event.{Event}
use Rattle.service_api.specs.declared.shipped.Kind.{Kind}
use Rattle.consensus_core.specs.declared.row.Row.{Row}
use Rattle.consensus_core.specs.declared.values.Values.{Values}
use Rattle.consensus_core.specs.Member.{Cut, Whole, Before, After, Member, Sent, after, may_take, puts, row_of_client, row_of_duty, row_of_packet, sent_by, spelled_packet, is_ready}
use Rattle.network.specs.Net.{coming, first_of, taken}
use Rattle.world.specs.World.{World, member}
use Rattle.world.proofs.Effects.{if-cases}
use Rattle.world.proofs.Rows.{and_true}
use Rattle.agreement.proofs.Second.{Fits}
use Rattle.service_runs.specs.Hosts.{Due, Host, Hosted, Rules, Stage, Ending, all_reach, longer}
use Rattle.service_runs.proofs.Acts.{ending}
use Rattle.service_runs.proofs.Held.{Held, StageOk, up-below}
use Rattle.service_runs.proofs.Lists.{take-short}
use Rattle.one_log.specs.Led.{led, turns}
use Rattle.one_log.specs.Ruled.{rules_of}
use Rattle.one_log.proofs.Turns.{Stays, stays}
use Rattle.run_world.specs.Lawful.{IsPhase, Lawful, Shows, WasSent}
use Rattle.run_world.specs.Seat.{Seat, Fate, Phase, Rests, Goes, Ends, acted, becomes, fed, first_seat, fused, halted, is_going, is_resting, opened, reigns_from, rested, started, struck, went_on, written}
use Rattle.run_world.specs.RunWorld.{RunWorld, Act, Passes, Hands, Duty, Asks, Hears, Starts, Stops, Fails, Invalidates, Fuses, Begins, Takes, Closes, Writes, Sends, Cuts, Heals, Loses, Replays, closes, committed, does, due_at, handed, hears, is_down, is_free, is_up, may_ask, put, seat, sends, takes_packet, with_net, writes}
use Rattle.run_world.proofs.Flown.{coming-sent}
use Rattle.run_world.proofs.Printed.{longer-short}
use Rattle.run_world.proofs.Queues.{committed-within}
use Rattle.run_world.proofs.Rows.{becomes-member, free-parts, up-parts}
use Rattle.run_world.proofs.Shown.{commit-within, count-shown, member-shown}
use Rattle.run_world.proofs.Starts.{down-parts}
use Rattle.member_gives.specs.One.{actor, may_print, receiver}
use Rattle.member_gives.proofs.Growing.{duty-grows, packet-grows}
use Rattle.member_gives.proofs.Stored.{AllStored, all-stored, begins-printed}

-- ---- what may become of a member

-- a member that is now this seat: its module applied no more than was printed, and what it has committed goes on from that, or unless it may print is no more
record Fine (b : Bool) (w : RunWorld) (s : Seat) : Type 0 where
  applied : s.member.up ≡ true → s.applied ≤ length w.printed
  grows : Leads w.printed (longer w.printed (committed s.member))
  quiet : b ≡ false → length (committed s.member) ≤ length w.printed

-- a world after an act of the member m, which may print
pub record Turned (b : Bool) (m : ℕ) (w v : RunWorld) : Type 0 where
  pub printed : v.printed ≡ longer w.printed (committed (seat v m).member)
  pub applied : (seat v m).member.up ≡ true → (seat v m).applied ≤ length w.printed
  pub grows : Leads w.printed v.printed
  pub quiet : b ≡ false → v.printed ≡ w.printed

short-grows : (p log : Log) → length log ≤ length p → Leads p (longer p log)
short-grows p log le = subst (Leads p) (sym (longer-short p log le)) (Leads-self p)

-- it commits no more than what is printed
fine-short : (w : RunWorld) (s : Seat) → (s.member.up ≡ true → s.applied ≤ length w.printed) → s.member.values.rest.commit ≤ length w.printed → Fine false w s
fine-short w s applied le =
    let few : length (committed s.member) ≤ length w.printed = (let few = take-short s.member.values.rest.commit s.member.durable.log in omega (arith, few, le)) in
    record { applied = applied; grows = short-grows w.printed (committed s.member) few; quiet = λ e. few }

turned-put : (b : Bool) (m : ℕ) (w : RunWorld) (s : Seat) (ps : List Sent) → m < length w.seats → Fine b w s → Turned b m w (put m s ps w)
turned-put b m w s ps l fine =
    let here : s ≡ seat (put m s ps w) m = sym (get_or-set_same w.seats m s first_seat l) in
    record {
      printed = ap (λ (z : Seat). longer w.printed (committed z.member)) here;
      applied = subst (λ (z : Seat). z.member.up ≡ true → z.applied ≤ length w.printed) here fine.applied;
      grows = fine.grows;
      quiet = λ e. longer-short w.printed (committed s.member) (fine.quiet e);
    }

same-member : (k m : ℕ) → Some k ≡ Some m → k ≡ m
same-member k m e = cc

at-actor : (b : Bool) (w v : RunWorld) (k m : ℕ) → Some k ≡ Some m → Turned b k w v → Turned b m w v
at-actor b w v k m e turned = subst (λ (j : ℕ). Turned b j w v) (same-member k m e) turned

-- the world is lawful
module _ (n : ℕ) (kinds : List Kind) (w : RunWorld) (lawful : Lawful n kinds w) (five : n ≤ 5) (three : length kinds ≤ 3) where
  abbrev hosted_there : Hosted
  hosted_there = (turns kinds (rules_of kinds) (led n) lawful.taken).hosted

  held-there : Held n (rules_of kinds) hosted_there
  held-there = (stays n kinds (rules_of kinds) lawful.taken five three).held

  commit-low : (m : ℕ) → m < length w.seats → (seat w m).member.values.rest.commit ≤ length w.printed
  commit-low m l =
      let count = count-shown hosted_there w lawful.shows in
      subst (λ (p : Log). (seat w m).member.values.rest.commit ≤ length p) lawful.shows.printed
      (subst (λ (x : Member). x.values.rest.commit ≤ length hosted_there.printed) (member-shown hosted_there w m lawful.shows) (held-there.commits m (omega (arith, l, count))))

  pub committed-low : (m : ℕ) → length (committed (seat w m).member) ≤ length w.printed
  committed-low m = committed-within hosted_there w m (λ j. commit-within n (rules_of kinds) hosted_there j held-there) lawful.shows

  pub commit-inside : (m : ℕ) → (seat w m).member.values.rest.commit ≤ length (seat w m).member.durable.log
  commit-inside m = subst (λ (x : Member). x.values.rest.commit ≤ length x.durable.log) (member-shown hosted_there w m lawful.shows) (held-there.fits.members m).commit.0

  up-there : (m : ℕ) → (seat w m).member.up ≡ true → (member hosted_there.world m).up ≡ true
  up-there m up = ap (λ (x : Member). x.up) (member-shown hosted_there w m lawful.shows) ∙ up

  applied-low : (m : ℕ) → (seat w m).member.up ≡ true → (seat w m).applied ≤ length w.printed
  applied-low m up =
      let low = (held-there.live m (up-there m up)).applied in
      let top = held-there.commits m (up-below hosted_there.world m (up-there m up)) in
      subst (λ (k : ℕ). k ≤ length w.printed) (lawful.shows.hosts m).applied
      (subst (λ (p : Log). (hosted_there.hosts m).applied ≤ length p) lawful.shows.printed (omega (arith, low, top)))

  upto-low : (m : ℕ) (role : Option ℤ) (upto : ℕ) (due : List Due) → m < length w.seats → (seat w m).member.up ≡ true → (seat w m).phase ≡ Ends role upto due → upto ≤ length w.printed
  upto-low m role upto due l up is =
      let h = hosted_there.hosts m in
      let count = count-shown hosted_there w lawful.shows in
      let phase : IsPhase (Ends role upto due) h = subst (λ (p : Phase). IsPhase p h) is (lawful.shows.hosts m).phase in
      let ok : StageOk (rules_of kinds) (member hosted_there.world m) h.applied h.feeds (Ending upto due) =
      ending (rules_of kinds) (member hosted_there.world m) h.applied h.feeds h.stage (Ending upto due) phase.0 (held-there.live m (up-there m up)).stage in
      let low = ok.1 in
      let top = held-there.commits m (omega (arith, l, count)) in
      subst (λ (p : Log). upto ≤ length p) lawful.shows.printed (omega (arith, low, top))

  begins-low : (m : ℕ) → first_commit (length kinds) (seat w m).member.durable ≤ length w.printed
  begins-low m =
      subst (λ (p : Log). first_commit (length kinds) (seat w m).member.durable ≤ length p) lawful.shows.printed
      (subst (λ (x : Member). first_commit (length kinds) x.durable ≤ length hosted_there.printed) (member-shown hosted_there w m lawful.shows)
      (begins-printed n (rules_of kinds) hosted_there m (length kinds) held-there (all-stored n kinds (rules_of kinds) lawful.taken five three)))

  -- ---- no act

  pub turned-none : (b : Bool) (m : ℕ) → Turned b m w w
  turned-none b m = record {
    printed = sym (longer-short w.printed (committed (seat w m).member) (committed-low m));
    applied = applied-low m;
    grows = Leads-self w.printed;
    quiet = λ e. refl;
  }

  -- ---- a row

  off-applied : (y : Member) (own : ℕ) (s : Seat) → y.up ≡ true → (halted y own s).applied ≤ length w.printed
  off-applied y own s up = omega arith

  becomes-applied : (y : Member) (f : Fate) (s : Seat) → s.applied ≤ length w.printed → (becomes y f s).applied ≤ length w.printed
  becomes-applied y f s low = if-cases (λ (z : Seat). z.applied ≤ length w.printed) y.up (went_on y f s) (halted y f.own s) (λ b. low) (λ b. omega arith)

  acted-applied : (row : Row) (now : ℕ) (f : Fate) (s : Seat) → s.applied ≤ length w.printed → (acted row now f s).applied ≤ length w.printed
  acted-applied row now f s low =
      becomes-applied (after row f.cut s.member) f (reigns_from now row s)
      (if-cases (λ (z : Seat). z.applied ≤ length w.printed) (is_ready row.values.election.state && not (is_ready s.member.values.election.state)) _ _ (λ b. low) (λ b. low))

  acted-fine : (b : Bool) (row : Row) (f : Fate) (m : ℕ) → (seat w m).member.up ≡ true → Leads w.printed (longer w.printed (committed (after row f.cut (seat w m).member)))
      → (b ≡ false → length (committed (after row f.cut (seat w m).member)) ≤ length w.printed) → Fine b w (acted row w.now f (seat w m))
  acted-fine b row f m up grows quiet =
      let is = sym (becomes-member (after row f.cut (seat w m).member) f (reigns_from w.now row (seat w m))) in
      record {
        applied = λ still. acted-applied row w.now f (seat w m) (applied-low m up);
        grows = subst (λ (x : Member). Leads w.printed (longer w.printed (committed x))) is grows;
        quiet = λ e. subst (λ (x : Member). length (committed x) ≤ length w.printed) is (quiet e);
      }

  duty-fine : (f : Fate) (m : ℕ) → m < length w.seats → (seat w m).member.up ≡ true → Fine true w (acted (row_of_duty (seat w m).member (due_at kinds (seat w m) w.now) w.now) w.now f (seat w m))
  duty-fine f m l up = acted-fine true (row_of_duty (seat w m).member (due_at kinds (seat w m) w.now) w.now) f m up (duty-grows n kinds hosted_there w m f.cut held-there lawful.shows l up) (λ e. absurd (cc))

  -- a client's event is no commit
  after-low : (row : Row) (cut : Cut) (x : Member) → row.values.rest.commit ≤ length w.printed → (after row cut x).values.rest.commit ≤ length w.printed
  after-low row Whole x low = low
  after-low row Before x low = omega arith
  after-low row After x low = omega arith

  asked-low : (x : Member) (e : Event) → x.values.rest.commit ≤ length w.printed → (row_of_client x e).values.rest.commit ≤ length w.printed
  asked-low x e low = if-cases (λ (r : Row). r.values.rest.commit ≤ length w.printed) (is_ready x.values.election.state) _ _ (λ b. low) (λ b. low)

  few : (y : Member) → y.values.rest.commit ≤ length w.printed → length (committed y) ≤ length w.printed
  few y low = let short = take-short y.values.rest.commit y.durable.log in omega (arith, short, low)

  asked-fine : (e : Event) (f : Fate) (m : ℕ) → m < length w.seats → (seat w m).member.up ≡ true → Fine false w (acted (row_of_client (seat w m).member e) w.now f (seat w m))
  asked-fine e f m l up =
      let x = (seat w m).member in
      let y = after (row_of_client x e) f.cut x in
      let short = few y (after-low (row_of_client x e) f.cut x (asked-low x e (commit-low m l))) in
      acted-fine false (row_of_client x e) f m up (short-grows w.printed (committed y) short) (λ none. short)

  -- ---- starts, and what strikes a snapshot

  started-fine : (m : ℕ) (f : Fate) (cut : Cut) → m < length w.seats → (seat w m).member.up ≡ false → Fine false w (started m (length w.seats) (length kinds) f cut (seat w m))
  started-fine m f Whole l off = fine-short w (started m (length w.seats) (length kinds) f Whole (seat w m)) (λ up. begins-low m) (begins-low m)
  started-fine m f Before l off = fine-short w (started m (length w.seats) (length kinds) f Before (seat w m)) (λ up. absurd (cc)) (commit-low m l)
  started-fine m f After l off = fine-short w (started m (length w.seats) (length kinds) f After (seat w m)) (λ up. absurd (cc)) (commit-low m l)

  struck-fine : (m : ℕ) (f : Fate) (cut : Cut) → m < length w.seats → (seat w m).member.up ≡ false → Fine false w (struck (length kinds) f cut (seat w m))
  struck-fine m f Whole l off = fine-short w (struck (length kinds) f Whole (seat w m)) (λ up. absurd (cc)) (omega arith)
  struck-fine m f After l off = fine-short w (struck (length kinds) f After (seat w m)) (λ up. absurd (cc)) (omega arith)
  struck-fine m f Before l off = fine-short w (struck (length kinds) f Before (seat w m)) (λ up. absurd (cc)) (commit-low m l)

  rested-fine : (m own : ℕ) → Fine false w (rested own (seat w m))
  rested-fine m own = fine-short w (rested own (seat w m)) (λ up. absurd (cc)) (omega arith)

  -- ---- phases

  puts-low : (e : SnapshotEntry) (cut : Cut) (x : Member) → x.values.rest.commit ≤ length w.printed → (puts e cut x).values.rest.commit ≤ length w.printed
  puts-low e Whole x low = low
  puts-low e Before x low = omega arith
  puts-low e After x low = omega arith

  written-fine : (m : ℕ) (role : Option ℤ) (upto : ℕ) (d : Due) (due : List Due) (f : Fate) → m < length w.seats → (seat w m).member.up ≡ true → Fine false w (written role upto d due f (seat w m))
  written-fine m role upto d due f l up =
      let x = (seat w m).member in
      let y = puts d.snap f.cut x in
      let s : Seat = record (seat w m) { phase = Ends role upto due } in
      let is = sym (becomes-member y f s) in
      let short = few y (puts-low d.snap f.cut x (commit-low m l)) in
      record {
        applied = λ still. becomes-applied y f s (applied-low m up);
        grows = subst (λ (z : Member). Leads w.printed (longer w.printed (committed z))) is (short-grows w.printed (committed y) short);
        quiet = λ e. subst (λ (z : Member). length (committed z) ≤ length w.printed) is short;
      }

  -- the member stays, and so does what its module applied
  same-fine : (m : ℕ) (s : Seat) → m < length w.seats → s.member ≡ (seat w m).member → s.applied ≡ (seat w m).applied → Fine false w s
  same-fine m s l member' applied' =
      fine-short w s
      (λ up. subst (λ (k : ℕ). k ≤ length w.printed) (sym applied') (applied-low m (ap (λ (x : Member). x.up) (sym member') ∙ up)))
      (subst (λ (x : Member). x.values.rest.commit ≤ length w.printed) (sym member') (commit-low m l))

  closes-turned : (m : ℕ) (p : Phase) → m < length w.seats → Turned false m w (closes (rules_of kinds) m p w)
  closes-turned m Rests l = turned-none false m
  closes-turned m (Ends role upto due) l = turned-none false m
  closes-turned m (Goes role over) l =
      if-cases (Turned false m w) (all_reach (seat w m).member.values.rest.commit (seat w m).run.inputs) _ _ (λ b. turned-put false m w _ [] l (same-fine m _ l refl refl)) (λ b. turned-none false m)

  writes-turned : (m : ℕ) (p : Phase) (f : Fate) → m < length w.seats → (seat w m).member.up ≡ true → Turned false m w (writes m p f w)
  writes-turned m Rests f l up = turned-none false m
  writes-turned m (Goes role over) f l up = turned-none false m
  writes-turned m (Ends role upto []) f l up = turned-none false m
  writes-turned m (Ends role upto (d ∷ due)) f l up = turned-put false m w (written role upto d due f (seat w m)) [] l (written-fine m role upto d due f l up)

  sent-turned : (m : ℕ) (p : Phase) → m < length w.seats → (seat w m).member.up ≡ true → (seat w m).phase ≡ p → Turned false m w (sends (rules_of kinds) m p w)
  sent-turned m Rests l up is = turned-none false m
  sent-turned m (Goes role over) l up is = turned-none false m
  sent-turned m (Ends role until (d ∷ due)) l up is = turned-none false m
  sent-turned m (Ends role until []) l up is =
      let s : Seat = record (seat w m) { applied = until; phase = Rests } in
      let t = turned-put false m w s [] l (fine-short w s (λ on. upto-low m role until [] l up is) (commit-low m l)) in
      record { printed = t.printed; applied = t.applied; grows = t.grows; quiet = t.quiet }

  -- ---- a packet

  takes-fine : (s : Sent) (f : Fate) → Contains hosted_there.world.sent s → s.to < length w.seats → (seat w s.to).member.up ≡ true → Fine true w (acted (row_of_packet (seat w s.to).member s.packet w.now) w.now f (seat w s.to))
  takes-fine s f has l up = acted-fine true (row_of_packet (seat w s.to).member s.packet w.now) f s.to up (packet-grows n kinds hosted_there w s f.cut held-there lawful.shows has l up) (λ e. absurd (cc))

  abbrev left : RunWorld
  left = with_net (taken w.net) w

  taken-turned : (m : ℕ) → Turned true m w left
  taken-turned m = let t = turned-none true m in record { printed = t.printed; applied = t.applied; grows = t.grows; quiet = t.quiet }

  row-turned : (m : ℕ) (s : Seat) (ps : List Sent) → m < length w.seats → Fine true w s → Turned true m w (put m s ps left)
  row-turned m s ps l fine = let t = turned-put true m w s ps l fine in record { printed = t.printed; applied = t.applied; grows = t.grows; quiet = t.quiet }

  takes-turned : (q : ℕ × Outgoing) (f : Fate) → WasSent hosted_there.world q → Turned true q.1.to w (handed (Some q) f left)
  takes-turned q f sent =
      let s = sent.0 in
      let has = sent.1 in
      let read : packet_of (spelled_packet s).bytes ≡ Some s.packet = encoded s.packet (lawful.shows.spelled.sent s has) in
      subst (λ (o : Outgoing). Turned true o.to w (takes_packet o.to (packet_of o.bytes) f left)) (sym sent.2)
      (subst (λ (p : Option Packet). Turned true s.to w (takes_packet s.to p f left)) (sym read)
      (if-cases (Turned true s.to w) (is_free left s.to) _ _
      (λ b. let p = free-parts left s.to b in row-turned s.to (acted (row_of_packet (seat w s.to).member s.packet w.now) w.now f (seat w s.to)) (sent_by (row_of_packet (seat w s.to).member s.packet w.now) f.cut (seat w s.to).member) p.0 (takes-fine s f has p.0 p.1))
      (λ b. taken-turned s.to)))

  hands-turned : (m : ℕ) (f : Fate) (o : Option (ℕ × Outgoing)) → first_of (coming w.net) ≡ o → receiver o ≡ Some m → Turned true m w (handed o f left)
  hands-turned m f None is e = absurd (cc)
  hands-turned m f (Some q) is e = at-actor true w (handed (Some q) f left) q.1.to m e (takes-turned q f (coming-sent hosted_there.world w.net q lawful.shows.flown is))

  -- ---- an act

  call-turned : (p : Bool) (m : ℕ) (s : Seat) (ps : List Sent) (b : Bool) → (b ≡ true → (m < length w.seats) × Fine p w s) → Turned p m w (if b then put m s ps w else w)
  call-turned p m s ps b fine = if-cases (Turned p m w) b (put m s ps w) w (λ yes. let z = fine yes in turned-put p m w s ps z.0 z.1) (λ no. turned-none p m)

  within : (m k : ℕ) → nat_lt m k ≡ true → m < k
  within m k b = grind (arith, nat_tests, b)

  pub act-turned : (a : Act) (m : ℕ) → actor w a ≡ Some m → Turned (may_print a) m w (does kinds w a)
  act-turned (Passes now) m e = absurd (cc)
  act-turned (Hands f) m e = hands-turned m f (first_of (coming w.net)) refl e
  act-turned (Duty k f) m e =
      at-actor true w (does kinds w (Duty k f)) k m e
      (call-turned true k _ (sent_by (row_of_duty (seat w k).member (due_at kinds (seat w k) w.now) w.now) f.cut (seat w k).member) (is_free w k) (λ b. let p = free-parts w k b in (p.0, duty-fine f k p.0 p.1)))
  act-turned (Asks k ev fits f) m e =
      at-actor false w (does kinds w (Asks k ev fits f)) k m e
      (call-turned false k _ (sent_by (row_of_client (seat w k).member ev) f.cut (seat w k).member) (is_free w k && may_ask kinds (seat w k) w.now ev)
      (λ b. let p = free-parts w k (and_true (is_free w k) (may_ask kinds (seat w k) w.now ev) b).0 in (p.0, asked-fine ev f k p.0 p.1)))
  act-turned (Hears k session) m e =
      at-actor false w (does kinds w (Hears k session)) k m e (call-turned false k _ [] (nat_lt k (length w.seats)) (λ b. let l = within k (length w.seats) b in (l, same-fine k (hears session w.now (seat w k)) l refl refl)))
  act-turned (Starts k f) m e =
      at-actor false w (does kinds w (Starts k f)) k m e (call-turned false k _ [] (is_down w k) (λ b. let p = down-parts w k b in (p.0, started-fine k f f.cut p.0 p.1)))
  act-turned (Stops k) m e =
      at-actor false w (does kinds w (Stops k)) k m e (call-turned false k _ [] (is_up w k) (λ b. ((up-parts w k b).0, rested-fine k (seat w k).faults.own)))
  act-turned (Fails k own) m e =
      at-actor false w (does kinds w (Fails k own)) k m e (call-turned false k _ [] (is_up w k) (λ b. ((up-parts w k b).0, rested-fine k own)))
  act-turned (Invalidates k f) m e =
      at-actor false w (does kinds w (Invalidates k f)) k m e (call-turned false k _ [] (is_down w k) (λ b. let p = down-parts w k b in (p.0, struck-fine k f f.cut p.0 p.1)))
  act-turned (Fuses k calls choice) m e =
      at-actor false w (does kinds w (Fuses k calls choice)) k m e (call-turned false k _ [] (nat_lt k (length w.seats)) (λ b. let l = within k (length w.seats) b in (l, same-fine k (fused calls choice (seat w k)) l refl refl)))
  act-turned (Begins k) m e =
      at-actor false w (does kinds w (Begins k)) k m e
      (call-turned false k _ [] (is_up w k && is_resting (seat w k).phase) (λ b. let p = up-parts w k (and_true (is_up w k) (is_resting (seat w k).phase) b).0 in (p.0, same-fine k (opened (seat w k)) p.0 refl refl)))
  act-turned (Takes k c) m e =
      let may = is_going (seat w k).phase && (nat_lt c (length kinds) && may_take (seat w k).member (seat w k).run c) in
      at-actor false w (does kinds w (Takes k c)) k m e
      (call-turned false k _ [] (is_up w k && may) (λ b. let p = up-parts w k (and_true (is_up w k) may b).0 in (p.0, same-fine k (fed c (seat w k)) p.0 refl refl)))
  act-turned (Closes k) m e =
      at-actor false w (does kinds w (Closes k)) k m e (if-cases (Turned false k w) (is_up w k) _ _ (λ b. closes-turned k (seat w k).phase (up-parts w k b).0) (λ b. turned-none false k))
  act-turned (Writes k f) m e =
      at-actor false w (does kinds w (Writes k f)) k m e (if-cases (Turned false k w) (is_up w k) _ _ (λ b. let p = up-parts w k b in writes-turned k (seat w k).phase f p.0 p.1) (λ b. turned-none false k))
  act-turned (Sends k) m e =
      at-actor false w (does kinds w (Sends k)) k m e (if-cases (Turned false k w) (is_up w k) _ _ (λ b. let p = up-parts w k b in sent-turned k (seat w k).phase p.0 p.1 refl) (λ b. turned-none false k))
  act-turned (Cuts from to) m e = absurd (cc)
  act-turned (Heals from to) m e = absurd (cc)
  act-turned (Loses from to) m e = absurd (cc)
  act-turned (Replays from to latest) m e = absurd (cc)
