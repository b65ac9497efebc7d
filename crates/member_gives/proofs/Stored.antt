-- What a disk's snapshots stand for is printed, so a start prints nothing.
use Rattle.std.proofs.Common.{◌≡◌, inl, inr, ℕ, ◌<◌, ◌≤◌, Bool, true, false, ◌&&◌, List, [], ◌∷◌, ◌++◌, length, take, Option, Some, None, refl, sym, ap, ◌∙◌, subst, arith, if◌then◌else◌}
use Rattle.std.specs.Prelude.{Contains, nat_eq, nat_le, nat_lt}
use Rattle.std.proofs.lemmas.Bool.{cases_lt}
use Rattle.std.proofs.lemmas.Bool.Decides.{nat_tests}
use Rattle.entry_log.specs.Durable.{SnapshotEntry, SnapshotSet, entries_of_set, first_commit, latest_set}
use Rattle.entry_log.specs.Log.{Log, IsPrefixOf, last, place, place_from, same_term}
use Rattle.entry_log.specs.Places.{place_from-append, place_from_grows}
use Rattle.entry_log.specs.Shape.{shape_of}
use Rattle.log_replication.specs.Prefixes.{Leads, Leads-by_place, Leads-self, IsWritten-front, is_prefix}
use Rattle.service_api.specs.declared.shipped.Kind.{Kind}
use Rattle.consensus_core.specs.Member.{Cut, Member}
use Rattle.consensus_core.specs.OverLog.{entries_to}
use Rattle.world.specs.World.{World, Step, Passes, Starts, Stops, Duty, Delivers, Client, Puts, Invalidates, is_running, member, names, step}
use Rattle.world.proofs.Effects.{if-cases, none_in}
use Rattle.world.proofs.Rows.{and_true}
use Rattle.world.proofs.Runs.{runs}
use Rattle.agreement.proofs.Commits.{entries_to-place, take-leads}
use Rattle.agreement.proofs.Runs2.{all-fresh}
use Rattle.agreement.proofs.Second.{Fits}
use Rattle.agreement.proofs.Snaps2.{ends_by-entries, latest-of, log-written, set-commit}
use Rattle.agreement.proofs.Spares.{step-snaps}
use Rattle.service_runs.specs.Hosts.{Rules, Stage, Idle, Taking, Over, Ending, Hosted, Act, Rows, Mounts, Drops, Opens, Feeds, Takes, Closes, Writes, Sends, act, all_reach, feed_of, input, is_feeding, is_free, is_idle, is_row, is_taking, sends, writes}
use Rattle.service_runs.proofs.Held.{Held, commit-printed, settled-lines, up-below}
use Rattle.service_runs.proofs.Lists.{take-length, take-take-up}
use Rattle.service_runs.proofs.Printed.{act-printed}
use Rattle.one_log.specs.Led.{Led, Turn, Acts, Asks, Leads as LeadsTurn, due_at, goes_on, is_asked, is_bare, led, turn, turns}
use Rattle.one_log.proofs.Turns.{Stays, leads-length, stays, turn-stays}

-- ---- places of logs

pub place-front : (xs ys : Log) → Leads xs ys → place xs ≤ place ys
place-front xs ys p =
    let q = is_prefix xs ys p in
    let up = place_from_grows (place xs) q.0 in
    let at : place ys ≡ place_from (place xs) q.0 = ap place (sym q.1) ∙ place_from-append 0 xs q.0 in
    omega (arith, up, at)

-- ---- each act keeps the positions of snapshots within this

abbrev AllIn : ℕ → World → Type 0
AllIn q v = (j : ℕ) (t : SnapshotEntry) → Contains (member v j).durable.snapshots t → t.position ≤ q

-- every commit stands within it
abbrev AllBelow : ℕ → World → Type 0
AllBelow q v = (j : ℕ) → (member v j).up ≡ true → place (take (member v j).values.rest.commit (member v j).durable.log) ≤ q

named-in : (k : ℕ) (s : SnapshotEntry) (x : Member) (q : ℕ) → names k s x ≡ true → place (take x.values.rest.commit x.durable.log) ≤ q → s.position ≤ q
named-in k s x q named low =
    let a = and_true (nat_le k x.values.rest.commit) (nat_eq s.position (place (take k x.durable.log)) && same_term s.term (last (take k x.durable.log))) named in
    let b = and_true (nat_eq s.position (place (take k x.durable.log))) (same_term s.term (last (take k x.durable.log))) a.1 in
    let le : k ≤ x.values.rest.commit = (let c = a.0 in grind (arith, nat_tests, c)) in
    let is : s.position ≡ place (take k x.durable.log) = (let c = b.0 in grind (arith, nat_tests, c)) in
    let up = place-front (take k x.durable.log) (take x.values.rest.commit x.durable.log) (take-take-up k x.values.rest.commit x.durable.log le) in
    omega (arith, is, up, low)

put-in : (w : World) (m k : ℕ) (s : SnapshotEntry) (cut : Cut) (q : ℕ) → AllIn q w → AllBelow q w → AllIn q (step w (Puts m k s cut))
put-in w m k s cut q old low = at (is_running w m && names k s (member w m)) refl
  where
    at : (b : Bool) → (is_running w m && names k s (member w m)) ≡ b → AllIn q (step w (Puts m k s cut))
    at true b = λ j t has. elim (step-snaps w (Puts m k s cut) j t has) [
      | inl was ↦ old j t was
      | inr put ↦
          let p = and_true (is_running w m) (names k s (member w m)) b in
          subst (λ (z : SnapshotEntry). z.position ≤ q) put.1 (named-in k s (member w m) q p.1 (low m (runs w m p.0).1))
    ]
    at false b =
        let e : step w (Puts m k s cut) ≡ w = rw b refl in
        subst (AllIn q) (sym e) old

step-in : (w : World) (s : Step) (q : ℕ) → AllIn q w → AllBelow q w → AllIn q (step w s)
step-in w (Puts m k s cut) q old low = put-in w m k s cut q old low
step-in w (Passes now) q old low = λ j t has. elim (step-snaps w (Passes now) j t has) [ inl was ↦ old j t was | inr none ↦ absurd none ]
step-in w (Starts m services) q old low = λ j t has. elim (step-snaps w (Starts m services) j t has) [ inl was ↦ old j t was | inr none ↦ absurd none ]
step-in w (Stops m) q old low = λ j t has. elim (step-snaps w (Stops m) j t has) [ inl was ↦ old j t was | inr none ↦ absurd none ]
step-in w (Duty m due cut) q old low = λ j t has. elim (step-snaps w (Duty m due cut) j t has) [ inl was ↦ old j t was | inr none ↦ absurd none ]
step-in w (Delivers which cut) q old low = λ j t has. elim (step-snaps w (Delivers which cut) j t has) [ inl was ↦ old j t was | inr none ↦ absurd none ]
step-in w (Client m event cut) q old low = λ j t has. elim (step-snaps w (Client m event cut) j t has) [ inl was ↦ old j t was | inr none ↦ absurd none ]
step-in w (Invalidates m services) q old low = λ j t has. elim (step-snaps w (Invalidates m services) j t has) [ inl was ↦ old j t was | inr none ↦ absurd none ]

-- ---- the world after an act is as it was, or a step further

writes-world : (r : Rules) (w : Hosted) (m : ℕ) (st : Stage) (cut : Cut) (P : World → Type 0) → P w.world → ((s : Step) → P (step w.world s)) → P (writes r w m st cut).world
writes-world r w m Idle cut P same f = same
writes-world r w m Taking cut P same f = same
writes-world r w m Over cut P same f = same
writes-world r w m (Ending upto []) cut P same f = same
writes-world r w m (Ending upto (d ∷ due)) cut P same f = if-cases (λ (z : Hosted). P z.world) (is_running w.world m) _ _ (λ b. f (Puts m d.entries d.snap cut)) (λ b. same)

sends-world : (r : Rules) (w : Hosted) (m : ℕ) (st : Stage) (P : World → Type 0) → P w.world → P (sends r w m st).world
sends-world r w m Idle P same = same
sends-world r w m Taking P same = same
sends-world r w m Over P same = same
sends-world r w m (Ending upto (d ∷ due)) P same = same
sends-world r w m (Ending upto []) P same = if-cases (λ (z : Hosted). P z.world) (is_running w.world m) _ _ (λ b. same) (λ b. same)

act-world : (r : Rules) (w : Hosted) (a : Act) (P : World → Type 0) → P w.world → ((s : Step) → P (step w.world s)) → P (act r w a).world
act-world r w (Rows s) P same f = if-cases (λ (z : Hosted). P z.world) (is_row s && is_free w s) _ _ (λ b. f s) (λ b. same)
act-world r w (Mounts m) P same f = f (Starts m r.services)
act-world r w (Drops m) P same f = f (Invalidates m r.services)
act-world r w (Opens m) P same f = if-cases (λ (z : Hosted). P z.world) (is_running w.world m && is_idle (w.hosts m).stage) _ _ (λ b. same) (λ b. same)
act-world r w (Feeds m k n) P same f = if-cases (λ (z : Hosted). P z.world) (is_running w.world m && is_feeding (w.hosts m).stage) _ _ (λ b. same) (λ b. same)
act-world r w (Takes m k) P same f =
    if-cases (λ (z : Hosted). P z.world) (is_running w.world m && (is_taking (w.hosts m).stage && (nat_lt k r.services && nat_lt (length (input (w.hosts m) k)) (feed_of (w.hosts m) k).published))) _ _ (λ b. same) (λ b. same)
act-world r w (Closes m) P same f = if-cases (λ (z : Hosted). P z.world) (is_running w.world m && (is_taking (w.hosts m).stage && all_reach (member w.world m).values.rest.commit (w.hosts m).run.inputs)) _ _ (λ b. same) (λ b. same)
act-world r w (Writes m cut) P same f = writes-world r w m (w.hosts m).stage cut P same f
act-world r w (Sends m) P same f = sends-world r w m (w.hosts m).stage P same

-- ---- every turn keeps the positions of snapshots within what is printed

abbrev pub AllStored : Hosted → Type 0
AllStored h = AllIn (place h.printed) h.world

act-stored : (n : ℕ) (r : Rules) (h : Hosted) (a : Act) → Held n r h → AllStored h → AllStored (act r h a)
act-stored n r h a held old =
    let grown : place h.printed ≤ place (act r h a).printed = prefix-place h.printed (act r h a).printed (act-printed n r h a held) in
    let still : AllIn (place (act r h a).printed) h.world = λ j t has. let was = old j t has in omega (arith, was, grown) in
    let low : AllBelow (place (act r h a).printed) h.world = λ j up. let in' = place-front (take (member h.world j).values.rest.commit (member h.world j).durable.log) h.printed (printed-there j up) in omega (arith, in', grown) in
    act-world r h a (AllIn (place (act r h a).printed)) still (λ s. step-in h.world s (place (act r h a).printed) still low)
  where
    prefix-place : (xs ys : Log) → IsPrefixOf xs ys → place xs ≤ place ys
    prefix-place xs ys q =
        let up = place_from_grows (place xs) q.0 in
        let at : place ys ≡ place_from (place xs) q.0 = ap place (sym q.1) ∙ place_from-append 0 xs q.0 in
        omega (arith, up, at)

    printed-there : (j : ℕ) → (member h.world j).up ≡ true → Leads (take (member h.world j).values.rest.commit (member h.world j).durable.log) h.printed
    printed-there j up = commit-printed n r h j held (up-below h.world j up)

turn-stored : (n : ℕ) (kinds : List Kind) (r : Rules) (w : Led) (t : Turn) → Stays n kinds r w → AllStored w.hosted → AllStored (turn kinds r w t).hosted
turn-stored n kinds r w (Acts a) st old = if-cases (λ (l : Led). AllStored l.hosted) (is_bare a) (goes_on r w a) w (λ b. act-stored n r w.hosted a st.held old) (λ b. old)
turn-stored n kinds r w (LeadsTurn m alive since cut) st old = act-stored n r w.hosted (Rows (Duty m (due_at kinds w m alive since) cut)) st.held old
turn-stored n kinds r w (Asks m e fits cut) st old = if-cases (λ (l : Led). AllStored l.hosted) (is_asked kinds w m e) (goes_on r w (Rows (Client m e cut))) w (λ b. act-stored n r w.hosted (Rows (Client m e cut)) st.held old) (λ b. old)

turns-stored : (n : ℕ) (kinds : List Kind) (r : Rules) (w : Led) (ts : List Turn) → n ≤ 5 → length kinds ≤ 3 → Stays n kinds r w → AllStored w.hosted → AllStored (turns kinds r w ts).hosted
turns-stored n kinds r w [] five three st old = old
turns-stored n kinds r w (t ∷ ts) five three st old = turns-stored n kinds r (turn kinds r w t) ts five three (turn-stays n kinds r w t five three st) (turn-stored n kinds r w t st old)

pub all-stored : (n : ℕ) (kinds : List Kind) (r : Rules) (ts : List Turn) → n ≤ 5 → length kinds ≤ 3 → AllStored (turns kinds r (led n) ts).hosted
all-stored n kinds r ts five three =
    turns-stored n kinds r (led n) ts five three (stays n kinds r [] five three) (λ m s has. absurd (none_in s (subst (λ (x : Member). Contains x.durable.snapshots s) (all-fresh n m) has)))

-- ---- what a start begins with is printed

pub begins-printed : (n : ℕ) (r : Rules) (h : Hosted) (m services : ℕ) → Held n r h → AllStored h → first_commit services (member h.world m).durable ≤ length h.printed
begins-printed n r h m services held stored = at (latest_set services (member h.world m).durable.snapshots) refl
  where
    at : (o : Option SnapshotSet) → latest_set services (member h.world m).durable.snapshots ≡ o → first_commit services (member h.world m).durable ≤ length h.printed
    at None e =
        let none : first_commit services (member h.world m).durable ≡ 0 = ap (λ (o : Option SnapshotSet). entries_of_set o (shape_of (member h.world m).durable.log)) e in
        omega (arith, none)
    at (Some b) e =
        let x = member h.world m in
        let log = x.durable.log in
        let c = first_commit services x.durable in
        let ys = take c log in
        let found = latest-of services x.durable.snapshots b e in
        let is : c ≡ entries_to b.position log = ap (λ (o : Option SnapshotSet). entries_of_set o (shape_of log)) e ∙ ends_by-entries 0 b.position log in
        let low : place (take (entries_to b.position log) log) ≤ b.position = entries_to-place 0 b.position log (omega arith) in
        let same : place ys ≡ place (take (entries_to b.position log) log) = ap (λ (k : ℕ). place (take k log)) is in
        let top = stored m found.0 found.1 in
        let here = found.2 in
        let under : place ys ≤ place h.printed = omega (arith, low, same, top, here) in
        let set = set-commit n h.world m services held.fits in
        let len : length ys ≡ c = take-length c log set.0 in
        elim (cases_lt (length h.printed) (length ys)) [
          | inl lt ↦
              let lead = settled-lines n h.world held.printed.0 x.durable.candidate h.printed ys held.fits held.printed.1 set.1 (omega (arith, lt)) in
              let back = Leads-by_place 0 ys h.printed ys (IsWritten-front ys log (take-leads c log) (log-written n h.world m held.fits log refl).0) (Leads-self ys) lead under in
              absurd (let le = leads-length ys h.printed back in omega (arith, le, lt))
          | inr ge ↦ omega (arith, ge, len)
        ]
