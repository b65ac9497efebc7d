-- The acts of a whole phase.
use Rattle.std.proofs.Common.{◌≡◌, ℕ, ◌<◌, ◌≤◌, ℤ, Bool, true, false, List, [], ◌∷◌, length, map, take, Option, None, refl, sym, ap, ◌∙◌, subst, arith, if◌then◌else◌}
use Rattle.std.specs.Prelude.{nat_eq, nat_lt}
use Rattle.std.proofs.lemmas.Bool.Decides.{nat_tests}
use Rattle.entry_log.specs.Log.{Log}
use Rattle.service_api.specs.declared.shipped.Kind.{Kind}
use Rattle.consensus_core.specs.Member.{Cut, Member, Whole, puts}
use Rattle.entry_log.specs.Durable.{SnapshotEntry}
use Rattle.member_phases.specs.Snapshots.{all_put}
use Rattle.service_runs.specs.Hosts.{Due, Output, all_reach, due_in, role_of, sent_in}
use Rattle.service_runs.proofs.Lists.{take-length}
use Rattle.one_log.specs.Ruled.{rules_of}
use Rattle.run_world.specs.Lawful.{Lawful}
use Rattle.run_world.specs.Rounds.{Phased, consume, phase_over, put_all}
use Rattle.run_world.specs.Seat.{Fate, Faults, Phase, Rests, Ends, Seat, becomes, closed, faults_left, halted, is_resting, opened, sent as at_its_end, went_on, written}
use Rattle.run_world.specs.RunWorld.{Begins, Closes, RunWorld, Sends, Writes, after_acts, closes, committed, does, is_up, put, seat, sends, with_records, writes}
use Rattle.run_world.proofs.Rows.{both}
use Rattle.member_phases.specs.Seats.{all_fed, with_seat}
use Rattle.member_phases.proofs.Takes.{Feeds, seat-feeds}
use Rattle.member_phases.proofs.Worlds.{commit-low, inputs-front, printed-all, put-is, seat-there, seat-twice, still-there, up-there}

reach : (commit : ℕ) (log : Log) (xss : List Log) → commit ≤ length log → all_reach commit (map (λ (xs : Log). take commit log) xss) ≡ true
reach commit log [] low = refl
reach commit log (xs ∷ xss) low =
    both (nat_eq (length (take commit log)) commit) (all_reach commit (map (λ (ys : Log). take commit log) xss)) (let e = take-length commit log low in grind (arith, nat_tests, e)) (reach commit log xss low)

module _ (n : ℕ) (kinds : List Kind) (w : RunWorld) (m : ℕ) (lawful : Lawful n kinds w) (up : (seat w m).member.up ≡ true) (rests : (seat w m).phase ≡ Rests) (count : length (seat w m).run.inputs ≡ length kinds) where
  abbrev pub s : Seat
  s = seat w m

  abbrev role : Option ℤ
  role = role_of s.member

  abbrev pub commit : ℕ
  commit = s.member.values.rest.commit

  low : m < length w.seats
  low = up-there w m up

  few : length (committed s.member) ≤ length w.printed
  few = printed-all n kinds w m lawful

  is-there : (t : Seat) → t.member.up ≡ true → is_up (with_seat m t w) m ≡ true
  is-there t on =
      let l = still-there w m t low in
      both (nat_lt m (length (with_seat m t w).seats)) (seat (with_seat m t w) m).member.up (grind (arith, nat_tests, l)) (ap (λ (z : Seat). z.member.up) (seat-there w m t low) ∙ on)

  -- it begins
  pub begins : does kinds w (Begins m) ≡ with_seat m (opened s) w
  begins =
      let here : is_up w m ≡ true = (let l = low in both (nat_lt m (length w.seats)) s.member.up (grind (arith, nat_tests, l)) up) in
      ap (λ (b : Bool). if b then put m (opened s) [] w else w) (both (is_up w m) (is_resting s.phase) here (ap is_resting rests))
      ∙ put-is w m (opened s) few

  -- its services consume
  pub feeds : Feeds kinds (opened s) (all_fed (opened s))
  feeds = seat-feeds kinds (opened s) role false up refl (commit-low n kinds w m lawful) (λ xs has. inputs-front n kinds w m xs lawful up has) count

  pub taken : after_acts kinds (does kinds w (Begins m)) (consume m feeds.0) ≡ with_seat m (all_fed (opened s)) w
  taken =
      ap (λ (z : RunWorld). after_acts kinds z (consume m feeds.0)) begins
      ∙ feeds.1 (with_seat m (opened s) w) m (still-there w m (opened s) low, seat-there w m (opened s) low, few)
      ∙ seat-twice w m (opened s) (all_fed (opened s))

  -- its end begins
  abbrev pub ending : Seat
  ending = closed (rules_of kinds) role (all_fed (opened s))

  pub closes-is : does kinds (with_seat m (all_fed (opened s)) w) (Closes m) ≡ with_seat m ending w
  closes-is =
      let t = all_fed (opened s) in
      let u = with_seat m t w in
      let there = seat-there w m t low in
      ap (λ (b : Bool). if b then closes (rules_of kinds) m (seat u m).phase u else u) (is-there t up)
      ∙ ap (λ (p : Phase). closes (rules_of kinds) m p u) (ap (λ (z : Seat). z.phase) there)
      ∙ ap (λ (z : Seat). if all_reach z.member.values.rest.commit z.run.inputs then put m (closed (rules_of kinds) role z) [] u else u) there
      ∙ ap (λ (b : Bool). if b then put m (closed (rules_of kinds) role t) [] u else u) (reach commit s.member.durable.log s.run.inputs (commit-low n kinds w m lawful))
      ∙ put-is u m ending few
      ∙ seat-twice w m t ending

  -- and once all is put, its records are sent
  sends-is : (t : Seat) (upto : ℕ) (led : Option ℤ) → t.member.up ≡ true → t.phase ≡ Ends led upto [] → length (committed t.member) ≤ length w.printed
      → does kinds (with_seat m t w) (Sends m) ≡ with_records (sent_in (rules_of kinds) m led t.member.durable.log t.applied upto) (with_seat m (at_its_end upto t) w)
  sends-is t upto led on ends printed =
      let u = with_seat m t w in
      let there = seat-there w m t low in
      ap (λ (b : Bool). if b then sends (rules_of kinds) m (seat u m).phase u else u) (is-there t on)
      ∙ ap (λ (p : Phase). sends (rules_of kinds) m p u) (ap (λ (z : Seat). z.phase) there ∙ ends)
      ∙ ap (λ (z : Seat). with_records (sent_in (rules_of kinds) m led z.member.durable.log z.applied upto) (put m (at_its_end upto z) [] u)) there
      ∙ ap (with_records (sent_in (rules_of kinds) m led t.member.durable.log t.applied upto)) (put-is u m (at_its_end upto t) printed ∙ seat-twice w m t (at_its_end upto t))

  -- ---- snapshots are put

  -- with the same fate each
  abbrev all-fates : Fate → List Due → List Fate
  all-fates f due = map (λ (d : Due). f) due

  abbrev pub left-after : Fate → List Due → Faults → Faults
  left-after f [] x = x
  left-after f (d ∷ due) x = faults_left f x

  twice-left : (f : Fate) (due : List Due) (x : Faults) → left-after f due (faults_left f x) ≡ faults_left f x
  twice-left f [] x = refl
  twice-left f (d ∷ due) x = refl

  put-up : (d : SnapshotEntry) (x : Member) → (puts d Whole x).up ≡ x.up
  put-up d x = refl

  writes-is : (f : Fate) → f.cut ≡ Whole → (t : Seat) (led : Option ℤ) (upto : ℕ) (d : Due) (due : List Due) → t.member.up ≡ true → t.phase ≡ Ends led upto (d ∷ due) → length (committed t.member) ≤ length w.printed
      → does kinds (with_seat m t w) (Writes m f) ≡ with_seat m (record t { member = puts d.snap Whole t.member; phase = Ends led upto due; faults = faults_left f t.faults }) w
  writes-is f whole t led upto d due on ends printed =
      let u = with_seat m t w in
      let there = seat-there w m t low in
      let y = puts d.snap Whole t.member in
      let new : Seat = record t { member = y; phase = Ends led upto due; faults = faults_left f t.faults } in
      ap (λ (b : Bool). if b then writes m (seat u m).phase f u else u) (is-there t on)
      ∙ ap (λ (p : Phase). writes m p f u) (ap (λ (z : Seat). z.phase) there ∙ ends)
      ∙ ap (λ (z : Seat). put m (written led upto d due f z) [] u) there
      ∙ ap (λ (c : Cut). put m (becomes (puts d.snap c t.member) f (record t { phase = Ends led upto due })) [] u) whole
      ∙ ap (λ (b : Bool). put m (if b then went_on y f (record t { phase = Ends led upto due }) else halted y f.own (record t { phase = Ends led upto due })) [] u) on
      ∙ put-is u m new printed
      ∙ seat-twice w m t new

  all-writes : (f : Fate) → f.cut ≡ Whole → (due : List Due) (t : Seat) (led : Option ℤ) (upto : ℕ) → t.member.up ≡ true → t.phase ≡ Ends led upto due → length (committed t.member) ≤ length w.printed
      → after_acts kinds (with_seat m t w) (put_all m (all-fates f due)) ≡ with_seat m (record t { member = all_put due t.member; phase = Ends led upto []; faults = left-after f due t.faults }) w
  all-writes f whole [] t led upto on ends printed = ap (λ (p : Phase). with_seat m (record t { phase = p }) w) ends
  all-writes f whole (d ∷ due) t led upto on ends printed =
      let next : Seat = record t { member = puts d.snap Whole t.member; phase = Ends led upto due; faults = faults_left f t.faults } in
      ap (λ (z : RunWorld). after_acts kinds z (put_all m (all-fates f due))) (writes-is f whole t led upto d due on ends printed)
      ∙ all-writes f whole due next led upto on refl printed
      ∙ ap (λ (x : Faults). with_seat m (record t { member = all_put due (puts d.snap Whole t.member); phase = Ends led upto []; faults = x }) w) (twice-left f due t.faults)

  pub put-keeps : (due : List Due) (x : Member) → ((all_put due x).up ≡ x.up) × ((all_put due x).values ≡ x.values) × ((all_put due x).durable.log ≡ x.durable.log)
  put-keeps [] x = (refl, refl, refl)
  put-keeps (d ∷ due) x = put-keeps due (puts d.snap Whole x)

  abbrev pub dues : List Due
  dues = due_in (rules_of kinds) s.member.durable.log s.applied commit

  -- ---- without snapshots

  abbrev pub records : List Output
  records = sent_in (rules_of kinds) m role s.member.durable.log s.applied commit

  abbrev pub after : Seat
  after = at_its_end commit (all_fed s)

  pub phase-plain : due_in (rules_of kinds) s.member.durable.log s.applied commit ≡ [] → Phased kinds m w (with_records records (with_seat m after w))
  phase-plain none = record {
    services = feeds.0;
    fates = [];
    fails = None;
    ends = sym over;
    rests = ap (λ (z : Seat). is_resting z.phase) (seat-there w m after low);
  }
    where
      over : phase_over kinds m [] None (after_acts kinds (does kinds w (Begins m)) (consume m feeds.0)) ≡ with_records records (with_seat m after w)
      over =
          ap (λ (z : RunWorld). does kinds (does kinds z (Closes m)) (Sends m)) taken
          ∙ ap (λ (z : RunWorld). does kinds z (Sends m)) closes-is
          ∙ sends-is ending commit role up (ap (λ (due : List Due). Ends role commit due) none) few

  abbrev pub after-puts : Fate → Seat
  after-puts f = record (at_its_end commit (all_fed s)) { member = all_put dues s.member; faults = left-after f dues s.faults }

  pub phase-whole : (f : Fate) → f.cut ≡ Whole → Phased kinds m w (with_records records (with_seat m (after-puts f) w))
  phase-whole f whole = record {
    services = feeds.0;
    fates = all-fates f dues;
    fails = None;
    ends = sym over;
    rests = ap (λ (z : Seat). is_resting z.phase) (seat-there w m (after-puts f) low);
  }
    where
      put-seat : Seat
      put-seat = record ending { member = all_put dues s.member; phase = Ends role commit []; faults = left-after f dues s.faults }

      keeps : ((all_put dues s.member).up ≡ s.member.up) × ((all_put dues s.member).values ≡ s.member.values) × ((all_put dues s.member).durable.log ≡ s.member.durable.log)
      keeps = put-keeps dues s.member

      same : committed (all_put dues s.member) ≡ committed s.member
      same = λ i. take (keeps.1 i).rest.commit (keeps.2 i)

      over : phase_over kinds m (all-fates f dues) None (after_acts kinds (does kinds w (Begins m)) (consume m feeds.0)) ≡ with_records records (with_seat m (after-puts f) w)
      over =
          ap (λ (z : RunWorld). does kinds (after_acts kinds (does kinds z (Closes m)) (put_all m (all-fates f dues))) (Sends m)) taken
          ∙ ap (λ (z : RunWorld). does kinds (after_acts kinds z (put_all m (all-fates f dues))) (Sends m)) closes-is
          ∙ ap (λ (z : RunWorld). does kinds z (Sends m)) (all-writes f whole dues ending role commit up refl few)
          ∙ sends-is put-seat commit role (keeps.0 ∙ up) refl (subst (λ (l : Log). length l ≤ length w.printed) (sym same) few)
          ∙ ap (λ (l : Log). with_records (sent_in (rules_of kinds) m role l s.applied commit) (with_seat m (after-puts f) w)) keeps.2
