-- The acts of a phase's end, from where each of its services has consumed all that is committed.
use Rattle.std.proofs.Common.{◌≡◌, ℕ, ◌+◌, ◌<◌, ◌≤◌, ℤ, Bool, true, false, ◌&&◌, List, [], ◌∷◌, ◌++◌, length, map, take, Option, Some, None, refl, sym, ap, ◌∙◌, subst, arith, if◌then◌else◌}
use Rattle.std.specs.Prelude.{nat_eq, nat_lt}
use Rattle.std.proofs.lemmas.Bool.Decides.{nat_tests}
use Rattle.entry_log.specs.Durable.{Durable}
use Rattle.entry_log.specs.Log.{Log}
use Rattle.service_api.specs.declared.shipped.Kind.{Kind}
use Rattle.consensus_core.specs.Member.{After, Before, Cut, Member, Whole, puts, stopped}
use Rattle.service_runs.specs.Hosts.{Due, all_reach, due_in, sent_in}
use Rattle.service_runs.proofs.Lists.{take-length}
use Rattle.one_log.specs.Ruled.{rules_of}
use Rattle.run_world.specs.Rounds.{phase_over, put_all}
use Rattle.run_world.specs.Seat.{Fate, Faults, Phase, Goes, Ends, Seat, becomes, closed, faults_left, halted, rested, sent as at_its_end, went_on, written}
use Rattle.run_world.specs.RunWorld.{Closes, Fails, RunWorld, Sends, Writes, after_acts, closes, committed, does, is_up, put, seat, sends, with_records, writes}
use Rattle.run_world.proofs.Rows.{both}
use Rattle.member_phases.specs.Seats.{all_fed, with_seat}
use Rattle.member_phases.specs.Snapshots.{all_put}
use Rattle.member_phases.proofs.Worlds.{put-is, seat-there, seat-twice, still-there}

and-false : (a b : Bool) → b ≡ false → (a && b) ≡ false
and-false true b e = e
and-false false b e = refl

all-reach : (commit : ℕ) (log : Log) (xss : List Log) → commit ≤ length log → all_reach commit (map (λ (xs : Log). take commit log) xss) ≡ true
all-reach commit log [] low = refl
all-reach commit log (xs ∷ xss) low =
    both (nat_eq (length (take commit log)) commit) (all_reach commit (map (λ (ys : Log). take commit log) xss)) (let e = take-length commit log low in grind (arith, nat_tests, e)) (all-reach commit log xss low)

-- what is left of a disk's faults once some were put with the same fate
abbrev pub faults_after : Fate → List Due → Faults → Faults
faults_after f [] x = x
faults_after f (d ∷ due) x = faults_left f x

faults-twice : (f : Fate) (due : List Due) (x : Faults) → faults_after f due (faults_left f x) ≡ faults_left f x
faults-twice f [] x = refl
faults-twice f (d ∷ due) x = refl

abbrev pub each_fate : Fate → List Due → List Fate
each_fate f due = map (λ (d : Due). f) due

-- putting changes the snapshots alone
pub keeps-put : (due : List Due) (x : Member) → ((all_put due x).up ≡ x.up) × ((all_put due x).values ≡ x.values) × ((all_put due x).durable.log ≡ x.durable.log)
keeps-put [] x = (refl, refl, refl)
keeps-put (d ∷ due) x = keeps-put due (puts d.snap Whole x)

module _ (kinds : List Kind) (w : RunWorld) (m : ℕ) (low : m < length w.seats) where
  pub there-up : (t : Seat) → t.member.up ≡ true → is_up (with_seat m t w) m ≡ true
  there-up t on =
      let l = still-there w m t low in
      both (nat_lt m (length (with_seat m t w).seats)) (seat (with_seat m t w) m).member.up (grind (arith, nat_tests, l)) (ap (λ (z : Seat). z.member.up) (seat-there w m t low) ∙ on)

  there-down : (t : Seat) → t.member.up ≡ false → is_up (with_seat m t w) m ≡ false
  there-down t off = and-false (nat_lt m (length (with_seat m t w).seats)) (seat (with_seat m t w) m).member.up (ap (λ (z : Seat). z.member.up) (seat-there w m t low) ∙ off)

  -- its end begins
  closes-to : (t : Seat) (role : Option ℤ) (over : Bool) → t.member.up ≡ true → t.phase ≡ Goes role over → t.member.values.rest.commit ≤ length t.member.durable.log → length (committed t.member) ≤ length w.printed
      → does kinds (with_seat m (all_fed t) w) (Closes m) ≡ with_seat m (closed (rules_of kinds) role (all_fed t)) w
  closes-to t role over on goes within few =
      let f = all_fed t in
      let u = with_seat m f w in
      let there = seat-there w m f low in
      let next = closed (rules_of kinds) role f in
      ap (λ (b : Bool). if b then closes (rules_of kinds) m (seat u m).phase u else u) (there-up f on)
      ∙ ap (λ (p : Phase). closes (rules_of kinds) m p u) (ap (λ (z : Seat). z.phase) there ∙ goes)
      ∙ ap (λ (z : Seat). if all_reach z.member.values.rest.commit z.run.inputs then put m (closed (rules_of kinds) role z) [] u else u) there
      ∙ ap (λ (b : Bool). if b then put m next [] u else u) (all-reach t.member.values.rest.commit t.member.durable.log t.run.inputs within)
      ∙ put-is u m next few
      ∙ seat-twice w m f next

  -- a snapshot is put whole
  one-write : (f : Fate) → f.cut ≡ Whole → (t : Seat) (led : Option ℤ) (upto : ℕ) (d : Due) (due : List Due) → t.member.up ≡ true → t.phase ≡ Ends led upto (d ∷ due) → length (committed t.member) ≤ length w.printed
      → does kinds (with_seat m t w) (Writes m f) ≡ with_seat m (record t { member = puts d.snap Whole t.member; phase = Ends led upto due; faults = faults_left f t.faults }) w
  one-write f whole t led upto d due on ends few =
      let u = with_seat m t w in
      let there = seat-there w m t low in
      let y = puts d.snap Whole t.member in
      let new : Seat = record t { member = y; phase = Ends led upto due; faults = faults_left f t.faults } in
      ap (λ (b : Bool). if b then writes m (seat u m).phase f u else u) (there-up t on)
      ∙ ap (λ (p : Phase). writes m p f u) (ap (λ (z : Seat). z.phase) there ∙ ends)
      ∙ ap (λ (z : Seat). put m (written led upto d due f z) [] u) there
      ∙ ap (λ (c : Cut). put m (becomes (puts d.snap c t.member) f (record t { phase = Ends led upto due })) [] u) whole
      ∙ ap (λ (b : Bool). put m (if b then went_on y f (record t { phase = Ends led upto due }) else halted y f.own (record t { phase = Ends led upto due })) [] u) on
      ∙ put-is u m new few
      ∙ seat-twice w m t new

  -- or cut, which stops its member
  cut-write : (f : Fate) (e : Durable) (t : Seat) (led : Option ℤ) (upto : ℕ) (d : Due) (due : List Due) → puts d.snap f.cut t.member ≡ stopped e → t.member.up ≡ true → t.phase ≡ Ends led upto (d ∷ due)
      → does kinds (with_seat m t w) (Writes m f) ≡ with_seat m (halted (stopped e) f.own t) w
  cut-write f e t led upto d due is on ends =
      let u = with_seat m t w in
      let there = seat-there w m t low in
      let new : Seat = halted (stopped e) f.own t in
      ap (λ (b : Bool). if b then writes m (seat u m).phase f u else u) (there-up t on)
      ∙ ap (λ (p : Phase). writes m p f u) (ap (λ (z : Seat). z.phase) there ∙ ends)
      ∙ ap (λ (z : Seat). put m (written led upto d due f z) [] u) there
      ∙ ap (λ (y : Member). put m (becomes y f (record t { phase = Ends led upto due })) [] u) is
      ∙ put-is u m new (omega arith)
      ∙ seat-twice w m t new

  -- a stopped member sends nothing
  none-sent : (t : Seat) → t.member.up ≡ false → does kinds (with_seat m t w) (Sends m) ≡ with_seat m t w
  none-sent t off = let u = with_seat m t w in ap (λ (b : Bool). if b then sends (rules_of kinds) m (seat u m).phase u else u) (there-down t off)

  -- ---- the end that a fault cuts

  -- after some of the snapshots the member stops
  abbrev pub Stopping : Seat → List Due → ℕ → Type 0
  Stopping t due own = (fates : List Fate) × (does kinds (after_acts kinds (with_seat m t w) (put_all m fates)) (Sends m) ≡ with_seat m (halted (stopped (all_put due t.member).durable) own t) w)

  last-cut : (c : Cut) (e : Durable) (own : ℕ) (t : Seat) (led : Option ℤ) (upto : ℕ) (d : Due) (due : List Due) → puts d.snap c t.member ≡ stopped e → t.member.up ≡ true → t.phase ≡ Ends led upto (d ∷ due)
      → does kinds (after_acts kinds (with_seat m t w) (put_all m (record { cut = c; lets = None; own = own } ∷ []))) (Sends m) ≡ with_seat m (halted (stopped e) own t) w
  last-cut c e own t led upto d due is on ends =
      ap (λ (z : RunWorld). does kinds z (Sends m)) (cut-write (record { cut = c; lets = None; own = own }) e t led upto d due is on ends)
      ∙ none-sent (halted (stopped e) own t) refl

  one-more : (own : ℕ) (t : Seat) (led : Option ℤ) (upto : ℕ) (d : Due) (due more : List Due) → t.member.up ≡ true → t.phase ≡ Ends led upto (d ∷ (due ++ more)) → length (committed t.member) ≤ length w.printed
      → Stopping (record t { member = puts d.snap Whole t.member; phase = Ends led upto (due ++ more); faults = faults_left (record { cut = Whole; lets = None; own = own }) t.faults }) due own → Stopping t (d ∷ due) own
  one-more own t led upto d due more on ends few z =
      let f : Fate = record { cut = Whole; lets = None; own = own } in (
        f ∷ z.0,
        ap (λ (v : RunWorld). does kinds (after_acts kinds v (put_all m z.0)) (Sends m)) (one-write f refl t led upto d (due ++ more) on ends few) ∙ z.1,
      )

  stops-at : (own : ℕ) (due more : List Due) (t : Seat) (led : Option ℤ) (upto : ℕ) → 1 ≤ length due + length more → t.member.up ≡ true → t.phase ≡ Ends led upto (due ++ more) → length (committed t.member) ≤ length w.printed → Stopping t due own
  stops-at own [] [] t led upto some on ends few = absurd (omega (arith, some))
  stops-at own [] (d ∷ more) t led upto some on ends few = (record { cut = Before; lets = None; own = own } ∷ [], last-cut Before t.member.durable own t led upto d more refl on ends)
  stops-at own (d ∷ []) [] t led upto some on ends few = (record { cut = After; lets = None; own = own } ∷ [], last-cut After (puts d.snap Whole t.member).durable own t led upto d [] refl on ends)
  stops-at own (d ∷ []) (x ∷ more) t led upto some on ends few =
      one-more own t led upto d [] (x ∷ more) on ends few
      (stops-at own [] (x ∷ more) (record t { member = puts d.snap Whole t.member; phase = Ends led upto (x ∷ more); faults = faults_left (record { cut = Whole; lets = None; own = own }) t.faults }) led upto (omega arith) on refl few)
  stops-at own (d ∷ y ∷ due) more t led upto some on ends few =
      one-more own t led upto d (y ∷ due) more on ends few
      (stops-at own (y ∷ due) more (record t { member = puts d.snap Whole t.member; phase = Ends led upto ((y ∷ due) ++ more); faults = faults_left (record { cut = Whole; lets = None; own = own }) t.faults }) led upto (omega arith) on refl few)

  fails-to : (own : ℕ) (t : Seat) → t.member.up ≡ true → does kinds (with_seat m t w) (Fails m own) ≡ with_seat m (halted (stopped t.member.durable) own t) w
  fails-to own t on =
      let u = with_seat m t w in
      let new : Seat = halted (stopped t.member.durable) own t in
      ap (λ (b : Bool). if b then put m (rested own (seat u m)) [] u else u) (there-up t on)
      ∙ ap (λ (z : Seat). put m (rested own z) [] u) (seat-there w m t low)
      ∙ put-is u m new (omega arith)
      ∙ seat-twice w m t new

  -- ---- from where all is consumed

  module _ (t : Seat) (role : Option ℤ) (over : Bool) (on : t.member.up ≡ true) (goes : t.phase ≡ Goes role over) (within : t.member.values.rest.commit ≤ length t.member.durable.log) (few : length (committed t.member) ≤ length w.printed) where
    abbrev pub due_here : List Due
    due_here = due_in (rules_of kinds) t.member.durable.log t.applied t.member.values.rest.commit

    abbrev pub StoppedAt : List Due → ℕ → Type 0
    StoppedAt due own = (fates : List Fate) × (fails : Option ℕ) × (phase_over kinds m fates fails (with_seat m (all_fed t) w) ≡ with_seat m (halted (stopped (all_put due t.member).durable) own (all_fed t)) w)

    by-writes : (own : ℕ) (due more : List Due) → 1 ≤ length due + length more → due_here ≡ due ++ more → StoppedAt due own
    by-writes own due more some same =
        let z = stops-at own due more (closed (rules_of kinds) role (all_fed t)) role t.member.values.rest.commit some on (ap (λ (ds : List Due). Ends role t.member.values.rest.commit ds) same) few in
        (z.0, None, ap (λ (v : RunWorld). does kinds (after_acts kinds v (put_all m z.0)) (Sends m)) (closes-to t role over on goes within few) ∙ z.1)

    -- a fault stopped it once so many were put
    pub stopped-at : (own : ℕ) (due more : List Due) → due_here ≡ due ++ more → StoppedAt due own
    stopped-at own [] [] same = ([], Some own, fails-to own (all_fed t) on)
    stopped-at own [] (d ∷ more) same = by-writes own [] (d ∷ more) (omega arith) same
    stopped-at own (d ∷ due) more same = by-writes own (d ∷ due) more (omega arith) same

    -- ---- the whole end

    all-writes : (f : Fate) → f.cut ≡ Whole → (due : List Due) (s : Seat) (led : Option ℤ) (upto : ℕ) → s.member.up ≡ true → s.phase ≡ Ends led upto due → length (committed s.member) ≤ length w.printed
        → after_acts kinds (with_seat m s w) (put_all m (each_fate f due)) ≡ with_seat m (record s { member = all_put due s.member; phase = Ends led upto []; faults = faults_after f due s.faults }) w
    all-writes f whole [] s led upto up ends printed = ap (λ (p : Phase). with_seat m (record s { phase = p }) w) ends
    all-writes f whole (d ∷ due) s led upto up ends printed =
        let next : Seat = record s { member = puts d.snap Whole s.member; phase = Ends led upto due; faults = faults_left f s.faults } in
        ap (λ (z : RunWorld). after_acts kinds z (put_all m (each_fate f due))) (one-write f whole s led upto d due up ends printed)
        ∙ all-writes f whole due next led upto up refl printed
        ∙ ap (λ (x : Faults). with_seat m (record s { member = all_put due (puts d.snap Whole s.member); phase = Ends led upto []; faults = x }) w) (faults-twice f due s.faults)

    sends-to : (s : Seat) (upto : ℕ) (led : Option ℤ) → s.member.up ≡ true → s.phase ≡ Ends led upto [] → length (committed s.member) ≤ length w.printed
        → does kinds (with_seat m s w) (Sends m) ≡ with_records (sent_in (rules_of kinds) m led s.member.durable.log s.applied upto) (with_seat m (at_its_end upto s) w)
    sends-to s upto led up ends printed =
        let u = with_seat m s w in
        let there = seat-there w m s low in
        ap (λ (b : Bool). if b then sends (rules_of kinds) m (seat u m).phase u else u) (there-up s up)
        ∙ ap (λ (p : Phase). sends (rules_of kinds) m p u) (ap (λ (z : Seat). z.phase) there ∙ ends)
        ∙ ap (λ (z : Seat). with_records (sent_in (rules_of kinds) m led z.member.durable.log z.applied upto) (put m (at_its_end upto z) [] u)) there
        ∙ ap (with_records (sent_in (rules_of kinds) m led s.member.durable.log s.applied upto)) (put-is u m (at_its_end upto s) printed ∙ seat-twice w m s (at_its_end upto s))

    abbrev pub ended : Fate → Seat
    ended f = record (at_its_end t.member.values.rest.commit (all_fed t)) { member = all_put due_here t.member; faults = faults_after f due_here t.faults }

    pub ends-whole : (f : Fate) → f.cut ≡ Whole → phase_over kinds m (each_fate f due_here) None (with_seat m (all_fed t) w)
        ≡ with_records (sent_in (rules_of kinds) m role t.member.durable.log t.applied t.member.values.rest.commit) (with_seat m (ended f) w)
    ends-whole f whole =
        let commit = t.member.values.rest.commit in
        let last : Seat = record (closed (rules_of kinds) role (all_fed t)) { member = all_put due_here t.member; phase = Ends role commit []; faults = faults_after f due_here t.faults } in
        let keeps = keeps-put due_here t.member in
        let same : committed (all_put due_here t.member) ≡ committed t.member = (λ i. take (keeps.1 i).rest.commit (keeps.2 i)) in
        ap (λ (z : RunWorld). does kinds (after_acts kinds z (put_all m (each_fate f due_here))) (Sends m)) (closes-to t role over on goes within few)
        ∙ ap (λ (z : RunWorld). does kinds z (Sends m)) (all-writes f whole due_here (closed (rules_of kinds) role (all_fed t)) role commit on refl few)
        ∙ sends-to last commit role (keeps.0 ∙ on) refl (subst (λ (l : Log). length l ≤ length w.printed) (sym same) few)
        ∙ ap (λ (l : Log). with_records (sent_in (rules_of kinds) m role l t.applied commit) (with_seat m (ended f) w)) keeps.2
