-- The invariant of the runs of services, and what a step of the world owes to keep it.
use Rattle.std.proofs.Common.{◌≡◌, ◌≢◌, ◌⊎◌, inl, inr, ℕ, zero, suc, ◌<◌, ◌≤◌, Bool, true, false, ◌&&◌, ◌||◌, not, List, [], ◌∷◌, length, take, refl, sym, ap, ◌∙◌, subst, arith, ℤ, ◌≤ℤ◌, Some}
use Rattle.std.specs.Prelude.{Contains, slice_get, nat_lt, ⊤}
use Rattle.std.proofs.lemmas.Int.{ints}
use Rattle.std.proofs.lemmas.Bool.{cases_lt, cases_eq}
use Rattle.std.proofs.lemmas.Bool.Decides.{nat_tests}
use Rattle.std.proofs.lemmas.List.{get_or_past}
use Rattle.std.proofs.lemmas.List.Elements.{Contains-append_cases}
use Rattle.std.proofs.lemmas.Option.{slice_get_within}
use Rattle.cl_base.specs.declared.entry.Entry.{Entry}
use Rattle.entry_log.specs.Durable.{SnapshotEntry}
use Rattle.entry_log.specs.Log.{Log}
use Rattle.entry_log.specs.Quorum.{is_quorum}
use Rattle.log_replication.specs.Prefixes.{Leads, leads, Leads-self, Leads-trans}
use Rattle.world.specs.World.{World, member, reigns_at}
use Rattle.consensus_core.specs.Member.{Member, stopped}
use Rattle.entry_log.specs.Durable.{fresh}
use Rattle.world.specs.Safe.{count_below}
use Rattle.world.proofs.Kept.{Inv}
use Rattle.world.proofs.Effects.{if-cases, only_in}
use Rattle.agreement.specs.View.{IsSettled, view_of}
use Rattle.agreement.proofs.Second.{Fits}
use Rattle.agreement.proofs.Fronts.{settled-front}
use Rattle.agreement.proofs.Runs2.{commits-hold}
use Rattle.agreement.proofs.Commits.{take-leads}
use Rattle.agreement.proofs.Moves.{Moves}
use Rattle.service_runs.specs.Hosts.{Rules, Due, Output, Stage, Idle, Taking, Over, Ending, Feeding, Host, Hosted, actions, snap_of, due_for, is_over, marked, follow, printed_by, noted}
use Rattle.consensus_core.specs.Member.{Run, is_ready}
use Rattle.service_runs.specs.Served.{SettledAt, IsNamed, IsOwed}
use Rattle.service_runs.proofs.Lists.{front-get, front-take, lead-get, Leads-by_length, leads-take-up, empty-leads, take-length, take-short, replicate-contains}
use Rattle.agreement.proofs.Fronts.{take-front}

-- the entry is that of a snapshot action below this number of entries
abbrev pub DueOk : Rules → Log → ℕ → Due → Type 0
DueOk r log upto d =
    (k : ℕ) × (x : Entry) × (seat : ℕ) × (k < upto) × (slice_get log k ≡ Some x) × (r.is_action x ≡ true) × (seat ≤ r.services) × (d ≡ due_for r (take k log) x seat) × (actions r (take k log) < 256)

-- what was published of a queue is the log's
abbrev pub FeedOk : Member → Feeding → Type 0
FeedOk x z = (z.published ≤ x.values.rest.commit) × (z.published ≤ length z.fed) × Leads (take z.published z.fed) x.durable.log

abbrev pub StageOk : Rules → Member → ℕ → List Feeding → Stage → Type 0
StageOk r x applied feeds Idle = ⊤
StageOk r x applied feeds Taking = (z : Feeding) → Contains feeds z → FeedOk x z × Leads z.fed x.durable.log
StageOk r x applied feeds Over = (z : Feeding) → Contains feeds z → FeedOk x z
StageOk r x applied feeds (Ending upto due) = (applied ≤ upto) × (upto ≤ x.values.rest.commit) × ((d : Due) → Contains due d → DueOk r x.durable.log upto d)

-- what a running member's runs have to do with its log
pub record HostOk (r : Rules) (w : World) (m : ℕ) (x : Member) (h : Host) : Type 0 where
  pub inputs : (xs : Log) → Contains h.run.inputs xs → Leads xs x.durable.log × (length xs ≤ x.values.rest.commit)
  pub applied : h.applied ≤ x.values.rest.commit
  pub stage : StageOk r x h.applied h.feeds h.stage
  pub role : (t : ℤ) → h.role ≡ Some t → (first : Log) × Contains w.reigns (record { term = t; member = m; first = first })
  -- at a phase's end each service consumed the same entries
  pub closed : (upto : ℕ) (due : List Due) → h.stage ≡ Ending upto due → (xs : Log) → Contains h.run.inputs xs → length xs ≡ upto
  -- a phase that is over lets each service take up to the commit
  pub over : h.stage ≡ Over → (z : Feeding) → Contains h.feeds z → z.published ≡ x.values.rest.commit

abbrev pub PastOk : World → ℕ → Log → List Run → Type 0
PastOk w m printed past = (run : Run) (xs : Log) → Contains past run → Contains run.inputs xs → SettledAt w m xs × Leads xs printed

-- an output of the term in which its member reigns, or reigned as its phase began, was sent of an entry that its module applied
abbrev pub IsBelow : Log → Member → Host → Output → Type 0
IsBelow printed x h o = (e : Entry) → slice_get printed o.entry ≡ Some e → x.up ≡ true → (h.role ≡ Some e.term) ⊎ ((reigns_at x.values.election.state ≡ true) × (x.values.election.term ≡ e.term)) → o.entry < h.applied

abbrev pub IsSame : Output → Output → Type 0
IsSame o o' = (o.entry ≡ o'.entry) × (o.seat ≡ o'.seat) × (o.number ≡ o'.number)

-- no two are of the same entry, seat and number
abbrev pub Once : List Output → Type 0
Once [] = ⊤
Once (o ∷ os) = ((o' : Output) → Contains os o' → IsSame o o' → ⊥) × Once os

pub record Held (n : ℕ) (r : Rules) (w : Hosted) : Type 0 where
  pub inv : Inv n w.world
  pub fits : Fits n w.world
  pub live : (m : ℕ) → (member w.world m).up ≡ true → HostOk r w.world m (member w.world m) (w.hosts m)
  pub past : (m : ℕ) → PastOk w.world m w.printed (w.hosts m).past
  pub snaps : (m : ℕ) (s : SnapshotEntry) → Contains (member w.world m).durable.snapshots s → IsNamed r w.world m s
  pub printed : (c : ℤ) × IsSettled (view_of w.world) c w.printed
  pub commits : (m : ℕ) → m < length w.world.members → (member w.world m).values.rest.commit ≤ length w.printed
  pub owed : (o : Output) → Contains w.outputs o → IsOwed r w o
  pub once : Once w.outputs
  pub below : (m : ℕ) (o : Output) → Contains w.outputs o → o.member ≡ m → IsBelow w.printed (member w.world m) (w.hosts m) o

pub settled-moves : (w v : World) (c c' : ℤ) (xs : Log) → Moves w v → c ≤ℤ c' → IsSettled (view_of w) c xs → IsSettled (view_of v) c' xs
settled-moves w v c c' xs g up (inl e) = inl e
settled-moves w v c c' xs g up (inr s) =
    let done = s.3 in
    let q = done.2 in
    inr (
      s.0,
      s.1,
      (let a = s.2 in omega (arith, ints, a, up)),
      (done.0, done.1, (q.0, subst (λ n. is_quorum n (count_below n q.0) ≡ true) (sym g.count) q.1, λ k yes'. let h = q.2 k yes' in (h.0, g.holdings _ h.1, h.2))),
      s.4,
    )

-- of two settled lists the shorter leads the longer
pub settled-lines : (n : ℕ) (w : World) (c c' : ℤ) (xs ys : Log) → Fits n w → IsSettled (view_of w) c xs → IsSettled (view_of w) c' ys → length xs ≤ length ys → Leads xs ys
settled-lines n w c c' xs ys f (inl e) t h = subst (λ z. Leads z ys) (sym e) tt
settled-lines n w c c' xs ys f (inr s) (inl e) h = empty-leads xs ys (let z = ap length e in omega (arith, z, h))
settled-lines n w c c' xs ys f (inr s) (inr t) h =
    let as' = leads xs s.1 s.4 in
    let bs = leads ys t.1 t.4 in
    elim ((commits-hold n w f).one_line s.0 t.0 s.1 t.1 s.3 t.3) [
      | inl p ↦ Leads-by_length xs ys t.1 (Leads-trans xs s.1 t.1 as' (leads s.1 t.1 p)) bs h
      | inr p ↦ Leads-by_length xs ys s.1 as' (Leads-trans ys t.1 s.1 bs (leads t.1 s.1 p)) h
    ]

-- the log's entries below the commit are settled
pub front-settled : (n : ℕ) (w : World) (m : ℕ) (xs : Log) → Fits n w → Leads xs (member w m).durable.log → length xs ≤ (member w m).values.rest.commit → SettledAt w m xs
front-settled n w m xs f p h = settled-front w (member w m).durable.candidate xs (take (member w m).values.rest.commit (member w m).durable.log) (leads-take-up xs (member w m).durable.log (member w m).values.rest.commit p h) (f.members m).commit.1

pub up-below : (w : World) (m : ℕ) → (member w m).up ≡ true → m < length w.members
up-below w m up = elim (cases_lt m (length w.members)) [
  | inl l ↦ l
  | inr past ↦ absurd (let e = ap (λ (x : Member). x.up) (get_or_past w.members m (stopped fresh) past) in cc)
]

-- what a member's commit stands at leads the printed log
pub commit-printed : (n : ℕ) (r : Rules) (w : Hosted) (m : ℕ) → Held n r w → m < length w.world.members → Leads (take (member w.world m).values.rest.commit (member w.world m).durable.log) w.printed
commit-printed n r w m k l =
    let x = member w.world m in
    settled-lines n w.world x.durable.candidate k.printed.0 (take x.values.rest.commit x.durable.log) w.printed k.fits (k.fits.members m).commit.1 k.printed.1
    (let a = take-short x.values.rest.commit x.durable.log in let b = k.commits m l in omega (arith, a, b))

pub input-printed : (n : ℕ) (r : Rules) (w : Hosted) (m : ℕ) (xs : Log) → Held n r w → (member w.world m).up ≡ true → Leads xs (member w.world m).durable.log → length xs ≤ (member w.world m).values.rest.commit → Leads xs w.printed
input-printed n r w m xs k up p h =
    let x = member w.world m in
    Leads-trans xs (take x.values.rest.commit x.durable.log) w.printed (leads-take-up xs x.durable.log x.values.rest.commit p h) (commit-printed n r w m k (up-below w.world m up))

-- the printed log after a step
abbrev pub Prints : World → ℕ → Log → Log → Type 0
Prints v k p q = ((c : ℤ) × IsSettled (view_of v) c q) × Leads p q × ((j : ℕ) → j < k → (member v j).values.rest.commit ≤ length q)

pub prints : (n : ℕ) (v : World) (k : ℕ) (p : Log) → Fits n v → (c : ℤ) × IsSettled (view_of v) c p → Prints v k p (printed_by k v p)
prints n v zero p f s = (s, Leads-self p, λ j h. absurd (omega (arith, h)))
prints n v (suc k) p f s =
    let z = prints n v k p f s in
    let q = printed_by k v p in
    let x = member v k in
    let t = take x.values.rest.commit x.durable.log in
    let fx = f.members k in
    let len : length t ≡ x.values.rest.commit = take-length x.values.rest.commit x.durable.log fx.commit.0 in
    if-cases (Prints v (suc k) p) (nat_lt (length q) (length t)) t q
    (λ b.
    let lt : length q < length t = grind (arith, nat_tests, b) in (
      (x.durable.candidate, fx.commit.1),
      Leads-trans p q t z.1 (settled-lines n v z.0.0 x.durable.candidate q t f z.0.1 fx.commit.1 (omega (arith, lt))),
      λ j h. elim (cases_eq j k) [ inl e ↦ subst (λ (i : ℕ). (member v i).values.rest.commit ≤ length t) (sym e) (omega (arith, len)) | inr ne ↦ (let a = z.2 j (smaller j k h ne) in omega (arith, a, lt)) ],
    ))
    (λ b.
    let ge : length t ≤ length q = grind (arith, nat_tests, b) in (
      z.0,
      z.1,
      λ j h. elim (cases_eq j k) [ inl e ↦ subst (λ (i : ℕ). (member v i).values.rest.commit ≤ length q) (sym e) (omega (arith, len, ge)) | inr ne ↦ z.2 j (smaller j k h ne) ],
    ))
  where
    smaller : (j k : ℕ) → j < suc k → j ≢ k → j < k
    smaller j k h ne = grind (arith)

pub DueOk-moves : (r : Rules) (log log' : Log) (upto : ℕ) (d : Due) → Leads (take upto log) log' → upto ≤ length log → DueOk r log upto d → DueOk r log' upto d
DueOk-moves r log log' upto d p h z =
    let lt = z.3 in
    (z.0, z.1, z.2, z.3, front-get z.0 upto log log' z.3 p h ∙ z.4, z.5, z.6, z.7 ∙ ap (λ (l : Log). due_for r l z.1 z.2) (sym (front-take z.0 upto log log' (omega (arith, lt)) p h)), subst (λ (l : Log). actions r l < 256) (sym (front-take z.0 upto log log' (omega (arith, lt)) p h)) z.8)

pub IsNamed-moves : (n : ℕ) (r : Rules) (w v : World) (m : ℕ) (s : SnapshotEntry) → Fits n w → Moves w v → IsNamed r w m s → IsNamed r v m s
IsNamed-moves n r w v m s f g z =
    let log = (member w m).durable.log in
    let log' = (member v m).durable.log in
    let mm = g.members m in
    let k = z.0 in
    let within : suc k ≤ length log = (let a = slice_get_within log k z.1 z.3 in omega (arith, a)) in
    let p : Leads (take (suc k) log) log' = mm.logs (take (suc k) log) z.7 (take-leads (suc k) log) in (
      k,
      z.1,
      z.2,
      front-get k (suc k) log log' (omega arith) p within ∙ z.3,
      z.4,
      z.5,
      z.6 ∙ ap (λ (l : Log). snap_of r l z.1 z.2) (sym (front-take k (suc k) log log' (omega arith) p within)),
      subst (SettledAt v m) (sym (front-take (suc k) (suc k) log log' (omega arith) p within)) (settled-moves w v (member w m).durable.candidate (member v m).durable.candidate (take (suc k) log) g mm.candidate z.7),
      subst (λ (l : Log). actions r l < 256) (sym (front-take k (suc k) log log' (omega arith) p within)) z.8,
    )

marked-ending : (x y : Member) (s : Stage) (upto : ℕ) (due : List Due) → marked x y s ≡ Ending upto due → s ≡ Ending upto due
marked-ending x y Idle upto due e = absurd (cc)
marked-ending x y Taking upto due e = if-cases (λ (z : Stage). z ≡ Ending upto due → Taking ≡ Ending upto due) (is_over x y) Over Taking (λ b q. absurd (cc)) (λ b q. absurd (cc)) e
marked-ending x y Over upto due e = absurd (cc)
marked-ending x y (Ending u d) upto due e = e

-- where a phase is over after a step, its member's commit stays, and each service may take up to it
abbrev pub Calms : Hosted → World → Type 0
Calms w v = (m : ℕ) → (member w.world m).up ≡ true → (member v m).up ≡ true → marked (member w.world m) (member v m) (w.hosts m).stage ≡ Over
    → ((member v m).values.rest.commit ≡ (member w.world m).values.rest.commit) × ((z : Feeding) → Contains (w.hosts m).feeds z → z.published ≡ (member w.world m).values.rest.commit)

module _ (n : ℕ) (r : Rules) (w : Hosted) (v : World) (k : Held n r w) (g : Moves w.world v) (i' : Inv n v) (f' : Fits n v) (calm : Calms w v) where
  abbrev w' : Hosted
  w' = noted r w v

  feed-ok : (m : ℕ) (z : Feeding) → (member w.world m).up ≡ true → (member v m).up ≡ true → FeedOk (member w.world m) z → FeedOk (member v m) z
  feed-ok m z was is o =
      let x = member w.world m in
      let mm = g.members m in
      let low = mm.commit was is in
      let at = o.0 in
      ((omega (arith, at, low)), o.1, mm.logs (take z.published z.fed) (front-settled n w.world m (take z.published z.fed) k.fits o.2 (let a = take-short z.published z.fed in omega (arith, a, at))) o.2)

  marked-ok : (m applied : ℕ) (feeds : List Feeding) (s : Stage) → (member w.world m).up ≡ true → (member v m).up ≡ true → StageOk r (member w.world m) applied feeds s → StageOk r (member v m) applied feeds (marked (member w.world m) (member v m) s)
  marked-ok m applied feeds Idle was is o = tt
  marked-ok m applied feeds Taking was is o =
      let x = member w.world m in
      let y = member v m in
      if-cases (StageOk r y applied feeds) (is_over x y) Over Taking
      (λ b z has. feed-ok m z was is (o z has).0)
      (λ b z has.
      let long : length x.durable.log ≤ length y.durable.log = not-shorter (length x.durable.log) (length y.durable.log) (is_ready y.values.election.state && not (is_ready x.values.election.state)) b in
      (feed-ok m z was is (o z has).0, Leads-trans z.fed x.durable.log y.durable.log (o z has).1 ((g.members m).grows is long)))
    where
      not-shorter : (a b : ℕ) (c : Bool) → (nat_lt b a || c) ≡ false → a ≤ b
      not-shorter a b c h = at (nat_lt b a) refl h
        where
          at : (d : Bool) → nat_lt b a ≡ d → (d || c) ≡ false → a ≤ b
          at true e h = absurd (cc)
          at false e h = grind (arith, nat_tests, e)
  marked-ok m applied feeds Over was is o = λ z has. feed-ok m z was is (o z has)
  marked-ok m applied feeds (Ending upto due) was is o =
      let x = member w.world m in
      let mm = g.members m in
      let low : x.values.rest.commit ≤ (member v m).values.rest.commit = mm.commit was is in
      let in_log : x.values.rest.commit ≤ length x.durable.log = (k.fits.members m).commit.0 in
      let at : upto ≤ x.values.rest.commit = o.1 in
      let p : Leads (take upto x.durable.log) (member v m).durable.log = mm.logs (take upto x.durable.log)
      (front-settled n w.world m (take upto x.durable.log) k.fits (take-leads upto x.durable.log) (let a = take-short upto x.durable.log in omega (arith, a, at))) (take-leads upto x.durable.log) in
      (o.0, (omega (arith, at, low)), λ d has. DueOk-moves r x.durable.log (member v m).durable.log upto d p (omega (arith, at, in_log)) (o.2 d has))

  live-noted : (m : ℕ) → (member v m).up ≡ true → HostOk r v m (member v m) (follow r (member w.world m) (member v m) (w.hosts m))
  live-noted m is =
      let x = member w.world m in
      let y = member v m in
      let h = w.hosts m in
      let mm = g.members m in
      if-cases (HostOk r v m y) y.up _ _
      (λ yes. if-cases (HostOk r v m y) x.up _ _
      (λ was.
      let old = k.live m was in
      let low = mm.commit was is in
      record {
        inputs = λ xs has. let z = old.inputs xs has in (mm.logs xs (front-settled n w.world m xs k.fits z.0 z.1) z.0, (let a = z.1 in omega (arith, a, low)));
        applied = (let a = old.applied in omega (arith, a, low));
        stage = marked-ok m h.applied h.feeds h.stage was is old.stage;
        role = λ t e. let z = old.role t e in (z.0, g.reigns _ z.1);
        closed = λ upto due e xs has. old.closed upto due (marked-ending x y h.stage upto due e) xs has;
        over = λ e z has. let c = calm m was is e in c.1 z has ∙ sym c.0;
      })
      (λ was. record {
        inputs = λ xs has.
            subst (λ (z : Log). Leads z y.durable.log × (length z ≤ y.values.rest.commit)) (replicate-contains r.services (take y.values.rest.commit y.durable.log) xs has)
            (take-leads y.values.rest.commit y.durable.log, take-short y.values.rest.commit y.durable.log);
        applied = omega arith;
        stage = tt;
        role = λ t e. absurd (cc);
        closed = λ upto due e. absurd (cc);
        over = λ e. absurd (cc);
      }))
      (λ nope. absurd (cc))

  pub printed' : Prints v (length v.members) w.printed w'.printed
  printed' = prints n v (length v.members) w.printed f' (k.printed.0, settled-moves w.world v k.printed.0 k.printed.0 w.printed g (omega (arith, ints)) k.printed.1)

  past-noted : (m : ℕ) → PastOk v m w'.printed (follow r (member w.world m) (member v m) (w.hosts m)).past
  past-noted m =
      let x = member w.world m in
      let y = member v m in
      let h = w.hosts m in
      let mm = g.members m in
      let old : PastOk v m w'.printed h.past = λ run xs has inp. let z = k.past m run xs has inp in
      (settled-moves w.world v x.durable.candidate y.durable.candidate xs g mm.candidate z.0, Leads-trans xs w.printed w'.printed z.1 printed'.1) in
      if-cases (λ (z : Host). PastOk v m w'.printed z.past) y.up _ _
      (λ is. if-cases (λ (z : Host). PastOk v m w'.printed z.past) x.up _ _ (λ was. old) (λ was. old))
      (λ is. if-cases (λ (z : Host). PastOk v m w'.printed z.past) x.up _ _
      (λ was run xs has inp. elim (Contains-append_cases h.past (h.run ∷ []) run has) [
        | inl a ↦ old run xs a inp
        | inr b ↦
            let z = (k.live m was).inputs xs (subst (λ (q : Run). Contains q.inputs xs) (sym (only_in h.run run b)) inp) in (
              settled-moves w.world v x.durable.candidate y.durable.candidate xs g mm.candidate (front-settled n w.world m xs k.fits z.0 z.1),
              Leads-trans xs w.printed w'.printed (input-printed n r w m xs k was z.0 z.1) printed'.1,
            )
      ])
      (λ was. old))

  owed-noted : (o : Output) → IsOwed r w o → IsOwed r w' o
  owed-noted o z =
      let within : o.entry < length w.printed = slice_get_within w.printed o.entry z.entry z.at in
      record {
        entry = z.entry;
        at = lead-get o.entry w.printed w'.printed printed'.1 within ∙ z.at;
        owed = ap (λ (l : Log). slice_get (r.owed l o.seat) o.number) (take-front (suc o.entry) w.printed w'.printed printed'.1 (omega (arith, within))) ∙ z.owed;
        first = z.first;
        reigned = g.reigns _ z.reigned;
      }

  below-noted : (m : ℕ) (o : Output) → Contains w.outputs o → o.member ≡ m → IsBelow w'.printed (member v m) (follow r (member w.world m) (member v m) (w.hosts m)) o
  below-noted m o has is_m =
      let x = member w.world m in
      let y = member v m in
      let h = w.hosts m in
      let mm = g.members m in
      let z = k.owed o has in
      if-cases (λ q. IsBelow w'.printed y q o) y.up _ _
      (λ is. if-cases (λ q. IsBelow w'.printed y q o) x.up _ _
      (λ was e at up why.
      let old_at : slice_get w.printed o.entry ≡ Some e = sym (lead-get o.entry w.printed w'.printed printed'.1 (slice_get_within w.printed o.entry z.entry z.at)) ∙ at in
      k.below m o has is_m e old_at was (elim why [
        | inl role ↦ inl role
        | inr reign ↦ elim (mm.reign reign.0) [
          | inl same ↦ inr (same.0, sym same.1 ∙ reign.1)
          | inr none ↦ absurd (none _ z.reigned (ap (λ (q : Entry). q.term) (same-entry z.entry e (sym z.at ∙ old_at)) ∙ sym reign.1))
        ]
      ]))
      (λ was e at up why. elim why [ inl role ↦ absurd (cc) | inr reign ↦ absurd (let a = mm.starts was is in let b = reign.0 in cc) ]))
      (λ is e at up why. absurd (cc))
    where
      same-entry : (a b : Entry) → Some a ≡ Some b → a ≡ b
      same-entry a b e = cc

  pub noted-held : ((m : ℕ) (s : SnapshotEntry) → Contains (member v m).durable.snapshots s → Contains (member w.world m).durable.snapshots s ⊎ IsNamed r w.world m s) → Held n r w'
  noted-held new = record {
    inv = i';
    fits = f';
    live = live-noted;
    past = past-noted;
    snaps = λ m s has. IsNamed-moves n r w.world v m s k.fits g (elim (new m s has) [ inl a ↦ k.snaps m s a | inr b ↦ b ]);
    printed = printed'.0;
    commits = printed'.2;
    owed = λ o has. owed-noted o (k.owed o has);
    once = k.once;
    below = below-noted;
  }
