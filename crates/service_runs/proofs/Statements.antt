-- What the invariant says.
use Rattle.std.proofs.Common.{◌≡◌, ◌⊎◌, inl, inr, ℕ, zero, suc, ◌+◌, ◌*◌, ◌<◌, ◌≤◌, Bool, true, false, ◌&&◌, List, [], ◌∷◌, ◌++◌, length, take, refl, sym, ap, ◌∙◌, subst, arith, ℤ, negsuc, Some}
use Rattle.std.specs.Prelude.{slice_get, nat_eq, nat_le}
use Rattle.std.proofs.lemmas.Int.{ints}
use Rattle.std.proofs.lemmas.Bool.{cases_lt}
use Rattle.std.proofs.lemmas.Bool.Decides.{nat_tests}
use Rattle.std.proofs.lemmas.List.{get_or_past}
use Rattle.std.proofs.lemmas.Option.{slice_get_within}
use Rattle.cl_base.specs.declared.entry.Entry.{Entry}
use Rattle.entry_log.specs.Durable.{SnapshotEntry}
use Rattle.entry_log.specs.Log.{same_term}
use Rattle.entry_log.specs.Log.{Log, IsPrefixOf, place, last}
use Rattle.log_replication.specs.Prefixes.{Leads, is_prefix}
use Rattle.world.specs.World.{World, member, names}
use Rattle.consensus_core.specs.Member.{Member, stopped}
use Rattle.consensus_core.specs.OverLog.{entries_to}
use Rattle.entry_log.specs.Durable.{fresh}
use Rattle.service_runs.specs.Hosts.{Rules, Due, Taking, Ending, Hosted, input, feed_of, actions, snap_of}
use Rattle.service_runs.specs.Served.{IsNamed, SnapsHold, InputsHold, PrintedHolds, OutputsHold}
use Rattle.agreement.proofs.Commits.{entries_to-take}
use Rattle.agreement.proofs.Snaps2.{log-written}
use Rattle.service_runs.proofs.Lists.{next-same, take-snoc, take-length, last-of_snoc}
use Rattle.service_runs.proofs.Held.{DueOk, StageOk, Held, front-settled, input-printed, commit-printed}
use Rattle.service_runs.proofs.Sendings.{once-index, actions-below}
use Rattle.service_runs.proofs.Acts.{due-named, ending, feed_of-ok, input-ok}

entry-same : (a b : Entry) → Some a ≡ Some b → a ≡ b
entry-same a b e = cc

three : (a b : ℕ) → (a < b) ⊎ ((b < a) ⊎ (a ≡ b))
three a b = grind (arith)

-- two entries with one recording id are one
same-recording : (r : Rules) (w : World) (m : ℕ) (s s' : SnapshotEntry) → r.services ≤ 3 → IsNamed r w m s → IsNamed r w m s' → s.recording ≡ s'.recording → s ≡ s'
same-recording r w m s s' few z z' same =
    let log = (member w m).durable.log in
    let a = actions r (take z.0 log) in
    let a' = actions r (take z'.0 log) in
    let is : s.recording ≡ 4 * a + z.2 = ap (λ (q : SnapshotEntry). q.recording) z.6 in
    let is' : s'.recording ≡ 4 * a' + z'.2 = ap (λ (q : SnapshotEntry). q.recording) z'.6 in
    let low = z.5 in
    let low' = z'.5 in
    let eq : 4 * a + z.2 ≡ 4 * a' + z'.2 = sym is ∙ same ∙ is' in
    let number : a ≡ a' = omega (arith, eq, low, low', few) in
    let seat : z.2 ≡ z'.2 = omega (arith, eq, low, low', few) in
    let at : z.0 ≡ z'.0 = elim (three z.0 z'.0) [
      | inl lt ↦ absurd (let h = actions-below r log z.0 z'.0 z.1 z.3 z.4 lt in omega (arith, h, number))
      | inr more ↦ elim more [ inl gt ↦ absurd (let h = actions-below r log z'.0 z.0 z'.1 z'.3 z'.4 gt in omega (arith, h, number)) | inr e ↦ e ]
    ] in
    let entry : z.1 ≡ z'.1 = entry-same z.1 z'.1 (sym z.3 ∙ ap (slice_get log) at ∙ z'.3) in
    z.6 ∙ (λ i. snap_of r (take (at i) log) (entry i) (seat i)) ∙ sym z'.6

-- what is due passes the world's test
due-passes : (n : ℕ) (r : Rules) (w : Hosted) (m upto : ℕ) (d : Due) → Held n r w → upto ≤ (member w.world m).values.rest.commit → DueOk r (member w.world m).durable.log upto d → names d.entries d.snap (member w.world m) ≡ true
due-passes n r w m upto d k le z =
    let x = member w.world m in
    let log = x.durable.log in
    let lt = z.3 in
    let within : z.0 < length log = slice_get_within log z.0 z.1 z.4 in
    let len : length (take z.0 log) ≡ z.0 = take-length z.0 log (omega (arith, within)) in
    let next : take (suc z.0) log ≡ take z.0 log ++ z.1 ∷ [] = take-snoc z.0 z.1 log z.4 in
    let entries : d.entries ≡ suc z.0 = ap (λ (q : Due). q.entries) z.7 ∙ ap suc len in
    let front : take d.entries log ≡ take z.0 log ++ z.1 ∷ [] = ap (λ (i : ℕ). take i log) entries ∙ next in
    let position : (d.snap).position ≡ place (take d.entries log) = ap (λ (q : Due). (q.snap).position) z.7 ∙ ap place (sym front) in
    let term : (d.snap).term ≡ last (take d.entries log) = ap (λ (q : Due). (q.snap).term) z.7 ∙ sym (last-of_snoc (negsuc 0) (take z.0 log) z.1) ∙ ap last (sym front) in
    let one : nat_le d.entries x.values.rest.commit ≡ true = grind (arith, nat_tests, entries, lt, le) in
    let two : nat_eq (d.snap).position (place (take d.entries log)) ≡ true = grind (arith, nat_tests, position) in
    let three' : same_term (d.snap).term (last (take d.entries log)) ≡ true = subst (λ (t : ℤ). same_term (d.snap).term t ≡ true) term (number-self (d.snap).term) in
    and-all (nat_le d.entries x.values.rest.commit) (nat_eq (d.snap).position (place (take d.entries log))) (same_term (d.snap).term (last (take d.entries log))) one two three'
  where
    number-self : (t : ℤ) → same_term t t ≡ true
    number-self t = grind (arith, ints)

    and-all : (a b c : Bool) → a ≡ true → b ≡ true → c ≡ true → (a && (b && c)) ≡ true
    and-all true true true e f g = refl
    and-all true true false e f g = absurd (cc)
    and-all true false c e f g = absurd (cc)
    and-all false b c e f g = absurd (cc)

pub snaps-hold : (n : ℕ) (r : Rules) (w : Hosted) → Held n r w → SnapsHold r w
snaps-hold n r w k = record {
  named = k.snaps;
  made = λ m upto d due up e. let st = stage m upto d due up e in due-passes n r w m upto d k st.1 (st.2 d (0, omega arith, refl));
  meets = λ m upto d due s few up e has same.
      let st = stage m upto d due up e in
      same-recording r w.world m s d.snap few (k.snaps m s has) (due-named n r w.world m upto d k.fits st.1 (st.2 d (0, omega arith, refl))) same;
  ends = λ m s has.
      let z = k.snaps m s has in
      let log = (member w.world m).durable.log in
      let within : suc z.0 ≤ length log = (let a = slice_get_within log z.0 z.1 z.3 in omega (arith, a)) in
      let at : s.position ≡ place (take (suc z.0) log) = ap (λ (q : SnapshotEntry). q.position) z.6 ∙ ap place (sym (take-snoc z.0 z.1 log z.3)) in
      (z.0, z.1, z.3, z.4, ap (λ (p : ℕ). entries_to p log) at ∙ entries_to-take 0 (suc z.0) log (log-written n w.world m k.fits log refl).0 within);
  low = λ m s few has.
      let z = k.snaps m s has in
      let is : s.recording ≡ 4 * actions r (take z.0 (member w.world m).durable.log) + z.2 = ap (λ (q : SnapshotEntry). q.recording) z.6 in
      let a = z.5 in
      let b = z.8 in
      omega (arith, is, a, b, few);
  once = λ m s s' few has has' same. same-recording r w.world m s s' few (k.snaps m s has) (k.snaps m s' has') same;
}
  where
    stage : (m upto : ℕ) (d : Due) (due : List Due) → (member w.world m).up ≡ true → (w.hosts m).stage ≡ Ending upto (d ∷ due) → StageOk r (member w.world m) (w.hosts m).applied (w.hosts m).feeds (Ending upto (d ∷ due))
    stage m upto d due up e = ending r (member w.world m) (w.hosts m).applied (w.hosts m).feeds (w.hosts m).stage (Ending upto (d ∷ due)) e (k.live m up).stage

pub inputs-hold : (n : ℕ) (r : Rules) (w : Hosted) → Held n r w → InputsHold w
inputs-hold n r w k = record {
  lasts = λ m xs up has. let z = (k.live m up).inputs xs has in (is_prefix xs (member w.world m).durable.log z.0, z.1, front-settled n w.world m xs k.fits z.0 z.1);
  next = λ m s up t room.
      let ok = k.live m up in
      let feed = feed_of-ok r w.world m (member w.world m) (w.hosts m) s t ok in
      next-same (feed_of (w.hosts m) s).published (input (w.hosts m) s) (feed_of (w.hosts m) s).fed (member w.world m).durable.log (input-ok r w.world m (member w.world m) (w.hosts m) s ok) feed.2 room feed.1;
  fed = λ m z up t has. is_prefix z.fed (member w.world m).durable.log (taking m up t z has).1;
  closed = λ m upto due xs up e has. let ok = k.live m up in is-take xs (member w.world m).durable.log upto (ok.inputs xs has).0 (ok.closed upto due e xs has);
  over = λ m z up e has. (k.live m up).over e z has;
  ended = λ m run xs has inp. (k.past m run xs has inp).0;
}
  where
    is-take : (xs log : Log) (upto : ℕ) → Leads xs log → length xs ≡ upto → xs ≡ take upto log
    is-take [] log upto p e = ap (λ i. take i log) e
    is-take (x ∷ xs) [] upto p e = absurd p
    is-take (x ∷ xs) (y ∷ ys) zero p e = absurd (omega (arith, e))
    is-take (x ∷ xs) (y ∷ ys) (suc u) p e = (λ i. p.0 i ∷ is-take xs ys u p.1 (omega (arith, e)) i)

    taking : (m : ℕ) → (member w.world m).up ≡ true → (w.hosts m).stage ≡ Taking → StageOk r (member w.world m) (w.hosts m).applied (w.hosts m).feeds Taking
    taking m up t = ending r (member w.world m) (w.hosts m).applied (w.hosts m).feeds (w.hosts m).stage Taking t (k.live m up).stage

pub printed-holds : (n : ℕ) (r : Rules) (w : Hosted) → Held n r w → PrintedHolds w
printed-holds n r w k = record {
  commits = λ m. elim (cases_lt m (length w.world.members)) [
    | inl l ↦ is_prefix (take (member w.world m).values.rest.commit (member w.world m).durable.log) w.printed (commit-printed n r w m k l)
    | inr past ↦ subst (λ (x : Member). IsPrefixOf (take x.values.rest.commit x.durable.log) w.printed) (sym (get_or_past w.world.members m (stopped fresh) past)) (w.printed, refl)
  ];
  lasts = λ m xs up has. let z = (k.live m up).inputs xs has in is_prefix xs w.printed (input-printed n r w m xs k up z.0 z.1);
  ended = λ m run xs has inp. is_prefix xs w.printed (k.past m run xs has inp).1;
}

pub outputs-hold : (n : ℕ) (r : Rules) (w : Hosted) → Held n r w → OutputsHold r w
outputs-hold n r w k = record {
  owed = k.owed;
  once = λ i j o o' a b entry seat number. once-index w.outputs i j o o' k.once a b (entry, seat, number);
}
