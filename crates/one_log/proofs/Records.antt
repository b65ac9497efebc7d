-- What the valid snapshot entries of a world record.
use Rattle.std.proofs.Common.{◌≡◌, ◌≢◌, inl, inr, ℕ, zero, suc, ◌<◌, ◌≤◌, Bool, true, false, ◌&&◌, ◌||◌, List, [], ◌∷◌, ◌++◌, length, take, refl, sym, ap, ◌∙◌, subst, arith, ℤ, pos, negsuc, Some, Option, Ok}
use Rattle.std.specs.Prelude.{Contains, nat_eq}
use Rattle.std.specs.List.{list_any}
use Rattle.std.proofs.lemmas.Int.{ints}
use Rattle.std.proofs.lemmas.Bool.{cases_eq}
use Rattle.std.proofs.lemmas.Bool.Decides.{nat_tests}
use Rattle.cl_base.specs.declared.entry.Entry.{Entry}
use Rattle.entry_log.specs.Durable.{SnapshotEntry, SnapshotSet, is_entry_of, have_services, has_set, sets_in, sets_of, latest_set, entries_of_set, first_commit}
use Rattle.agreement.proofs.Snaps2.{Every, with_set-every, last_set-every}
use Rattle.entry_log.specs.Shape.{shape_of}
use Rattle.entry_log.specs.Log.{Log, last, place, same_term}
use Rattle.log_replication.specs.Prefixes.{Leads, leads, is_prefix}
use Rattle.service_api.specs.declared.shipped.Kind.{Kind}
use Rattle.module_state.specs.Services.{history_of, module_of}
use Rattle.module_state.specs.Entries.{events_in}
use Rattle.module_state.specs.Recorded.{module_from_pieces}
use Rattle.module_state.proofs.FewLaws.{log_restored}
use Rattle.world.specs.World.{member}
use Rattle.consensus_core.specs.OverLog.{entries_to}
use Rattle.world.proofs.Rows.{and_true}
use Rattle.world.proofs.Effects.{if-cases}
use Rattle.agreement.proofs.Commits.{take-leads, entries_to-take}
use Rattle.agreement.proofs.Snaps2.{cons-here, cons-later, ends_by-entries, log-written, same_term-is}
use Rattle.service_runs.specs.Hosts.{service_of}
use Rattle.service_runs.proofs.Lists.{take-snoc, last-of_snoc}
use Rattle.one_log.specs.Led.{Led}
use Rattle.one_log.specs.Formed.{IsFormed}
use Rattle.one_log.specs.Ruled.{rules_of, pieces_in, records_of, AreRecorded, StartsRestore}
use Rattle.one_log.proofs.Good.{is-formed}
use Rattle.one_log.proofs.Formed.{good-settled}
use Rattle.one_log.proofs.Turns.{Stays, leads-length}

pub are-recorded : (n : ℕ) (kinds : List Kind) (w : Led) → Stays n kinds (rules_of kinds) w → AreRecorded kinds w
are-recorded n kinds w st m s has =
    let log = (member w.hosted.world m).durable.log in
    let z = st.held.snaps m s has in
    let k = z.0 in
    let x : Entry = z.1 in
    let front : Log = take (suc k) log in
    let whole : front ≡ take k log ++ x ∷ [] = take-snoc k x log z.3 in
    let formed : IsFormed kinds w.hosted.world.now front = is-formed kinds w.hosted.world.now front (good-settled n kinds w.hosted.world (member w.hosted.world m).durable.candidate front st.held.fits st.formed z.7) in
    let made = z.6 in
    record {
      seat = z.2;
      front = front;
      of_log = is_prefix front log (take-leads (suc k) log);
      settled = z.7;
      formed = formed;
      within = z.5;
      service = ap (λ (u : SnapshotEntry). u.service) made;
      term = ap (λ (u : SnapshotEntry). u.term) made ∙ sym (last-of_snoc (negsuc 0) (take k log) x) ∙ ap last (sym whole);
      position = ap (λ (u : SnapshotEntry). u.position) made ∙ ap place (sym whole);
      pieces = ap (λ (u : SnapshotEntry). u.pieces) made ∙ ap (λ (u : Log). pieces_in kinds u z.2) (sym whole);
      restored = log_restored (length kinds) (history_of kinds (events_in front)) formed.formed.allowed;
    }

-- ---- what a start begins with

-- the set of each entry is whole
sets-whole : (services : ℕ) (all es : List SnapshotEntry) → Every (λ b. has_set services all b.term b.position ≡ true) (sets_in services all es)
sets-whole services all [] = tt
sets-whole services all (x ∷ xs) =
    let whole : SnapshotSet → Type 0 = λ b. has_set services all b.term b.position ≡ true in
    let rest = sets-whole services all xs in
    if-cases (Every whole) (has_set services all x.term x.position) _ _
    (λ h. with_set-every whole (record { position = x.position; term = x.term }) (sets_in services all xs) h rest)
    (λ h. rest)

latest-whole : (services : ℕ) (all : List SnapshotEntry) (b : SnapshotSet) → latest_set services all ≡ Some b → has_set services all b.term b.position ≡ true
latest-whole services all b e = last_set-every (λ c. has_set services all c.term c.position ≡ true) (sets_of services all) b (sets-whole services all all) e

or-right : (a b : Bool) → a ≡ false → (a || b) ≡ true → b ≡ true
or-right false b p q = q
or-right true b p q = absurd (cc)

any-has : (test : SnapshotEntry → Bool) (xs : List SnapshotEntry) → list_any test xs ≡ true → (x : SnapshotEntry) × Contains xs x × (test x ≡ true)
any-has test [] h = absurd (cc)
any-has test (x ∷ xs) h = at (test x) refl (any-has test xs)
  where
    at : (b : Bool) → test x ≡ b → (list_any test xs ≡ true → (y : SnapshotEntry) × Contains xs y × (test y ≡ true)) → (y : SnapshotEntry) × Contains (x ∷ xs) y × (test y ≡ true)
    at true e more = (x, cons-here x xs, e)
    at false e more = let q = more (or-right (test x) (list_any test xs) e h) in (q.0, cons-later x q.0 xs q.1, q.2)

seat-in : (services : ℕ) (term : ℤ) (position : ℕ) (all : List SnapshotEntry) (s : ℕ) → s < services → have_services services term position all ≡ true → list_any (is_entry_of (pos s) term position) all ≡ true
seat-in zero term position all s lt h = absurd (omega (arith, lt))
seat-in (suc n) term position all s lt h =
    let p = and_true (list_any (is_entry_of (pos n) term position) all) (have_services n term position all) h in
    elim (cases_eq s n) [
      | inl e ↦ subst (λ (u : ℕ). list_any (is_entry_of (pos u) term position) all ≡ true) (sym e) p.0
      | inr ne ↦ seat-in n term position all s (less s n lt ne) p.1
    ]
  where
    less : (s n : ℕ) → s < suc n → s ≢ n → s < n
    less s n a b = grind arith

seat-set : (services : ℕ) (term : ℤ) (position : ℕ) (all : List SnapshotEntry) (seat : ℕ) → seat ≤ services → has_set services all term position ≡ true → list_any (is_entry_of (service_of seat) term position) all ≡ true
seat-set services term position all zero le h = (and_true (list_any (is_entry_of (negsuc 0) term position) all) (have_services services term position all) h).0
seat-set services term position all (suc s) le h = seat-in services term position all s (omega (arith, le)) (and_true (list_any (is_entry_of (negsuc 0) term position) all) (have_services services term position all) h).1

service-same : (a b : ℕ) → service_of a ≡ service_of b → a ≡ b
service-same zero zero e = refl
service-same zero (suc b) e = absurd (omega (arith, ints, e))
service-same (suc a) zero e = absurd (omega (arith, ints, e))
service-same (suc a) (suc b) e = omega (arith, ints, e)

lead-take : (xs ys : Log) → Leads xs ys → take (length xs) ys ≡ xs
lead-take [] ys p = refl
lead-take (x ∷ xs) [] p = absurd p
lead-take (x ∷ xs) (y ∷ ys) p = cons-same y x (take (length xs) ys) xs (sym p.0) (lead-take xs ys p.1)
  where
    cons-same : (a b : Entry) (xs ys : Log) → a ≡ b → xs ≡ ys → a ∷ xs ≡ b ∷ ys
    cons-same a b xs ys e f = cc

pub starts-restore : (n : ℕ) (kinds : List Kind) (w : Led) → Stays n kinds (rules_of kinds) w → StartsRestore kinds w
starts-restore n kinds w st m b is =
    let x = member w.hosted.world m in
    let log = x.durable.log in
    let all = x.durable.snapshots in
    let whole = latest-whole (length kinds) all b is in
    let wr = (log-written n w.hosted.world m st.held.fits log refl).0 in
    let commit : first_commit (length kinds) x.durable ≡ entries_to b.position log = ap (λ (o : Option SnapshotSet). entries_of_set o (shape_of log)) is ∙ ends_by-entries 0 b.position log in
    -- a front that ends at the set's position is what the start begins with
    let begins : (front : Log) → Leads front log → place front ≡ b.position → take (first_commit (length kinds) x.durable) log ≡ front = λ front lead at.
    let size : length front ≤ length log = leads-length front log lead in
    let count : entries_to b.position log ≡ length front = ap (λ (p : ℕ). entries_to p log) (sym at ∙ ap place (sym (lead-take front log lead))) ∙ entries_to-take 0 (length front) log wr size in
    ap (λ (k : ℕ). take k log) (commit ∙ count) ∙ lead-take front log lead in
    let entry : (seat : ℕ) → seat ≤ length kinds → (s : SnapshotEntry) × Contains all s × (is_entry_of (service_of seat) b.term b.position s ≡ true) = λ seat le. any-has (is_entry_of (service_of seat) b.term b.position) all (seat-set (length kinds) b.term b.position all seat le whole) in
    let fits : (service term : ℤ) (position : ℕ) (s : SnapshotEntry) → is_entry_of service term position s ≡ true → (s.service ≡ service) × (s.position ≡ position) = λ service term position s h.
    let p = and_true (same_term s.service service) (same_term s.term term && nat_eq s.position position) h in
    let q = and_true (same_term s.term term) (nat_eq s.position position) p.1 in
    (same_term-is s.service service p.0, (let u = q.1 in grind (arith, nat_tests, u))) in
    let own = entry 0 (omega arith) in
    let ofown = are-recorded n kinds w st m own.0 own.1 in
    let at0 = begins ofown.front (leads ofown.front log ofown.of_log) (sym ofown.position ∙ (fits (service_of 0) b.term b.position own.0 own.2).1) in
    record {
      position = ap place at0 ∙ sym ofown.position ∙ (fits (service_of 0) b.term b.position own.0 own.2).1;
      seats = λ seat le.
          let e = entry seat le in
          let f = fits (service_of seat) b.term b.position e.0 e.2 in
          let o = are-recorded n kinds w st m e.0 e.1 in
          let same : o.seat ≡ seat = service-same o.seat seat (sym o.service ∙ f.0) in
          let at = begins o.front (leads o.front log o.of_log) (sym o.position ∙ f.1) in
          (e.0, e.1, f.0, o.pieces ∙ ap (pieces_in kinds o.front) same ∙ ap (λ (u : Log). pieces_in kinds u seat) (sym at));
      restored = subst (λ (u : Log). module_from_pieces (length kinds) (records_of kinds u 0) ≡ Ok (module_of kinds (events_in u))) (sym at0) ofown.restored;
    }
