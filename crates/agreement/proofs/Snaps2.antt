-- Steps that change the snapshot entries alone keep the second invariant, and what the latest valid set stands for is settled.
use Rattle.std.proofs.Common.{◌≡◌, ◌⊎◌, inl, inr, ℕ, zero, suc, ◌+◌, ◌<◌, ◌≤◌, Bool, true, not, ◌&&◌, List, [], ◌∷◌, length, take, refl, sym, ap, ◌∙◌, subst, arith, ℤ, negsuc, Some, None, Option, if◌then◌else◌}
use Rattle.std.specs.Prelude.{Contains, nat_lt, nat_le, nat_eq, int_le}
use Rattle.std.specs.List.{list_any}
use Rattle.std.proofs.lemmas.Int.{ints}
use Rattle.std.proofs.lemmas.List.{append-nil}
use Rattle.std.proofs.lemmas.Bool.Decides.{nat_tests}
use Rattle.std.proofs.lemmas.List.Elements.{Contains-append_right, Contains-append_cases}
use Rattle.entry_log.specs.Durable.{same_entry, put_in, without_last, without_set, invalidated, SnapshotEntry, SnapshotSet, is_entry_of, has_set, is_later, with_set, sets_in, sets_of, last_set, latest_set, entries_of_set, first_commit}
use Rattle.entry_log.specs.Shape.{shape_of, ends_by, ends_by_from}
use Rattle.entry_log.specs.Log.{same_term, end_after}
use Rattle.entry_log.specs.Log.{Log, last, place}
use Rattle.entry_log.specs.Log.{IsWritten, Rises}
use Rattle.log_replication.specs.Prefixes.{Leads, leads, Leads-by_place, IsWritten-front, Rises-front}
use Rattle.world.proofs.Snaps.{putting, putting-same}
use Rattle.world.specs.World.{step, Puts, Invalidates, World, member, put, names, is_running}
use Rattle.consensus_core.specs.Member.{stopped, snapped, Cut, Whole, Before, After}
use Rattle.consensus_core.specs.OverLog.{entries_to, entries_to_from}
use Rattle.world.proofs.Kept.{Inv}
use Rattle.world.proofs.Rows.{and_true}
use Rattle.world.proofs.Effects.{only_in, none_in, if-cases}
use Rattle.world.proofs.Snaps.{with_snaps, snapped-keeps, snapped-stop, running-below, stopped-below, putting-keeps}
use Rattle.agreement.specs.View.{IsSettled, view_of}
use Rattle.agreement.proofs.Second.{reign_of, Fits, SnapsFit}
use Rattle.agreement.proofs.Stills.{still}
use Rattle.agreement.proofs.Calm.{before-fits, settled-none, term_now}
use Rattle.agreement.proofs.Commits.{entries_to-short, entries_to-place, take-leads}
use Rattle.agreement.proofs.Fronts.{settled-front}

pub cons-cases : {X : Type 0} (a x : X) (xs : List X) → Contains (a ∷ xs) x → (a ≡ x) ⊎ Contains xs x
cons-cases a x xs has = elim (Contains-append_cases (a ∷ []) xs x has) [ inl h ↦ inl (only_in a x h) | inr h ↦ inr h ]

pub cons-later : {X : Type 0} (a x : X) (xs : List X) → Contains xs x → Contains (a ∷ xs) x
cons-later a x xs has = Contains-append_right (a ∷ []) xs x has

pub cons-here : {X : Type 0} (a : X) (xs : List X) → Contains (a ∷ xs) a
cons-here a xs = (0, omega arith, refl)

pub put_in-cases : (s t : SnapshotEntry) (all : List SnapshotEntry) → Contains (put_in s all) t → Contains all t ⊎ (s ≡ t)
put_in-cases s t all has =
    if-cases (λ l. Contains l t → Contains all t ⊎ (s ≡ t)) (list_any (same_entry s) all) _ _
    (λ b h. inl h)
    (λ b h. elim (Contains-append_cases all (s ∷ []) t h) [ inl a ↦ inl a | inr c ↦ inr (only_in s t c) ])
    has

without-has : (test : SnapshotEntry → Bool) (t : SnapshotEntry) (all : List SnapshotEntry) → Contains (without_last test all) t → Contains all t
without-has test t [] has = has
without-has test t (x ∷ xs) has =
    if-cases (λ l. Contains l t → Contains (x ∷ xs) t) (test x && not (list_any test xs)) _ _
    (λ b h. cons-later x t xs h)
    (λ b h. elim (cons-cases x t (without_last test xs) h) [ inl e ↦ subst (Contains (x ∷ xs)) e (cons-here x xs) | inr k ↦ cons-later x t xs (without-has test t xs k) ])
    has

pub invalidated-has : (services : ℕ) (t : SnapshotEntry) (all : List SnapshotEntry) → Contains (invalidated services all) t → Contains all t
invalidated-has services t all has = at (latest_set services all) has
  where
    at : (o : Option SnapshotSet) → Contains (without_set o all) t → Contains all t
    at None h = h
    at (Some b) h = without-has (is_entry_of (negsuc 0) b.term b.position) t all h

-- the latest set is that of an entry
abbrev IsOf : List SnapshotEntry → SnapshotSet → Type 0
IsOf all b = (e : SnapshotEntry) × Contains all e × (e.position ≡ b.position)

set-same : (a b : SnapshotSet) → Some a ≡ Some b → a ≡ b
set-same a b e = cc

abbrev pub Every : (SnapshotSet → Type 0) → List SnapshotSet → Type 0
Every P [] = Unit {0}
Every P (b ∷ bs) = P b × Every P bs

pub with_set-every : (P : SnapshotSet → Type 0) (a : SnapshotSet) (bs : List SnapshotSet) → P a → Every P bs → Every P (with_set a bs)
with_set-every P a [] p q = (p, tt)
with_set-every P a (b ∷ bs) p q =
    if-cases (Every P) (is_later a b) _ _
    (λ h. (q.0, with_set-every P a bs p q.1))
    (λ h. if-cases (Every P) (is_later b a) _ _ (λ k. (p, q)) (λ k. q))

sets_in-every : (services : ℕ) (all es : List SnapshotEntry) → ((e : SnapshotEntry) → Contains es e → Contains all e) → Every (IsOf all) (sets_in services all es)
sets_in-every services all [] sub' = tt
sets_in-every services all (x ∷ xs) sub' =
    let rest = sets_in-every services all xs (λ y has. sub' y (cons-later x y xs has)) in
    if-cases (Every (IsOf all)) (has_set services all x.term x.position) _ _
    (λ h. with_set-every (IsOf all) (record { position = x.position; term = x.term }) (sets_in services all xs) (x, sub' x (cons-here x xs), refl) rest)
    (λ h. rest)

pub last_set-every : (P : SnapshotSet → Type 0) (bs : List SnapshotSet) (b : SnapshotSet) → Every P bs → last_set bs ≡ Some b → P b
last_set-every P [] b q e = absurd (cc)
last_set-every P (a ∷ []) b q e = subst P (set-same a b e) q.0
last_set-every P (a ∷ c ∷ cs) b q e = last_set-every P (c ∷ cs) b q.1 e

-- the latest set is that of an entry
pub latest-of : (services : ℕ) (all : List SnapshotEntry) (b : SnapshotSet) → latest_set services all ≡ Some b → (e : SnapshotEntry) × Contains all e × (e.position ≡ b.position)
latest-of services all b e = last_set-every (IsOf all) (sets_of services all) b (sets_in-every services all all (λ y has. has)) e

-- the entries of a shape that end at most at a place are those of its log
pub ends_by-entries : (p at : ℕ) (log : Log) → ends_by_from p at (shape_of log) ≡ entries_to_from p at log
ends_by-entries p at [] = refl
ends_by-entries p at (x ∷ xs) = ap (λ (k : ℕ). if nat_le (end_after p (length x.bytes)) at then 1 + k else 0) (ends_by-entries (end_after p (length x.bytes)) at xs)

-- a log has entries of rising terms
pub log-written : (n : ℕ) (w : World) (m : ℕ) → Fits n w → (log : Log) → log ≡ (member w m).durable.log → IsWritten log × Rises log
log-written n w m f [] e = (tt, tt)
log-written n w m f (y ∷ ys) e =
    let log = y ∷ ys in
    let at = leads log (reign_of w (last log)) (f.grounded.anchored m log ([], append-nil log ∙ e) (λ z. cc)) in
    (IsWritten-front log (reign_of w (last log)) at (f.grounded.written (last log)), Rises-front (negsuc 0) log (reign_of w (last log)) at (f.grounded.rises (last log)))

-- the entries that the latest valid set stands for are settled
pub set-commit : (n : ℕ) (w : World) (m services : ℕ) → Fits n w → (first_commit services (member w m).durable ≤ length (member w m).durable.log) × IsSettled (view_of w) (member w m).durable.candidate (take (first_commit services (member w m).durable) (member w m).durable.log)
set-commit n w m services f = at (latest_set services (member w m).durable.snapshots) refl
  where
    within : (p : ℕ) → (xs : Log) → Leads xs (member w m).durable.log → place xs ≡ p → IsSettled (view_of w) (member w m).durable.candidate xs
        → (ends_by p (shape_of (member w m).durable.log) ≤ length (member w m).durable.log) × IsSettled (view_of w) (member w m).durable.candidate (take (ends_by p (shape_of (member w m).durable.log)) (member w m).durable.log)
    within p xs lead is settled =
        let log = (member w m).durable.log in
        let wr = (log-written n w m f log refl).0 in
        let ys = take (entries_to p log) log in
        let low : place ys ≤ p = entries_to-place 0 p log (omega arith) in
        let front : Leads ys xs = Leads-by_place 0 ys xs log wr (take-leads (entries_to p log) log) lead (omega (arith, low, is)) in
        subst (λ (c : ℕ). (c ≤ length log) × IsSettled (view_of w) (member w m).durable.candidate (take c log)) (sym (ends_by-entries 0 p log))
        (entries_to-short 0 p log, settled-front w (member w m).durable.candidate ys xs front settled)

    at : (o : Option SnapshotSet) → latest_set services (member w m).durable.snapshots ≡ o
        → (entries_of_set o (shape_of (member w m).durable.log) ≤ length (member w m).durable.log) × IsSettled (view_of w) (member w m).durable.candidate (take (entries_of_set o (shape_of (member w m).durable.log)) (member w m).durable.log)
    at None e = (omega arith, inl refl)
    at (Some b) e =
        let q = latest-of services (member w m).durable.snapshots b e in
        let z = (f.members m).snaps q.0 q.1 in
        within b.position z.0 z.1 (z.2 ∙ q.2) z.4

pub same_term-is : (a b : ℤ) → same_term a b ≡ true → a ≡ b
same_term-is a b h = let p = and_true (int_le a b) (int_le b a) h in let x = p.0 in let y = p.1 in grind (arith, ints)

names-fit : (n : ℕ) (w : World) (m k : ℕ) (s : SnapshotEntry) → Fits n w → names k s (member w m) ≡ true → SnapsFit w (with_snaps (member w m) (put_in s (member w m).durable.snapshots))
names-fit n w m k s f h t has =
    let x = member w m in
    let log = x.durable.log in
    let p = and_true (nat_le k x.values.rest.commit) _ h in
    let q = and_true (nat_eq s.position (place (take k log))) _ p.1 in
    let fx = f.members m in
    elim (put_in-cases s t x.durable.snapshots has) [
      | inl old ↦ fx.snaps t old
      | inr same ↦ subst (λ (z : SnapshotEntry). (xs : Log) × Leads xs log × (place xs ≡ z.position) × (last xs ≡ z.term) × IsSettled (view_of w) x.durable.candidate xs) same (
        take k log,
        take-leads k log,
        (let a = q.0 in grind (arith, nat_tests, a)),
        sym (same_term-is s.term (last (take k log)) q.1),
        settled-front w x.durable.candidate (take k log) (take x.values.rest.commit log) (shorter k x.values.rest.commit log (let a = p.0 in grind (arith, nat_tests, a))) fx.commit.1,
      )
    ]
  where
    shorter : (k c : ℕ) (log : Log) → k ≤ c → Leads (take k log) (take c log)
    shorter zero c log h = tt
    shorter (suc k) zero log h = absurd (omega (arith, h))
    shorter (suc k) (suc c) [] h = tt
    shorter (suc k) (suc c) (x ∷ xs) h = (refl, shorter k c xs (omega (arith, h)))

-- a running member with other entries
snapped-fits : (n : ℕ) (w : World) (m : ℕ) (all : List SnapshotEntry) → Inv n w → m < length w.members → (member w m).up ≡ true → Fits n w → SnapsFit w (with_snaps (member w m) all) → Fits n (put w m (with_snaps (member w m) all) [] [] [])
snapped-fits n w m all i l up f snaps =
    let x = member w m in
    let y = with_snaps x all in
    let fx = f.members m in
    still n w m y [] [] l i (snapped-keeps n w m all i l) f (record {
      stays = λ h. refl;
      up = omega (arith, ints);
      raises = λ r h. absurd (none_in r h);
      anchored = f.grounded.anchored m;
      low = f.low m;
      term = λ h. term_now n w m i l up f h;
      follows = λ h. (fx.holds h).0;
      keeps = λ t xs p h. f.agreed.logs t xs m p h;
      reigns = λ h. fx.reigns h;
      leading = λ h. let z = fx.leading h in record { own = z.own; front = z.front; term = z.term; some = z.some; own_end = z.own_end; acked = z.acked };
      commit = fx.commit;
      snaps = snaps;
      sent = λ g s h. absurd (none_in s h);
    })

-- a stopped member with other entries
snapped_stop-fits : (n : ℕ) (w : World) (m : ℕ) (all : List SnapshotEntry) → Inv n w → m < length w.members → Fits n w → SnapsFit w (with_snaps (member w m) all) → Fits n (put w m (stopped (snapped all (member w m).durable)) [] [] [])
snapped_stop-fits n w m all i l f snaps =
    let x = member w m in
    let y = stopped (snapped all x.durable) in
    still n w m y [] [] l i (snapped-stop n w m all i l) f (record {
      stays = λ h. refl;
      up = omega (arith, ints);
      raises = λ r h. absurd (none_in r h);
      anchored = f.grounded.anchored m;
      low = f.low m;
      term = λ h. absurd (cc);
      follows = λ h. absurd (cc);
      keeps = λ t xs p h. f.agreed.logs t xs m p h;
      reigns = λ h. absurd (cc);
      leading = λ h. absurd (cc);
      commit = (omega arith, settled-none w x.durable.candidate x.durable.log);
      snaps = snaps;
      sent = λ g s h. absurd (none_in s h);
    })

putting-fits : (n : ℕ) (w : World) (m : ℕ) (all : List SnapshotEntry) (cut : Cut) → Inv n w → m < length w.members → (member w m).up ≡ true → Fits n w → SnapsFit w (with_snaps (member w m) all) → Inv n (putting w m (member w m) all Before) → Fits n (putting w m (member w m) all cut)
putting-fits n w m all Whole i l up f snaps i' = snapped-fits n w m all i l up f snaps
putting-fits n w m all Before i l up f snaps i' = before-fits n w m i l up f i'
putting-fits n w m all After i l up f snaps i' = snapped_stop-fits n w m all i l f snaps

pub puts-fits : (n : ℕ) (w : World) (m k : ℕ) (s : SnapshotEntry) (cut : Cut) → Inv n w → Fits n w → Fits n (step w (Puts m k s cut))
puts-fits n w m k s cut i f =
    if-cases (Fits n) (is_running w m && names k s (member w m)) _ _
    (λ h. let r = running-below w m (names k s (member w m)) h in
    subst (Fits n) (sym (putting-same w m s cut)) (putting-fits n w m (put_in s (member w m).durable.snapshots) cut i r.0 r.1 f (names-fit n w m k s f r.2) (putting-keeps n w m (put_in s (member w m).durable.snapshots) Before i r.0)))
    (λ h. f)

pub invalidates-fits : (n : ℕ) (w : World) (m services : ℕ) → Inv n w → Fits n w → Fits n (step w (Invalidates m services))
invalidates-fits n w m services i f =
    if-cases (Fits n) (nat_lt m (length w.members) && not (member w m).up) _ _
    (λ h. snapped_stop-fits n w m (invalidated services (member w m).durable.snapshots) i (stopped-below w m h) f
    (λ s has. (f.members m).snaps s (invalidated-has services s (member w m).durable.snapshots has)))
    (λ h. f)
