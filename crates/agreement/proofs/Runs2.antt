-- Every list of steps keeps the second invariant.
use Rattle.std.proofs.Common.{◌≡◌, ◌⊎◌, inl, inr, ℕ, zero, suc, ◌<◌, Bool, true, false, not, ◌&&◌, List, [], ◌∷◌, length, refl, sym, ap, ◌∙◌, subst, arith, ℤ, negsuc, ◌≤ℤ◌, ◌<ℤ◌, Some, None, Option, if◌then◌else◌}
use Rattle.std.specs.Prelude.{Contains, slice_get, nat_lt}
use Rattle.std.proofs.lemmas.Int.{ints}
use Rattle.std.proofs.lemmas.Bool.Decides.{nat_tests}
use Rattle.entry_log.specs.Log.{Log, last, IsPrefixOf}
use Rattle.log_replication.specs.Replication.{IsAnchored, kept}
use Rattle.log_replication.specs.Prefixes.{Leads, leads, is_prefix, Leads-self, Leads-either, Rises-front, last-up}
use Rattle.world.specs.World.{does, comes, client, are_of, World, member, put, is_running, step, Step, Passes, Starts, Stops, Duty, Delivers, Client, Puts, Invalidates, run, formatted}
use Rattle.consensus_core.specs.Member.{Member, Sent, stopped, starts, Cut}
use Rattle.consensus_core.specs.Sendable.{sender_of}
use Rattle.world.specs.Said.{says}
use Rattle.entry_log.specs.Durable.{fresh}
use Rattle.sbe_events.specs.declared.event.Event.{Event}
use Rattle.consensus_core.specs.Reign.{entry_of}
use Rattle.world.proofs.Same.{duty_is, packet_is, client_is, due_of, passes}
use Rattle.consensus_core.specs.Fit.{has_term}
use Rattle.world.specs.Safe.{candidate_of}
use Rattle.world.proofs.Kept.{Inv}
use Rattle.world.proofs.Quorum.{shared}
use Rattle.world.proofs.Effects.{if-cases, none_in}
use Rattle.world.proofs.Rows.{and_true, does_duty-fine, receives-fine, client-fine}
use Rattle.world.proofs.Runs.{inv, formatted-inv, runs, starts-keeps, stops-keeps, step-keeps, at_place}
use Rattle.agreement.specs.View.{IsOpen, IsCommitted, CommitsHold, CutsKeep, view_of}
use Rattle.agreement.proofs.Opens.{prefix-trans, not-none}
use Rattle.agreement.proofs.Second.{reign_of, MemberFits, PacketFits, Fits, Widens, PacketFits-widens}
use Rattle.agreement.proofs.Stills.{still}
use Rattle.agreement.proofs.Calm.{before-fits}
use Rattle.agreement.proofs.Snaps2.{set-commit, puts-fits, invalidates-fits}
use Rattle.agreement.proofs.RowsFit.{does_duty-two, receives-two, client-row-two}
use Rattle.agreement.proofs.CutsKept.{committed-kept}

does-fits : (n : ℕ) (w : World) (m : ℕ) (due : List Event) (cut : Cut) → Inv n w → Fits n w → Fits n (does w m due cut)
does-fits n w m due cut i f =
    if-cases (Fits n) (is_running w m && are_of (member w m).values.election.term due) _ _
    (λ h.
    let p = and_true (is_running w m) (are_of (member w m).values.election.term due) h in
    let r = runs w m p.0 in
    let es = due_of (member w m) due in
    subst (Fits n) (sym (duty_is w m due w.now p.1 cut)) (does_duty-two n w m i r.0 r.1 f es w.now (does_duty-fine n w m i r.0 r.1 es w.now) cut))
    (λ h. f)

comes-fits : (n : ℕ) (w : World) (s : Option Sent) (cut : Cut) → ((x : Sent) → s ≡ Some x → Contains w.sent x) → Inv n w → Fits n w → Fits n (comes w s cut)
comes-fits n w None cut has i f = f
comes-fits n w (Some s) cut has i f =
    if-cases (Fits n) (is_running w s.to) _ _
    (λ h.
    let r = runs w s.to h in
    let b = passes w s.to s.packet in
    subst (Fits n) (sym (packet_is w s.to s.packet w.now cut))
    (receives-two n w s.to i r.0 r.1 f b (sender_of s.packet) (says s.packet) w.now (f.sent s (has s refl)) (receives-fine n w s.to i r.0 r.1 b (sender_of s.packet) (says s.packet) w.now (i.sent s (has s refl))) cut))
    (λ h. f)

client-fits : (n : ℕ) (w : World) (m : ℕ) (event : Event) (cut : Cut) → Inv n w → Fits n w → Fits n (client w m event cut)
client-fits n w m event cut i f =
    if-cases (Fits n) (is_running w m && are_of (member w m).values.election.term (event ∷ [])) _ _
    (λ h.
    let p = and_true (is_running w m) (are_of (member w m).values.election.term (event ∷ [])) h in
    let r = runs w m p.0 in
    let es : Log = entry_of event ∷ [] in
    subst (Fits n) (sym (client_is w m event p.1 cut)) (client-row-two n w m i r.0 r.1 f es (client-fine n w m i r.0 r.1 (member w m).values.election.state es refl) cut))
    (λ h. f)

starts-fits : (n : ℕ) (w : World) (m services : ℕ) → Inv n w → Fits n w → Inv n (step w (Starts m services)) → Fits n (step w (Starts m services))
starts-fits n w m services i f i' = at (nat_lt m (length w.members) && not (member w m).up) refl i'
  where
    at : (b : Bool) → (nat_lt m (length w.members) && not (member w m).up) ≡ b → Inv n (if b then put w m (starts m (length w.members) services (member w m).durable) [] [] [] else w) → Fits n (if b then put w m (starts m (length w.members) services (member w m).durable) [] [] [] else w)
    at false h i' = f
    at true h i' =
        let p = and_true (nat_lt m (length w.members)) (not (member w m).up) h in
        let l : m < length w.members = grind (arith, nat_tests, p.0) in
        still n w m (starts m (length w.members) services (member w m).durable) [] [] l i i' f (record {
          stays = λ h. refl;
          up = omega (arith, ints);
          raises = λ r h. absurd (none_in r h);
          anchored = f.grounded.anchored m;
          low = f.low m;
          term = λ h. absurd (cc);
          follows = λ h. absurd (cc);
          keeps = λ t xs p h. f.agreed.logs t xs m p h;
          reigns = λ h. absurd (cc);
          leading = λ h. absurd (cc);
          commit = set-commit n w m services f;
          snaps = (f.members m).snaps;
          sent = λ g s h. absurd (none_in s h);
        })

stops-fits : (n : ℕ) (w : World) (m : ℕ) → Inv n w → Fits n w → Inv n (step w (Stops m)) → Fits n (step w (Stops m))
stops-fits n w m i f i' = at (is_running w m) refl i'
  where
    at : (b : Bool) → is_running w m ≡ b → Inv n (if b then put w m (stopped (member w m).durable) [] [] [] else w) → Fits n (if b then put w m (stopped (member w m).durable) [] [] [] else w)
    at false h i' = f
    at true h i' = let r = runs w m h in before-fits n w m i r.0 r.1 f i'

self-widens : (n : ℕ) (w : World) (now : ℕ) → Fits n w → Widens w (record w { now = now })
self-widens n w now f = record { reign = λ t. is_prefix (reign_of w t) (reign_of w t) (Leads-self (reign_of w t)); holding = λ h has. has; reigns = λ r has. has; count = refl; written = f.grounded.written }

passes-fits : (n : ℕ) (w : World) (now : ℕ) → Fits n w → Fits n (record w { now = now })
passes-fits n w now f = record {
  grounded = f.grounded;
  agreed = f.agreed;
  low = f.low;
  parts = f.parts;
  members = λ m. let z = f.members m in record { holds = z.holds; reigns = z.reigns; leading = λ h. let y = z.leading h in record { own = y.own; front = y.front; term = y.term; some = y.some; own_end = y.own_end; acked = y.acked }; commit = z.commit; snaps = z.snaps };
  sent = λ s h. PacketFits-widens w (record w { now = now }) (sender_of s.packet) (says s.packet) (self-widens n w now f) (f.sent s h);
}

pub step-fits : (n : ℕ) (w : World) (s : Step) → Inv n w → Fits n w → Fits n (step w s)
step-fits n w (Passes now) i f = passes-fits n w (if nat_lt w.now now then now else w.now) f
step-fits n w (Starts m services) i f = starts-fits n w m services i f (starts-keeps n w m services i)
step-fits n w (Puts m k s cut) i f = puts-fits n w m k s cut i f
step-fits n w (Invalidates m services) i f = invalidates-fits n w m services i f
step-fits n w (Stops m) i f = stops-fits n w m i f (stops-keeps n w m i)
step-fits n w (Duty m due cut) i f = does-fits n w m due cut i f
step-fits n w (Delivers which cut) i f = comes-fits n w (slice_get w.sent which) cut (λ x e. at_place w.sent which x e) i f
step-fits n w (Client m event cut) i f = client-fits n w m event cut i f

run-fits : (n : ℕ) (w : World) (steps : List Step) → Inv n w → Fits n w → Fits n (run w steps)
run-fits n w [] i f = f
run-fits n w (s ∷ ss) i f = run-fits n (step w s) ss (step-keeps n w s i) (step-fits n w s i f)

pub all-fresh : (n m : ℕ) → member (formatted n) m ≡ stopped fresh
all-fresh zero m = refl
all-fresh (suc n) zero = refl
all-fresh (suc n) (suc m) = all-fresh n m

pub nothing-anchored : (reign : ℤ → Log) (xs : Log) → xs ≡ [] → IsAnchored reign xs
nothing-anchored reign xs e ys p some = absurd (not-none ys xs some p e)

pub formatted-fits : (n : ℕ) → Fits n (formatted n)
formatted-fits n = record {
  grounded = record {
    written = λ t. tt;
    rises = λ t. tt;
    top = λ t some. absurd (some refl);
    reign_anchored = λ t. nothing-anchored (reign_of (formatted n)) [] refl;
    raise_low = λ r has. absurd (none_in r has);
    reigned = λ t some. absurd (some refl);
    first = λ r has. absurd (none_in r has);
    before = λ r has. absurd (none_in r has);
    anchored = λ m. nothing-anchored (reign_of (formatted n)) (member (formatted n) m).durable.log (ap (λ (x : Member). x.durable.log) (all-fresh n m));
    raise_anchored = λ r has. absurd (none_in r has);
    first_anchored = λ r has. absurd (none_in r has);
    below = λ r has. absurd (none_in r has);
    elected = λ r has. absurd (none_in r has);
    held = λ h has. absurd (none_in h has);
  };
  agreed = record {
    firsts = λ t xs p r has. absurd (none_in r has);
    logs = λ t xs m p h. absurd (none_in _ h.1);
    votes = λ t xs r p h has. absurd (none_in r has);
  };
  low = λ m. subst (λ (x : Member). last x.durable.log ≤ℤ x.durable.candidate) (sym (all-fresh n m)) (omega (arith, ints));
  parts = λ r has. absurd (none_in r has);
  members = λ m. subst (MemberFits (formatted n) m) (sym (all-fresh n m)) (record { holds = λ h. absurd (cc); reigns = λ h. absurd (cc); leading = λ h. absurd (cc); commit = (omega arith, inl refl); snaps = λ s h. absurd (none_in s h) });
  sent = λ s has. absurd (none_in s has);
}

pub fits-always : (n : ℕ) (steps : List Step) → Fits n (run (formatted n) steps)
fits-always n steps = run-fits n (formatted n) steps (formatted-inv n) (formatted-fits n)

-- a committed list stands in its reign
pub committed-reign : (n : ℕ) (w : World) (t : ℤ) (xs : Log) → Fits n w → IsCommitted (view_of w) t xs → IsPrefixOf xs (reign_of w t)
committed-reign n w t xs f c =
    let q = c.2 in
    let k = shared (length w.members) q.0 q.0 q.1 q.1 in
    let h = q.2 k.0 k.1 in
    prefix-trans xs h.0 (reign_of w t) h.2 (f.grounded.held _ h.1)

committed-open : (w : World) (t : ℤ) (xs : Log) → IsCommitted (view_of w) t xs → IsOpen (view_of w) t xs
committed-open w t xs c = let q = c.2 in (c.0, c.1, (q.0, q.1, λ k h. inl (q.2 k h)))

later-has : (n : ℕ) (w : World) (t u : ℤ) (xs ys : Log) → Fits n w → t <ℤ u → IsCommitted (view_of w) t xs → IsCommitted (view_of w) u ys → IsPrefixOf xs ys
later-has n w t u xs ys f lt c d =
    let g = f.grounded in
    let at = committed-reign n w u ys f d in
    let r = g.reigned u (not-none ys (reign_of w u) d.1 at) in
    let first = (r.0).first in
    let front : IsPrefixOf xs first = f.agreed.firsts t xs (committed-open w t xs c) r.0 r.1 (let z = r.2 in omega (arith, ints, lt, z)) in
    let fl : Leads first (reign_of w u) = subst (λ z. Leads first (reign_of w z)) r.2 (leads first (reign_of w (r.0).term) (g.first r.0 r.1)) in
    elim (Leads-either first ys (reign_of w u) fl (leads ys (reign_of w u) at)) [
      | inl p ↦ prefix-trans xs first ys front (is_prefix first ys p)
      | inr p ↦ absurd (let z = last-up (negsuc 0) ys first (Rises-front (negsuc 0) first (reign_of w u) fl (g.rises u)) p in let y = g.before r.0 r.1 in let x = r.2 in let v = d.0 in omega (arith, ints, z, y, x, v))
    ]

three : (t u : ℤ) → (t <ℤ u) ⊎ ((u <ℤ t) ⊎ (t ≡ u))
three t u = grind (arith, ints)

pub commits-hold : (n : ℕ) (w : World) → Fits n w → CommitsHold w
commits-hold n w f = record {
  settled = λ m. (f.members m).commit.1;
  within = λ m. (f.members m).commit.0;
  one_line = λ t u xs ys c d. elim (three t u) [
    | inl lt ↦ inl (later-has n w t u xs ys f lt c d)
    | inr more ↦ elim more [
      | inl gt ↦ inr (later-has n w u t ys xs f gt d c)
      | inr same ↦
          let a = leads xs (reign_of w u) (subst (λ z. IsPrefixOf xs (reign_of w z)) same (committed-reign n w t xs f c)) in
          let b = leads ys (reign_of w u) (committed-reign n w u ys f d) in
          elim (Leads-either xs ys (reign_of w u) a b) [ inl p ↦ inl (is_prefix xs ys p) | inr p ↦ inr (is_prefix ys xs p) ]
    ]
  ];
  follows = λ m h. ((f.members m).holds h).0;
  low = f.low;
}

pub cuts-keep : (n : ℕ) (w : World) → Inv n w → Fits n w → CutsKeep w
cuts-keep n w i f m s t asked keep l up has said at is_t is_asked u xs ys high done in_ys in_log =
    let a = subst (PacketFits w (sender_of s.packet)) said (f.sent s has) in
    let log = (member w m).durable.log in
    let cand : (member w m).values.election.term ≡ candidate_of w m = (i.members m (subst (λ z. m < z) i.count l)).term (ap has_term at) in
    is_prefix xs (kept keep.term keep.place log)
    (committed-kept n w m i l up f a.0 t asked keep is_asked (sym is_t ∙ cand) a.1 a.2 a.3 a.4 a.5 a.6 u xs ys high done (leads xs ys in_ys) (leads xs log in_log))

pub cuts-keep-always : (n : ℕ) (steps : List Step) → CutsKeep (run (formatted n) steps)
cuts-keep-always n steps = cuts-keep n (run (formatted n) steps) (inv n steps) (fits-always n steps)
