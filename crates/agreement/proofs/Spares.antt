-- What a step leaves alone: snapshot entries, and every member but the one that acts.
use Rattle.std.proofs.Common.{◌≡◌, ◌⊎◌, inl, inr, ℕ, ◌<◌, Bool, true, false, not, ◌&&◌, List, [], ◌∷◌, length, refl, sym, ap, subst, Some, None, Option, if◌then◌else◌}
use Rattle.std.specs.Prelude.{Contains, slice_get, nat_lt}
use Rattle.std.proofs.lemmas.Bool.{cases_eq}
use Rattle.entry_log.specs.Durable.{put_in, invalidated}
use Rattle.entry_log.specs.Durable.{SnapshotEntry}
use Rattle.entry_log.specs.Durable.{Durable}
use Rattle.consensus_core.specs.Reign.{entry_of}
use Rattle.world.proofs.Same.{duty_is, packet_is, client_is, due_of, passes}
use Rattle.world.proofs.Snaps.{putting, putting-same}
use Rattle.world.specs.World.{comes, are_of, World, Raise, Reign, member, put, reigns_of, names, is_running, step, Step, Passes, Starts, Stops, Duty, Delivers, Client, Puts, Invalidates}
use Rattle.consensus_core.specs.Member.{Member, Sent, Cut, Whole, Before, After, stopped, starts, snapped}
use Rattle.consensus_core.specs.Sendable.{sender_of}
use Rattle.world.specs.Said.{says}
use Rattle.world.proofs.LogRows.{Outcome, Change, Nothing, RaiseTo, Append, CutTo, acts, changed, raises_of, receives, does_duty, client_at}
use Rattle.world.proofs.Kept.{member-put_same, member-put_other}
use Rattle.world.proofs.Rows.{and_true}
use Rattle.world.proofs.Effects.{if-cases}
use Rattle.world.proofs.Snaps.{with_snaps, running-below, stopped-below}
use Rattle.world.proofs.Runs.{runs}
use Rattle.agreement.proofs.Snaps2.{put_in-cases, invalidated-has}
use Rattle.agreement.proofs.Moves.{not-true}

-- the snapshot entry that a step puts
abbrev pub IsPut : World → Step → ℕ → SnapshotEntry → Type 0
IsPut w (Puts m k s cut) j t = (j ≡ m) × (s ≡ t)
IsPut w (Passes now) j t = ⊥
IsPut w (Starts m services) j t = ⊥
IsPut w (Stops m) j t = ⊥
IsPut w (Duty m due cut) j t = ⊥
IsPut w (Delivers which cut) j t = ⊥
IsPut w (Client m entry cut) j t = ⊥
IsPut w (Invalidates m services) j t = ⊥

-- each snapshot entry was there, or is this one
abbrev pub SnapsFrom : (ℕ → SnapshotEntry → Type 0) → World → World → Type 0
SnapsFrom P w v = (j : ℕ) (t : SnapshotEntry) → Contains (member v j).durable.snapshots t → Contains (member w j).durable.snapshots t ⊎ P j t

snaps-put : (P : ℕ → SnapshotEntry → Type 0) (w : World) (m : ℕ) (y : Member) (rs : List Raise) (ps : List Sent) (gs : List Reign) → m < length w.members
    → ((t : SnapshotEntry) → Contains y.durable.snapshots t → Contains (member w m).durable.snapshots t ⊎ P m t) → SnapsFrom P w (put w m y rs ps gs)
snaps-put P w m y rs ps gs l o j t = elim (cases_eq j m) [
  | inl e ↦ subst (λ z. Contains (member (put w m y rs ps gs) z).durable.snapshots t → Contains (member w z).durable.snapshots t ⊎ P z t) (sym e)
      (λ has. o t (subst (λ (z : Member). Contains z.durable.snapshots t) (member-put_same w m y rs ps gs l) has))
  | inr ne ↦ (λ has. inl (subst (λ (z : Member). Contains z.durable.snapshots t) (member-put_other w m j y rs ps gs ne) has))
]

changed-snaps : (d : Durable) (c : Change) → (changed d c).snapshots ≡ d.snapshots
changed-snaps d Nothing = refl
changed-snaps d (RaiseTo t v) = refl
changed-snaps d (Append es) = refl
changed-snaps d (CutTo k) = refl

acts-snaps : (w : World) (m : ℕ) (o : Outcome) (cut : Cut) → m < length w.members → SnapsFrom (λ j t. ⊥) w (acts w m (member w m) o cut)
unfolding acts
acts-snaps w m o Whole l =
    snaps-put (λ j t. ⊥) w m (record { up = true; values = record { election = o.election; rest = o.rest }; durable = changed (member w m).durable o.change }) (raises_of m (member w m).durable.log o.change) o.packets (reigns_of m (member w m).values.election o.election (member w m).durable.log) l
    (λ t h. inl (subst (λ z. Contains z t) (changed-snaps (member w m).durable o.change) h))
acts-snaps w m o Before l = snaps-put (λ j t. ⊥) w m (stopped (member w m).durable) [] [] [] l (λ t h. inl h)
acts-snaps w m o After l =
    snaps-put (λ j t. ⊥) w m (stopped (changed (member w m).durable o.change)) (raises_of m (member w m).durable.log o.change) [] [] l
    (λ t h. inl (subst (λ z. Contains z t) (changed-snaps (member w m).durable o.change) h))

snaps-self : (P : ℕ → SnapshotEntry → Type 0) (w : World) → SnapsFrom P w w
snaps-self P w j t h = inl h

comes-snaps : (w : World) (s : Option Sent) (cut : Cut) → SnapsFrom (λ j t. ⊥) w (comes w s cut)
comes-snaps w None cut = snaps-self (λ j t. ⊥) w
comes-snaps w (Some s) cut =
    if-cases (SnapsFrom (λ j t. ⊥) w) (is_running w s.to) _ _
    (λ h. subst (SnapsFrom (λ j t. ⊥) w) (sym (packet_is w s.to s.packet w.now cut)) (acts-snaps w s.to (receives (passes w s.to s.packet) (member w s.to) (sender_of s.packet) (says s.packet) w.now) cut (runs w s.to h).0))
    (λ h. snaps-self (λ j t. ⊥) w)

putting-snaps : (w : World) (m k : ℕ) (s : SnapshotEntry) (cut c : Cut) → m < length w.members → SnapsFrom (IsPut w (Puts m k s c)) w (putting w m (member w m) (put_in s (member w m).durable.snapshots) cut)
putting-snaps w m k s Whole c l = snaps-put (IsPut w (Puts m k s c)) w m (with_snaps (member w m) (put_in s (member w m).durable.snapshots)) [] [] [] l (λ t h. elim (put_in-cases s t (member w m).durable.snapshots h) [ inl a ↦ inl a | inr b ↦ inr (refl, b) ])
putting-snaps w m k s Before c l = snaps-put (IsPut w (Puts m k s c)) w m (stopped (member w m).durable) [] [] [] l (λ t h. inl h)
putting-snaps w m k s After c l = snaps-put (IsPut w (Puts m k s c)) w m (stopped (snapped (put_in s (member w m).durable.snapshots) (member w m).durable)) [] [] [] l (λ t h. elim (put_in-cases s t (member w m).durable.snapshots h) [ inl a ↦ inl a | inr b ↦ inr (refl, b) ])

pub step-snaps : (w : World) (s : Step) → SnapsFrom (IsPut w s) w (step w s)
step-snaps w (Passes now) = snaps-self (IsPut w (Passes now)) w
step-snaps w (Starts m services) =
    if-cases (SnapsFrom (IsPut w (Starts m services)) w) (nat_lt m (length w.members) && not (member w m).up) _ _
    (λ h. snaps-put (λ j t. ⊥) w m (starts m (length w.members) services (member w m).durable) [] [] [] (stopped-below w m h) (λ t k. inl k))
    (λ h. snaps-self (λ j t. ⊥) w)
step-snaps w (Stops m) =
    if-cases (SnapsFrom (IsPut w (Stops m)) w) (is_running w m) _ _
    (λ h. snaps-put (λ j t. ⊥) w m (stopped (member w m).durable) [] [] [] (runs w m h).0 (λ t k. inl k))
    (λ h. snaps-self (λ j t. ⊥) w)
step-snaps w (Duty m due cut) =
    if-cases (SnapsFrom (IsPut w (Duty m due cut)) w) (is_running w m && are_of (member w m).values.election.term due) _ _
    (λ h.
    let p = and_true (is_running w m) (are_of (member w m).values.election.term due) h in
    subst (SnapsFrom (λ j t. ⊥) w) (sym (duty_is w m due w.now p.1 cut)) (acts-snaps w m (does_duty (member w m) (due_of (member w m) due) w.now) cut (runs w m p.0).0))
    (λ h. snaps-self (λ j t. ⊥) w)
step-snaps w (Delivers which cut) = comes-snaps w (slice_get w.sent which) cut
step-snaps w (Client m event cut) =
    if-cases (SnapsFrom (IsPut w (Client m event cut)) w) (is_running w m && are_of (member w m).values.election.term (event ∷ [])) _ _
    (λ h.
    let p = and_true (is_running w m) (are_of (member w m).values.election.term (event ∷ [])) h in
    subst (SnapsFrom (λ j t. ⊥) w) (sym (client_is w m event p.1 cut)) (acts-snaps w m (client_at (member w m).values.election.state (member w m) (entry_of event ∷ [])) cut (runs w m p.0).0))
    (λ h. snaps-self (λ j t. ⊥) w)
step-snaps w (Puts m k s cut) =
    if-cases (SnapsFrom (IsPut w (Puts m k s cut)) w) (is_running w m && names k s (member w m)) _ _
    (λ h. subst (SnapsFrom (IsPut w (Puts m k s cut)) w) (sym (putting-same w m s cut)) (putting-snaps w m k s cut cut (running-below w m (names k s (member w m)) h).0))
    (λ h. snaps-self (IsPut w (Puts m k s cut)) w)
step-snaps w (Invalidates m services) =
    if-cases (SnapsFrom (IsPut w (Invalidates m services)) w) (nat_lt m (length w.members) && not (member w m).up) _ _
    (λ h. snaps-put (λ j t. ⊥) w m (stopped (snapped (invalidated services (member w m).durable.snapshots) (member w m).durable)) [] [] [] (stopped-below w m h) (λ t k. inl (invalidated-has services t (member w m).durable.snapshots k)))
    (λ h. snaps-self (λ j t. ⊥) w)

-- the member that a step may change
abbrev pub IsActor : World → Step → ℕ → Type 0
IsActor w (Passes now) j = ⊥
IsActor w (Starts m services) j = (j ≡ m) × ((member w m).up ≡ false)
IsActor w (Stops m) j = (j ≡ m) × ((member (step w (Stops m)) m).up ≡ false)
IsActor w (Duty m due cut) j = j ≡ m
IsActor w (Delivers which cut) j = (s : Sent) × (slice_get w.sent which ≡ Some s) × (j ≡ s.to)
IsActor w (Client m entry cut) j = j ≡ m
IsActor w (Puts m k s cut) j = j ≡ m
IsActor w (Invalidates m services) j = (j ≡ m) × ((member w m).up ≡ false)

-- each other member stays as it is
abbrev Spares : World → (ℕ → Type 0) → World → Type 0
Spares w P v = (j : ℕ) → (member v j ≡ member w j) ⊎ P j

spares-put : (w : World) (P : ℕ → Type 0) (m : ℕ) (y : Member) (rs : List Raise) (ps : List Sent) (gs : List Reign) → P m → Spares w P (put w m y rs ps gs)
spares-put w P m y rs ps gs o j = elim (cases_eq j m) [ inl e ↦ inr (subst P (sym e) o) | inr ne ↦ inl (member-put_other w m j y rs ps gs ne) ]

spares-acts : (w : World) (P : ℕ → Type 0) (m : ℕ) (o : Outcome) (cut : Cut) → P m → Spares w P (acts w m (member w m) o cut)
unfolding acts
spares-acts w P m o Whole p =
    spares-put w P m (record { up = true; values = record { election = o.election; rest = o.rest }; durable = changed (member w m).durable o.change }) (raises_of m (member w m).durable.log o.change) o.packets (reigns_of m (member w m).values.election o.election (member w m).durable.log) p
spares-acts w P m o Before p = spares-put w P m (stopped (member w m).durable) [] [] [] p
spares-acts w P m o After p = spares-put w P m (stopped (changed (member w m).durable o.change)) (raises_of m (member w m).durable.log o.change) [] [] p

spares-comes : (w : World) (x : Option Sent) (cut : Cut) → Spares w (λ j. (s : Sent) × (x ≡ Some s) × (j ≡ s.to)) (comes w x cut)
spares-comes w None cut = λ j. inl refl
spares-comes w (Some s) cut =
    if-cases (Spares w (λ j. (z : Sent) × (Some s ≡ Some z) × (j ≡ z.to))) (is_running w s.to) _ _
    (λ h. subst (Spares w (λ j. (z : Sent) × (Some s ≡ Some z) × (j ≡ z.to))) (sym (packet_is w s.to s.packet w.now cut))
    (spares-acts w (λ j. (z : Sent) × (Some s ≡ Some z) × (j ≡ z.to)) s.to (receives (passes w s.to s.packet) (member w s.to) (sender_of s.packet) (says s.packet) w.now) cut (s, refl, refl)))
    (λ h j. inl refl)

spares-putting : (w : World) (m : ℕ) (all : List SnapshotEntry) (cut : Cut) → Spares w (λ j. j ≡ m) (putting w m (member w m) all cut)
spares-putting w m all Whole = spares-put w (λ j. j ≡ m) m (with_snaps (member w m) all) [] [] [] refl
spares-putting w m all Before = spares-put w (λ j. j ≡ m) m (stopped (member w m).durable) [] [] [] refl
spares-putting w m all After = spares-put w (λ j. j ≡ m) m (stopped (snapped all (member w m).durable)) [] [] [] refl

pub step-spares : (w : World) (s : Step) (j : ℕ) → (member (step w s) j ≡ member w j) ⊎ IsActor w s j
step-spares w (Passes now) j = inl refl
step-spares w (Starts m services) j =
    if-cases (λ v. (member v j ≡ member w j) ⊎ IsActor w (Starts m services) j) (nat_lt m (length w.members) && not (member w m).up) _ _
    (λ h. spares-put w (IsActor w (Starts m services)) m (starts m (length w.members) services (member w m).durable) [] [] [] (refl, not-true (member w m).up (and_true (nat_lt m (length w.members)) (not (member w m).up) h).1) j)
    (λ h. inl refl)
step-spares w (Stops m) j = at (is_running w m) refl
  where
    at : (b : Bool) → is_running w m ≡ b
        → (member (if b then put w m (stopped (member w m).durable) [] [] [] else w) j ≡ member w j) ⊎ ((j ≡ m) × ((member (if b then put w m (stopped (member w m).durable) [] [] [] else w) m).up ≡ false))
    at true h =
        let down : (member (put w m (stopped (member w m).durable) [] [] []) m).up ≡ false = ap (λ (x : Member). x.up) (member-put_same w m (stopped (member w m).durable) [] [] [] (runs w m h).0) in
        spares-put w (λ i. (i ≡ m) × ((member (put w m (stopped (member w m).durable) [] [] []) m).up ≡ false)) m (stopped (member w m).durable) [] [] [] (refl, down) j
    at false h = inl refl
step-spares w (Duty m due cut) j =
    if-cases (λ v. (member v j ≡ member w j) ⊎ (j ≡ m)) (is_running w m && are_of (member w m).values.election.term due) _ _
    (λ h.
    let p = and_true (is_running w m) (are_of (member w m).values.election.term due) h in
    subst (λ v. (member v j ≡ member w j) ⊎ (j ≡ m)) (sym (duty_is w m due w.now p.1 cut)) (spares-acts w (λ i. i ≡ m) m (does_duty (member w m) (due_of (member w m) due) w.now) cut refl j))
    (λ h. inl refl)
step-spares w (Delivers which cut) j = spares-comes w (slice_get w.sent which) cut j
step-spares w (Client m event cut) j =
    if-cases (λ v. (member v j ≡ member w j) ⊎ (j ≡ m)) (is_running w m && are_of (member w m).values.election.term (event ∷ [])) _ _
    (λ h.
    let p = and_true (is_running w m) (are_of (member w m).values.election.term (event ∷ [])) h in
    subst (λ v. (member v j ≡ member w j) ⊎ (j ≡ m)) (sym (client_is w m event p.1 cut)) (spares-acts w (λ i. i ≡ m) m (client_at (member w m).values.election.state (member w m) (entry_of event ∷ [])) cut refl j))
    (λ h. inl refl)
step-spares w (Puts m k s cut) j =
    if-cases (λ v. (member v j ≡ member w j) ⊎ (j ≡ m)) (is_running w m && names k s (member w m)) _ _
    (λ h. subst (λ v. (member v j ≡ member w j) ⊎ (j ≡ m)) (sym (putting-same w m s cut)) (spares-putting w m (put_in s (member w m).durable.snapshots) cut j)) (λ h. inl refl)
step-spares w (Invalidates m services) j =
    if-cases (λ v. (member v j ≡ member w j) ⊎ IsActor w (Invalidates m services) j) (nat_lt m (length w.members) && not (member w m).up) _ _
    (λ h. spares-put w (IsActor w (Invalidates m services)) m (stopped (snapped (invalidated services (member w m).durable.snapshots) (member w m).durable)) [] [] [] (refl, not-true (member w m).up (and_true (nat_lt m (length w.members)) (not (member w m).up) h).1) j)
    (λ h. inl refl)
