-- Each step of the world is none, a moment, or one put, of which this is known.
use Rattle.std.proofs.Common.{◌≡◌, ◌⊎◌, inl, inr, ℕ, ◌<◌, Bool, true, false, not, ◌&&◌, List, [], ◌∷◌, length, refl, sym, ap, subst, Some, None, Option, if◌then◌else◌}
use Rattle.std.specs.Prelude.{Contains, slice_get, nat_lt}
use Rattle.entry_log.specs.Durable.{SnapshotEntry}
use Rattle.entry_log.specs.Log.{Log}
use Rattle.election.specs.declared.member.State.{State}
use Rattle.election.specs.declared.member.State.TheVariants.{LeaderInit, Closed}
use Rattle.log_replication.specs.Prefixes.{Leads-self}
use Rattle.entry_log.specs.Durable.{put_in, invalidated}
use Rattle.world.specs.World.{World, Raise, Reign, member, put, is_elected, reigns_at, reigns_of, names, is_running, step, Step, Passes, Starts, Stops, Duty, Delivers, Client, Puts, Invalidates}
use Rattle.consensus_core.specs.Member.{Member, Sent, Cut, Whole, Before, After, stopped, starts, snapped}
use Rattle.consensus_core.specs.Sendable.{sender_of}
use Rattle.world.specs.Said.{says, Said, CanvassOf, RequestOf, VoteOf, AnnounceOf, AnswerOf, ReportOf, CommitOf, BatchOf}
use Rattle.world.proofs.LogRows.{Outcome, Change, Nothing, RaiseTo, Append, CutTo, acts, changed, raises_of, receives, does_duty, client_at}
use Rattle.consensus_core.specs.Reign.{entry_of}
use Rattle.world.proofs.Rows.{and_true}
use Rattle.world.proofs.Same.{duty_is, packet_is, client_is, due_of, passes as passes_test}
use Rattle.world.proofs.Snaps.{putting, putting-same}
use Rattle.world.specs.World.{comes, are_of}
use Rattle.world.proofs.Kept.{Inv, SentOk, PacketOk}
use Rattle.world.proofs.Effects.{if-cases, none_in, only_in}
use Rattle.world.proofs.Runs.{runs, at_place}
use Rattle.world.proofs.Snaps.{with_snaps, running-below, stopped-below}
use Rattle.one_log.proofs.Reigning.{IsLow, LowChange, Reigning, RowReigns, RequestLow, does_duty-fine, receives-fine, client-fine}

-- what a put of the member m leaves, in which a leader may append these
pub record Leaves (w : World) (m : ℕ) (own : Log) (y : Member) (rs : List Raise) (gs : List Reign) : Type 0 where
  pub runs : (y.durable.log ≡ (member w m).durable.log) ⊎ ((member w m).up ≡ true)
  pub id : reigns_at (member w m).values.election.state ≡ true → (y.durable.log ≡ (member w m).durable.log) ⊎ ((member w m).values.election.id ≡ m)
  pub reigning : Reigning (member w m) w.now own y.values.election y.durable.log
  pub low : (r : Raise) → Contains rs r → IsLow w r.term
  pub begun : y.values.election.state ≡ LeaderInit → reigns_at (member w m).values.election.state ≡ false → gs ≡ record { term = y.values.election.term; member = m; first = (member w m).durable.log } ∷ []
  pub new : (gs ≡ []) ⊎ ((gs ≡ record { term = y.values.election.term; member = m; first = (member w m).durable.log } ∷ []) × (y.values.election.state ≡ LeaderInit) × (reigns_at (member w m).values.election.state ≡ false))

-- what a step may bring to a leader's log
abbrev pub Brings : World → Step → ℕ → Log → Type 0
Brings w (Duty m due cut) j own = (j ≡ m) × (own ≡ due_of (member w m) due)
Brings w (Client m event cut) j own = (j ≡ m) × (own ≡ entry_of event ∷ [])
Brings w (Passes now) j own = own ≡ []
Brings w (Starts m services) j own = own ≡ []
Brings w (Stops m) j own = own ≡ []
Brings w (Delivers which cut) j own = own ≡ []
Brings w (Puts m k s cut) j own = own ≡ []
Brings w (Invalidates m services) j own = own ≡ []

-- what holds after each put of this member holds after its row
abbrev pub Puts-hold : World → (World → Type 0) → ℕ → Log → Type 0
Puts-hold w P m own = (y : Member) (rs : List Raise) (ps : List Sent) (gs : List Reign) → Leaves w m own y rs gs → P (put w m y rs ps gs)

same-log : (w : World) (m : ℕ) (own : Log) (y : Member) → y.durable.log ≡ (member w m).durable.log → y.values.election.state ≡ Closed → Leaves w m own y [] []
same-log w m own y e st = record {
  runs = inl e;
  id = λ h. inl e;
  reigning = record { on = λ h. inl e; init = λ h. absurd (cc); ready = λ h. absurd (cc) };
  low = λ r h. absurd (none_in r h);
  begun = λ h. absurd (cc);
  new = inl refl;
}

elected-init : (s : State) → is_elected s ≡ true → s ≡ LeaderInit
elected-init LeaderInit h = refl
elected-init _ h = absurd (cc)

reigns-elected : (s : State) → reigns_at s ≡ false → is_elected s ≡ false
reigns-elected LeaderInit h = absurd (cc)
reigns-elected _ h = refl

low-raises : (w : World) (m : ℕ) (log : Log) (c : Change) → LowChange w c → (r : Raise) → Contains (raises_of m log c) r → IsLow w r.term
low-raises w m log Nothing low r h = absurd (none_in r h)
low-raises w m log (RaiseTo c None) low r h = absurd (none_in r h)
low-raises w m log (RaiseTo c (Some k)) low r h = subst (λ (z : Raise). IsLow w z.term) (only_in _ r h) low
low-raises w m log (Append es) low r h = absurd (none_in r h)
low-raises w m log (CutTo left) low r h = absurd (none_in r h)

pub acts-put : (w : World) (P : World → Type 0) (m : ℕ) (own : Log) (o : Outcome) (cut : Cut) → (member w m).up ≡ true → (member w m).values.election.id ≡ m → RowReigns w (member w m) w.now own o → Puts-hold w P m own → P (acts w m (member w m) o cut)
unfolding acts
acts-put w P m own o Whole up id z f =
    let x = member w m in
    let y : Member = record { up = true; values = record { election = o.election; rest = o.rest }; durable = changed x.durable o.change } in
    f y (raises_of m x.durable.log o.change) o.packets (reigns_of m x.values.election o.election x.durable.log) (record {
      runs = inr up;
      id = λ h. inr id;
      reigning = record { on = z.reigning.on; init = z.reigning.init; ready = z.reigning.ready };
      low = low-raises w m x.durable.log o.change z.low;
      begun = λ at was. let a = ap is_elected at in let b = reigns-elected x.values.election.state was in rw (b, a) refl;
      new = at (is_elected x.values.election.state) (is_elected o.election.state) refl refl (record { term = o.election.term; member = m; first = x.durable.log } ∷ []) refl;
    })
  where
    at : (a b : Bool) → is_elected (member w m).values.election.state ≡ a → is_elected o.election.state ≡ b → (rs : List Reign) → rs ≡ record { term = o.election.term; member = m; first = (member w m).durable.log } ∷ []
        → ((if not a && b then rs else []) ≡ []) ⊎ (((if not a && b then rs else []) ≡ record { term = o.election.term; member = m; first = (member w m).durable.log } ∷ []) × (o.election.state ≡ LeaderInit) × (reigns_at (member w m).values.election.state ≡ false))
    at true b e g rs is = inl refl
    at false false e g rs is = inl refl
    at false true e g rs is = inr (is, elected-init o.election.state g, fresh (z.reigning.init (elected-init o.election.state g)).1)
      where
        fresh : (((member w m).values.election.state ≡ LeaderInit) × (o.election.term ≡ (member w m).values.election.term)) ⊎ (reigns_at (member w m).values.election.state ≡ false) → reigns_at (member w m).values.election.state ≡ false
        fresh (inl c) = absurd (let k = ap is_elected c.0 in cc)
        fresh (inr c) = c
acts-put w P m own o Before up id z f = f (stopped (member w m).durable) [] [] [] (same-log w m own (stopped (member w m).durable) refl refl)
acts-put w P m own o After up id z f =
    let x = member w m in
    f (stopped (changed x.durable o.change)) (raises_of m x.durable.log o.change) [] [] (record {
      runs = inr up;
      id = λ h. inr id;
      reigning = record { on = z.reigning.on; init = λ h. absurd (cc); ready = λ h. absurd (cc) };
      low = low-raises w m x.durable.log o.change z.low;
      begun = λ h. absurd (cc);
      new = inl refl;
    })

putting-put : (w : World) (P : World → Type 0) (m : ℕ) (all : List SnapshotEntry) (cut : Cut) → Puts-hold w P m [] → P (putting w m (member w m) all cut)
putting-put w P m all Whole f = f (with_snaps (member w m) all) [] [] [] (record {
  runs = inl refl;
  id = λ h. inl refl;
  reigning = record { on = λ h. inl refl; init = λ h. (refl, inl (h, refl)); ready = λ h. (refl, inl (h, Leads-self (member w m).durable.log)) };
  low = λ r h. absurd (none_in r h);
  begun = λ at was. absurd (let z = ap reigns_at at in cc);
  new = inl refl;
})
putting-put w P m all Before f = f (stopped (member w m).durable) [] [] [] (same-log w m [] (stopped (member w m).durable) refl refl)
putting-put w P m all After f = f (stopped (snapped all (member w m).durable)) [] [] [] (same-log w m [] (stopped (snapped all (member w m).durable)) refl refl)

request-low : (w : World) (s : Sent) → SentOk w s → RequestLow w (member w s.to) [] w.now (says s.packet)
request-low w s ok = at (sender_of s.packet) s.to (says s.packet) ok
  where
    at : (from to : ℕ) (p : Said) → PacketOk w from to p → RequestLow w (member w s.to) [] w.now p
    at from to (RequestOf c name) ok = inr (record { voter = from; term = c; choice = from; log = ok.0 }, ok.1, refl)
    at from to (CanvassOf named c) ok = tt
    at from to (VoteOf c given own) ok = tt
    at from to (AnnounceOf t) ok = tt
    at from to (AnswerOf t asked keep) ok = tt
    at from to (ReportOf t p) ok = tt
    at from to (CommitOf t c) ok = tt
    at from to (BatchOf t start entries) ok = tt

known-id : (n : ℕ) (w : World) (m : ℕ) → Inv n w → m < length w.members → (member w m).up ≡ true → (member w m).values.election.id ≡ m
known-id n w m i l up = ((i.members m (subst (λ z. m < z) i.count l)).known up).id

-- what is so now, after each moment, and after each put that a step can make, is so after the step
pub step-cases : (n : ℕ) (w : World) (s : Step) (P : World → Type 0) → Inv n w → P w → ((now : ℕ) → s ≡ Passes now → P (step w (Passes now)))
    → ((m : ℕ) (own : Log) → m < length w.members → Brings w s m own → Puts-hold w P m own) → P (step w s)
step-cases n w (Passes now) P i same passes f = passes now refl
step-cases n w (Starts m services) P i same passes f =
    if-cases P (nat_lt m (length w.members) && not (member w m).up) _ _
    (λ h. f m [] (stopped-below w m h) refl (starts m (length w.members) services (member w m).durable) [] [] [] (record {
      runs = inl refl;
      id = λ h. inl refl;
      reigning = record { on = λ h. inl refl; init = λ h. absurd (cc); ready = λ h. absurd (cc) };
      low = λ r h. absurd (none_in r h);
      begun = λ h. absurd (cc);
      new = inl refl;
    }))
    (λ h. same)
step-cases n w (Stops m) P i same passes f = if-cases P (is_running w m) _ _ (λ h. f m [] (runs w m h).0 refl (stopped (member w m).durable) [] [] [] (same-log w m [] (stopped (member w m).durable) refl refl)) (λ h. same)
step-cases n w (Duty m due cut) P i same passes f =
    if-cases P (is_running w m && are_of (member w m).values.election.term due) _ _
    (λ h.
    let p = and_true (is_running w m) (are_of (member w m).values.election.term due) h in
    let r = runs w m p.0 in
    let es = due_of (member w m) due in
    subst P (sym (duty_is w m due w.now p.1 cut)) (acts-put w P m es (does_duty (member w m) es w.now) cut r.1 (known-id n w m i r.0 r.1) (does_duty-fine w (member w m) es w.now) (f m es r.0 (refl, refl))))
    (λ h. same)
step-cases n w (Delivers which cut) P i same passes f = at (slice_get w.sent which) (λ x e. i.sent x (at_place w.sent which x e))
  where
    at : (s : Option Sent) → ((x : Sent) → s ≡ Some x → SentOk w x) → P (comes w s cut)
    at None ok = same
    at (Some s) ok =
        if-cases P (is_running w s.to) _ _
        (λ h.
        let r = runs w s.to h in
        let b = passes_test w s.to s.packet in
        subst P (sym (packet_is w s.to s.packet w.now cut)) (acts-put w P s.to [] (receives b (member w s.to) (sender_of s.packet) (says s.packet) w.now) cut r.1 (known-id n w s.to i r.0 r.1) (receives-fine w (member w s.to) [] w.now b (sender_of s.packet) (says s.packet) (request-low w s (ok s refl))) (f s.to [] r.0 refl)))
        (λ h. same)
step-cases n w (Client m event cut) P i same passes f =
    if-cases P (is_running w m && are_of (member w m).values.election.term (event ∷ [])) _ _
    (λ h.
    let p = and_true (is_running w m) (are_of (member w m).values.election.term (event ∷ [])) h in
    let r = runs w m p.0 in
    let es : Log = entry_of event ∷ [] in
    subst P (sym (client_is w m event p.1 cut)) (acts-put w P m es (client_at (member w m).values.election.state (member w m) es) cut r.1 (known-id n w m i r.0 r.1) (client-fine w (member w m) es w.now (member w m).values.election.state refl) (f m es r.0 (refl, refl))))
    (λ h. same)
step-cases n w (Puts m k s cut) P i same passes f =
    if-cases P (is_running w m && names k s (member w m)) _ _
    (λ h. subst P (sym (putting-same w m s cut)) (putting-put w P m (put_in s (member w m).durable.snapshots) cut (f m [] (running-below w m (names k s (member w m)) h).0 refl)))
    (λ h. same)
step-cases n w (Invalidates m services) P i same passes f =
    if-cases P (nat_lt m (length w.members) && not (member w m).up) _ _
    (λ h. f m [] (stopped-below w m h) refl (stopped (snapped (invalidated services (member w m).durable.snapshots) (member w m).durable)) [] [] []
    (same-log w m [] (stopped (snapped (invalidated services (member w m).durable.snapshots) (member w m).durable)) refl refl))
    (λ h. same)
