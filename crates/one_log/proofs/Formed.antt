-- Each step of the world keeps every log good, if what it brings to a leader's log is.
use Rattle.std.proofs.Common.{◌≡◌, ◌≢◌, inl, inr, ℕ, ◌<◌, ◌≤◌, ◌^◌, true, false, List, [], ◌∷◌, ◌++◌, length, refl, sym, ap, ◌∙◌, subst, arith, ℤ, pos, negsuc, ◌≤ℤ◌, ◌<ℤ◌, if◌then◌else◌}
use Rattle.std.specs.Prelude.{nat_lt, ⊤}
use Rattle.std.proofs.lemmas.Int.{ints}
use Rattle.std.proofs.lemmas.Bool.Decides.{nat_tests}
use Rattle.std.proofs.lemmas.List.{append-nil}
use Rattle.entry_log.specs.Log.{Log, last, place, IsPrefixOf, Rises}
use Rattle.election.specs.declared.member.State.TheVariants.{LeaderInit, LeaderReady}
use Rattle.log_replication.specs.Replication.{IsAnchored}
use Rattle.log_replication.specs.Prefixes.{Leads, leads, last-up, Rises-front}
use Rattle.service_api.specs.declared.shipped.Kind.{Kind}
use Rattle.consensus_core.specs.Reign.{entry_of}
use Rattle.world.proofs.Same.{due_of}
use Rattle.world.specs.World.{World, Raise, Reign, member, put, reigns_at, step, Step, Passes, Starts, Stops, Duty, Delivers, Client, Puts, Invalidates, formatted}
use Rattle.consensus_core.specs.Member.{Member, Sent}
use Rattle.world.proofs.Kept.{Inv}
use Rattle.world.proofs.Effects.{if-cases}
use Rattle.agreement.specs.View.{IsSettled, view_of}
use Rattle.agreement.proofs.Second.{reign_of, Fits, is_leader_ready}
use Rattle.agreement.proofs.Runs2.{committed-reign}
use Rattle.one_log.proofs.Reigning.{LogsOn, opening}
use Rattle.one_log.proofs.Steps.{Leaves, Brings, step-cases}
use Rattle.one_log.proofs.Opened.{Opened, reign-cases}
use Rattle.one_log.proofs.Good.{Good, good-nil, good-front, good-later, good-open}

pub record Formed (kinds : List Kind) (w : World) : Type 0 where
  pub moment : w.now ≤ 2 ^ 60
  pub good : (t : ℤ) → Good kinds w.now (reign_of w t)

-- a list that goes back to the reigns is good
pub good-anchored : (kinds : List Kind) (w : World) (log : Log) → Formed kinds w → IsAnchored (reign_of w) log → Good kinds w.now log
good-anchored kinds w [] g a = good-nil kinds w.now
good-anchored kinds w (x ∷ xs) g a = good-front kinds w.now (x ∷ xs) (reign_of w (last (x ∷ xs))) (leads (x ∷ xs) (reign_of w (last (x ∷ xs))) (a (x ∷ xs) ([], append-nil (x ∷ xs)) (λ z. cc))) (g.good (last (x ∷ xs)))

-- and so is what is settled
pub good-settled : (n : ℕ) (kinds : List Kind) (w : World) (c : ℤ) (xs : Log) → Fits n w → Formed kinds w → IsSettled (view_of w) c xs → Good kinds w.now xs
good-settled n kinds w c xs f g (inl e) = subst (Good kinds w.now) (sym e) (good-nil kinds w.now)
good-settled n kinds w c xs f g (inr s) =
    good-front kinds w.now xs s.1 (leads xs s.1 s.4) (good-front kinds w.now s.1 (reign_of w s.0) (leads s.1 (reign_of w s.0) (committed-reign n w s.0 s.1 f s.3)) (g.good s.0))

-- the log of a leader stays good with these
abbrev pub OwnGood : List Kind → World → ℕ → Log → Type 0
OwnGood kinds w m own = (member w m).up ≡ true → (member w m).values.election.state ≡ LeaderReady → Good kinds w.now ((member w m).durable.log ++ own)

-- a reigning member's log is its reign's
pub good-own : (n : ℕ) (kinds : List Kind) (w : World) (m : ℕ) → Fits n w → Formed kinds w → reigns_at (member w m).values.election.state ≡ true → Good kinds w.now (member w m).durable.log
good-own n kinds w m f g h = subst (Good kinds w.now) ((f.members m).reigns h).0 (g.good (member w m).values.election.term)

-- a leader's last entry is of its term
pub leader-last : (n : ℕ) (w : World) (m : ℕ) → Fits n w → (member w m).values.election.state ≡ LeaderReady → last (member w m).durable.log ≡ (member w m).values.election.term
leader-last n w m f at =
    let x = member w m in
    let z = (f.members m).leading (ready at) in
    let q = (f.members m).reigns (ap reigns_at at) in
    let rises : Rises x.durable.log = subst Rises q.0 (f.grounded.rises x.values.election.term) in
    let up = last-up (negsuc 0) z.own x.durable.log rises (leads z.own x.durable.log z.front) in
    let top : last x.durable.log ≤ℤ x.values.election.term = subst (λ (l : Log). last l ≤ℤ x.values.election.term) q.0 (f.grounded.top x.values.election.term (some z.own x.durable.log (reign_of w x.values.election.term) z.some z.front q.0)) in
    let t = z.term in
    between (last x.durable.log) x.values.election.term top (omega (arith, ints, up, t))
  where
    ready : (member w m).values.election.state ≡ LeaderReady → is_leader_ready (member w m).values.election.state ≡ true
    ready e = ap is_leader_ready e

    between : (a b : ℤ) → a ≤ℤ b → b ≤ℤ a → a ≡ b
    between a b p q = grind (arith, ints)

    some : (own log reign : Log) → own ≢ [] → IsPrefixOf own log → reign ≡ log → reign ≢ []
    some [] log reign ne p e z = ne refl
    some (o ∷ os) log reign ne p e z = absurd (let k = p.1 ∙ sym e ∙ z in cc)

-- terms of reigns are numbers within the limit
pub reign-number : (n : ℕ) (w : World) (m : ℕ) → Inv n w → Fits n w → Opened w → reigns_at (member w m).values.election.state ≡ true → (pos 0 ≤ℤ (member w m).values.election.term) × ((member w m).values.election.term ≤ℤ pos (2 ^ 62))
reign-number n w m i f o h =
    let x = member w m in
    let q = (f.members m).reigns h in
    let r : Reign = record { term = x.values.election.term; member = m; first = q.1 } in
    let before : last q.1 <ℤ x.values.election.term = f.grounded.before r q.2 in
    let first : Leads q.1 (reign_of w x.values.election.term) = leads q.1 (reign_of w x.values.election.term) (f.grounded.first r q.2) in
    let low = last-up (negsuc 0) [] q.1 (Rises-front (negsuc 0) q.1 (reign_of w x.values.election.term) first (f.grounded.rises x.values.election.term)) tt in
    ((omega (arith, ints, before, low)), o.low _ (i.reigns r q.2).first)

module _ (n : ℕ) (kinds : List Kind) (w : World) (m : ℕ) (own : Log) (y : Member) (rs : List Raise) (ps : List Sent) (gs : List Reign) (five : n ≤ 5) (l : m < length w.members) (i : Inv n w) (f : Fits n w) (o : Opened w) (g : Formed kinds w) (z : Leaves w m own y rs gs) (ours : OwnGood kinds w m own) where
  abbrev x : Member
  x = member w m

  -- P10's entry
  opens : x.values.election.state ≡ LeaderInit → nat_lt 16777216 (place (x.durable.log ++ opening x w.now ∷ [])) ≡ false → x.values.election.id ≡ m → Good kinds w.now (x.durable.log ++ opening x w.now ∷ [])
  opens at room id =
      let h : reigns_at x.values.election.state ≡ true = ap reigns_at at in
      let q = (f.members m).reigns h in
      let r : Reign = record { term = x.values.election.term; member = m; first = q.1 } in
      let first : q.1 ≡ x.durable.log = o.init m at r q.2 refl in
      let before : last x.durable.log <ℤ x.values.election.term = subst (λ (u : Log). last u <ℤ x.values.election.term) first (f.grounded.before r q.2) in
      let t = reign-number n w m i f o h in
      let fits : place (x.durable.log ++ opening x w.now ∷ []) ≤ 16777216 = grind (arith, nat_tests, room) in
      let count = i.count in
      good-open kinds w.now x.durable.log x.values.election.term x.values.election.id (good-own n kinds w m f g h) before t.0 t.1 g.moment (omega (arith, id, l, five, count)) fits

  after : reigns_at x.values.election.state ≡ true → LogsOn x w.now own y.durable.log → Good kinds w.now y.durable.log
  after h (inl same) = subst (Good kinds w.now) (sym same) (good-own n kinds w m f g h)
  after h (inr (inl c)) = elim (z.id h) [
    | inl same ↦ subst (Good kinds w.now) (sym same) (good-own n kinds w m f g h)
    | inr id ↦ subst (Good kinds w.now) (sym c.2) (opens c.0 c.1 id)
  ]
  after h (inr (inr c)) = elim z.runs [
    | inl same ↦ subst (Good kinds w.now) (sym same) (good-own n kinds w m f g h)
    | inr up ↦ subst (Good kinds w.now) (sym c.1) (ours up c.0)
  ]

  pub put-formed : Formed kinds (put w m y rs ps gs)
  put-formed = record {
    moment = g.moment;
    good = λ t. elim (reign-cases w m own y rs ps gs z t) [
      | inl same ↦ subst (Good kinds w.now) (sym same) (g.good t)
      | inr more ↦ elim more [
        | inl c ↦ subst (Good kinds w.now) (sym c.2) (after c.0 (z.reigning.on c.0))
        | inr c ↦ subst (Good kinds w.now) (sym c.2) (good-anchored kinds w x.durable.log g (f.grounded.anchored m))
      ]
    ];
  }

-- what a step brings is good, and time rises within its limit
abbrev pub StepGood : List Kind → World → Step → Type 0
StepGood kinds w (Passes now) = now ≤ 2 ^ 60
StepGood kinds w (Duty m due cut) = OwnGood kinds w m (due_of (member w m) due)
StepGood kinds w (Client m event cut) = OwnGood kinds w m (entry_of event ∷ [])
StepGood kinds w (Starts m services) = ⊤
StepGood kinds w (Stops m) = ⊤
StepGood kinds w (Delivers which cut) = ⊤
StepGood kinds w (Puts m k s cut) = ⊤
StepGood kinds w (Invalidates m services) = ⊤

nothing-good : (n : ℕ) (kinds : List Kind) (w : World) (m : ℕ) (own : Log) → Fits n w → Formed kinds w → own ≡ [] → OwnGood kinds w m own
nothing-good n kinds w m own f g e up at = subst (Good kinds w.now) (sym (append-nil (member w m).durable.log) ∙ ap (λ (u : Log). (member w m).durable.log ++ u) (sym e)) (good-own n kinds w m f g (ap reigns_at at))

brought-good : (n : ℕ) (kinds : List Kind) (w : World) (s : Step) (m : ℕ) (own : Log) → Fits n w → Formed kinds w → StepGood kinds w s → Brings w s m own → OwnGood kinds w m own
brought-good n kinds w (Passes now) m own f g ok b = nothing-good n kinds w m own f g b
brought-good n kinds w (Duty j due cut) m own f g ok b = subst (λ u. OwnGood kinds w u own) (sym b.0) (subst (OwnGood kinds w j) (sym b.1) ok)
brought-good n kinds w (Client j event cut) m own f g ok b = subst (λ u. OwnGood kinds w u own) (sym b.0) (subst (OwnGood kinds w j) (sym b.1) ok)
brought-good n kinds w (Starts j services) m own f g ok b = nothing-good n kinds w m own f g b
brought-good n kinds w (Stops j) m own f g ok b = nothing-good n kinds w m own f g b
brought-good n kinds w (Delivers which cut) m own f g ok b = nothing-good n kinds w m own f g b
brought-good n kinds w (Puts j k s cut) m own f g ok b = nothing-good n kinds w m own f g b
brought-good n kinds w (Invalidates j services) m own f g ok b = nothing-good n kinds w m own f g b

passes-formed : (kinds : List Kind) (w : World) (now : ℕ) → now ≤ 2 ^ 60 → Formed kinds w → Formed kinds (step w (Passes now))
passes-formed kinds w now early g = record {
  moment = if-cases (λ (u : ℕ). u ≤ 2 ^ 60) (nat_lt w.now now) now w.now (λ h. early) (λ h. g.moment);
  good = λ t. good-later kinds w.now (if nat_lt w.now now then now else w.now) (reign_of w t) (if-cases (λ (u : ℕ). w.now ≤ u) (nat_lt w.now now) now w.now (λ h. let lt : w.now < now = grind (arith, nat_tests, h) in omega (arith, lt)) (λ h. omega arith)) (g.good t);
}

pub step-formed : (n : ℕ) (kinds : List Kind) (w : World) (s : Step) → n ≤ 5 → Inv n w → Fits n w → Opened w → Formed kinds w → StepGood kinds w s → Formed kinds (step w s)
step-formed n kinds w s five i f o g ok =
    step-cases n w s (Formed kinds) i g (λ now e. passes-formed kinds w now (subst (StepGood kinds w) e ok) g)
    (λ m own l b y rs ps gs z. put-formed n kinds w m own y rs ps gs five l i f o g z (brought-good n kinds w s m own f g ok b))

pub formatted-formed : (n : ℕ) (kinds : List Kind) → Formed kinds (formatted n)
formatted-formed n kinds = record { moment = omega arith; good = λ t. good-nil kinds 0 }
